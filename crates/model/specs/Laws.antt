-- The laws that every list of calls keeps, in the market's own words.
use Rattle.std.specs.Prelude.{◌≡◌, ℕ, ◌+◌, ◌<◌, ◌≤◌, min, true, false, ◌⊎◌, List, [], ◌∷◌, ◌++◌, length, drop, ◌≢◌}
use Rattle.std.specs.List.{ContainsAt as Has, AllByRecursion}
use Rattle.model.specs.Types.{Buy, Sell, Order, Phase, PreOpening, Random, Called, Trading, Closed, TapeRecord, Trade, Withdrawal, Call, Enter, Withdraw, BeginRandom, Auction, Close}
use Rattle.model.specs.Numbers.{max_places, no_refusal}
use Rattle.model.specs.Grid.{Settings, active}
use Rattle.model.specs.Rank.{before}
use Rattle.model.specs.Rules.{Rule}
use Rattle.model.specs.Orders.{is_market, left_in}
use Rattle.model.specs.Records.{total_traded, total_withdrawn}
use Rattle.model.specs.State.{State, takes_orders, takes_withdrawals, takes_close, Outcome}
use Rattle.model.specs.Trading.{limit}
use Rattle.model.specs.Making.{New}
use Rattle.model.specs.Run.{run, after, records, tape_after}
use Rattle.model.specs.Lawful.{Lawful}
use Rattle.model.specs.Allocations.{Optimal}

-- each call of a list has its outcome, and the session before it, the call and the outcome have L
abbrev pub each_call : (State → Call → Outcome → Type 0) → State → List Call → List Outcome → Type 0
each_call L s [] [] = Unit {0}
each_call L s [] (o ∷ os) = ⊥
each_call L s (c ∷ cs) [] = ⊥
each_call L s (c ∷ cs) (o ∷ os) = L s c o × each_call L o.state cs os

-- what holds of an auction that is done
abbrev pub of_auction : Call → Outcome → Type 0 → Type 0
of_auction (Enter e) o L = Unit {0}
of_auction (Withdraw m n) o L = Unit {0}
of_auction BeginRandom o L = Unit {0}
of_auction Auction o L = o.refusal ≡ no_refusal → L
of_auction Close o L = Unit {0}

-- a call that is refused answers 0, writes nothing and leaves the session as it was
abbrev pub unchanged : State → Call → Outcome → Type 0
unchanged s c o = (o.refusal ≢ no_refusal) → (o.answer ≡ 0) × (o.records ≡ []) × (o.state ≡ s)

-- the phases that a call which is done may find and leave: trading begins with an auction, and ends with an interruption by an order or with the close
abbrev pub leads : Call → Phase → Phase → Type 0
leads (Enter e) from to = (takes_orders from ≡ true) × ((to ≡ from) ⊎ ((from ≡ Trading) × (to ≡ PreOpening)))
leads (Withdraw m n) from to = (takes_withdrawals from ≡ true) × (to ≡ from)
leads BeginRandom from to = (from ≡ PreOpening) × (to ≡ Random)
leads Auction from to = (from ≡ Random) × (to ≡ Trading)
leads Close from to = (takes_close from ≡ true) × (to ≡ Closed)

-- the law of the day's course
abbrev pub in_course : State → Call → Outcome → Type 0
in_course s c o = o.refusal ≡ no_refusal → leads c s.phase o.state.phase

-- the law of optimal auctions
abbrev pub optimal : Rule → State → Call → Outcome → Type 0
optimal r s c o = of_auction c o ((p : ℕ) × Optimal r s.settings s.orders o p)

-- price-time priority: where an order trades in an auction, every active order of its side that ranks before it trades whole
abbrev pub Priority : Settings → List Order → List TapeRecord → Type 0
Priority g os rs = (x y : Order) → Has os x → Has os y → x.side ≡ y.side → active g x.price ≡ true → before y.side x y ≡ true → 0 < total_traded y.number rs → total_traded x.number rs ≡ x.left

-- the law of priority
abbrev pub in_rank : State → Call → Outcome → Type 0
in_rank s c o = of_auction c o (Priority s.settings s.orders o.records)

-- no market order stands, and no active buy stands at or above an active sell
pub record Uncrossed (g : Settings) (os : List Order) : Type 0 where
  pub no_market : AllByRecursion (λ o. is_market o.price ≡ false) os
  pub apart : (x y : Order) → Has os x → Has os y → x.side ≡ Buy → y.side ≡ Sell → active g x.price ≡ true → active g y.price ≡ true
      → limit x.price < limit y.price

-- the law of trading, in the phase of trading
abbrev pub while_trading : Phase → State → Type 0
while_trading PreOpening s = Unit {0}
while_trading Random s = Unit {0}
while_trading (Called p v) s = Unit {0}
while_trading Trading s = Uncrossed s.settings s.orders
while_trading Closed s = Unit {0}

-- what records show traded and withdrawn of the order n, and what stands of it
abbrev pub accounted_for : List TapeRecord → List Order → ℕ → ℕ
accounted_for rs os n = (total_traded n rs + total_withdrawn n rs) + left_in os n

-- that is an accepted order's quantity
abbrev pub accounted : List TapeRecord → List Order → State → Call → Outcome → Type 0
accounted rs os s (Enter e) o = o.refusal ≡ no_refusal → e.quantity ≡ accounted_for rs os o.answer
accounted rs os s (Withdraw m n) o = Unit {0}
accounted rs os s BeginRandom o = Unit {0}
accounted rs os s Auction o = Unit {0}
accounted rs os s Close o = Unit {0}

-- no order is both the buy and the sell of a trade
abbrev pub TwoParties : TapeRecord → Type 0
TwoParties (Trade b s p q) = b ≡ s → ⊥
TwoParties (Withdrawal n q r) = Unit {0}

-- the records of a list stand on the tape from its first place on, within its length and the most places used; the places beyond are as they were
pub record OnTape (tape : ℕ) (s : State) (os : List Outcome) : Type 0 where
  pub counted : (after s os).used ≡ length (records os)
  pub room : length (records os) ≤ min tape max_places
  pub written : (places : List TapeRecord) → length places ≡ tape → tape_after places s os ≡ records os ++ drop (length (records os)) places

-- what a list keeps: refused calls change nothing, phases follow the day's course, auctions are optimal and in rank, no orders cross while trading runs, every quantity is accounted for, no order trades with itself, and the records are on the tape
pub record Kept (r : Rule) (tape : ℕ) (s : State) (cs : List Call) (os : List Outcome) : Type 0 where
  pub refusals : each_call unchanged s cs os
  pub course : each_call in_course s cs os
  pub auctions : each_call (optimal r) s cs os
  pub priority : each_call in_rank s cs os
  pub trading : AllByRecursion (λ o. while_trading o.state.phase o.state) os
  pub conserved : each_call (accounted (records os) (after s os).orders) s cs os
  pub parties : AllByRecursion TwoParties (records os)
  pub taped : OnTape tape s os

-- under a lawful rule, with a tape and a scratch of any length, every list keeps the laws from every new session; a list that is refused runs no call
abbrev pub TheSessionKeepsItsLaws : Type 0
TheSessionKeepsItsLaws = (r : Rule) → Lawful r → (tape scratch : ℕ) (s : State) → New s → (cs : List Call) → Kept r tape s cs (run r tape scratch s cs)
