-- The other calls of a session: when each is refused, and what it answers, writes and leaves.
use Rattle.std.specs.Prelude.{ℕ, zero, suc, Bool, false, not, ◌&&◌, List, [], ◌∷◌, ◌++◌, map, length, drop, Some, None, filter, Option, ◌==◌, nat_le}
use Rattle.model.specs.Types.{Order, Point, Phase, PreOpening, Random, Called, Trading, Closed, WrongPhase, TapeFull, UnknownOrder, ForeignCalledPrice, ScratchTooShort, ByMember, AfterAuction, AtClose, TapeRecord, Withdrawal}
use Rattle.model.specs.Numbers.{code, no_refusal}
use Rattle.model.specs.Grid.{count}
use Rattle.model.specs.Curve.{curve, traded}
use Rattle.model.specs.Rules.{Rule}
use Rattle.model.specs.Orders.{is_market, find, lower, left_of, withdrawal}
use Rattle.model.specs.State.{State, takes_withdrawals, takes_close, is_pre_opening, is_random, Outcome, advance, done, ask, unless, fits}
use Rattle.model.specs.Auction.{call_price, trades_at, struck_orders, struck_records}

-- a withdrawal takes all that is left of its order, and answers it
abbrev pub withdrawn : State → ℕ → Outcome
withdrawn s n =
    let q : ℕ = left_of (find n s.orders) in
    let recs : List TapeRecord = Withdrawal n q ByMember ∷ [] in
    done q recs (advance s s.phase s.reference s.last recs (lower n q s.orders))

-- the order that was found is the member's
abbrev pub stands_for : ℕ → Option Order → Bool
stands_for m None = false
stands_for m (Some o) = o.member == m

-- the questions of a withdrawal
abbrev pub withdraw : State → ℕ → ℕ → ℕ → Outcome
withdraw s tape m n =
    let o : Outcome = withdrawn s n in
    unless
    (ask (takes_withdrawals s.phase) WrongPhase
    (ask (stands_for m (find n s.orders)) UnknownOrder
    (ask (fits s tape o.records) TapeFull no_refusal))) s o

-- the random period begins
abbrev pub begun : State → Outcome
begun s = done 0 [] (advance s Random s.reference s.last [] s.orders)

-- the question of the random period
abbrev pub begin_random : State → Outcome
begin_random s = unless (ask (is_pre_opening s.phase) WrongPhase no_refusal) s (begun s)

-- a close withdraws every order, and answers how many
abbrev pub closed : State → Outcome
closed s =
    let recs : List TapeRecord = map (withdrawal AtClose) s.orders in
    done (length s.orders) recs (advance s Closed s.reference s.last recs [])

-- the questions of a close
abbrev pub close : State → ℕ → Outcome
close s tape =
    let o : Outcome = closed s in
    unless (ask (takes_close s.phase) WrongPhase (ask (fits s tape o.records) TapeFull no_refusal)) s o

-- an order without a limit price
abbrev pub is_market_order : Order → Bool
is_market_order o = is_market o.price

-- without a price the market orders are withdrawn, and trading begins
abbrev pub unpriced : State → Outcome
unpriced s =
    let recs : List TapeRecord = map (withdrawal AfterAuction) (filter is_market_order s.orders) in
    done 0 recs (advance s Trading s.reference s.last recs (filter (λ o. not (is_market_order o)) s.orders))

-- with one, it is called, with the quantity that trades at it
abbrev pub priced : State → Point → Outcome
priced s x = done 0 [] (advance s (Called x.price (traded x)) s.reference s.last [] s.orders)

-- what a call leaves, by the point that it finds
abbrev pub call_result : State → ℕ → Option Point → Outcome
call_result s tape None = unless (ask (fits s tape (unpriced s).records) TapeFull no_refusal) s (unpriced s)
call_result s tape (Some x) = priced s x

-- the questions of a call before it looks for a price
abbrev pub call_refusal : State → ℕ → ℕ
call_refusal s scratch = ask (is_random s.phase) WrongPhase (ask (nat_le (count s.settings) scratch) ScratchTooShort no_refusal)

-- a call: its questions, then its result
abbrev pub call : Rule → State → ℕ → ℕ → Outcome
call r s tape scratch = unless (call_refusal s scratch) s (call_result s tape (call_price r s.settings s.orders))

-- once those are answered yes the curve is written to the front of the scratch; else the scratch is as it was
abbrev pub scratch_called : State → List Point → ℕ → List Point
scratch_called s scratch zero = curve s.settings s.orders ++ drop (count s.settings) scratch
scratch_called s scratch (suc n) = scratch

-- the scratch after a call
abbrev pub scratch_after : State → List Point → List Point
scratch_after s scratch = scratch_called s scratch (call_refusal s (length scratch))

-- a strike trades the quantity v at p, and p is the reference price of the trading that begins
abbrev pub struck : State → ℕ → ℕ → Outcome
struck s p v =
    let ts : List TapeRecord = trades_at s.settings p v s.orders in
    let recs : List TapeRecord = struck_records ts s.orders in
    done v recs (advance s Trading p s.last recs (struck_orders p ts s.orders))

-- a price and a quantity are those called
abbrev pub ask_called : Phase → ℕ → ℕ → ℕ → ℕ
ask_called PreOpening p v rest = code WrongPhase
ask_called Random p v rest = code WrongPhase
ask_called (Called q w) p v rest = ask (p == q && v == w) ForeignCalledPrice rest
ask_called Trading p v rest = code WrongPhase
ask_called Closed p v rest = code WrongPhase

-- the questions of a strike
abbrev pub strike : State → ℕ → ℕ → ℕ → Outcome
strike s tape p v =
    let o : Outcome = struck s p v in
    unless (ask_called s.phase p v (ask (fits s tape o.records) TapeFull no_refusal)) s o

-- a put-back returns to the random period
abbrev pub put_back : State → ℕ → ℕ → Outcome
put_back s p v = unless (ask_called s.phase p v no_refusal) s (begun s)

-- a call and its strike; where the tape is short for the strike, the price is put back and the auction is refused
abbrev pub strike_after : State → ℕ → Outcome → Phase → Outcome
strike_after s tape o PreOpening = o
strike_after s tape o Random = o
strike_after s tape o (Called p v) =
    let k : Outcome = strike o.state tape p v in
    unless k.refusal s k
strike_after s tape o Trading = o
strike_after s tape o Closed = o

-- a call that is refused has no strike
abbrev pub auction_after : State → ℕ → Outcome → ℕ → Outcome
auction_after s tape o zero = strike_after s tape o o.state.phase
auction_after s tape o (suc n) = o

-- the auction of a list
abbrev pub auction : Rule → State → ℕ → ℕ → Outcome
auction r s tape scratch = let o : Outcome = call r s tape scratch in auction_after s tape o o.refusal
