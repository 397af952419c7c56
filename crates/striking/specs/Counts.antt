-- A count of the trades of a strike that alters nothing.
use Rattle.std.specs.Prelude.{◌≡◌, ℕ, ◌+◌, ◌-◌, ◌<◌, ◌≤◌, min, cond, ◌&&◌, List, [], ◌∷◌, length, drop, Some, None, filter, Option, ◌==◌}
use Rattle.model.specs.declared.types.Side.{Side}
use Rattle.model.specs.declared.types.Side.TheVariants.{Buy, Sell}
use Rattle.model.specs.declared.types.Order.{Order}
use Rattle.model.specs.declared.types.TapeRecord.{TapeRecord}
use Rattle.model.specs.Grid.{Settings}
use Rattle.model.specs.Rank.{ranked}
use Rattle.model.specs.Orders.{with_left}
use Rattle.model.specs.Calls.{is_market_order}
use Rattle.model.specs.Auction.{pair, trades_at, idle}
use Rattle.walking.specs.Walks.{actives}
use Rattle.striking.specs.declared.sizes.Progress.{Progress}
use Rattle.striking.specs.declared.sizes.Tally.{Tally}
use Rattle.striking.specs.Parties.{parties}

-- q less of the first of some orders
abbrev pub spend : ℕ → List Order → List Order
spend q [] = []
spend q (o ∷ os) = with_left o (o.left - q) ∷ os

-- what is left of the first of some orders
abbrev pub first_left : List Order → ℕ
first_left [] = 0
first_left (o ∷ os) = o.left

-- the orders behind a place, without the first where some of it is spent
abbrev pub fresh : ℕ → List Order → List Order
fresh q os = cond (q == 0) os (drop 1 os)

-- the three together
abbrev pub progress : ℕ → ℕ → ℕ → Progress
progress k q m = record { place = k; spent = q; markets = m }

-- a count of no trade of the quantity v
abbrev pub start : ℕ → Tally
start v = record { trades = 0; remaining = v; buys = progress 0 0 0; sells = progress 0 0 0 }

-- a side after t of the order o at place k was counted
abbrev pub advanced : Progress → ℕ → Order → ℕ → Progress
advanced x k o t =
    let m : ℕ = x.markets + cond (x.spent == 0 && is_market_order o) 1 0 in
    cond (x.spent + t == o.left) (progress (k + 1) 0 m) (progress k (x.spent + t) m)

-- how much a buy and a sell trade next in a count
abbrev pub next_quantity : Tally → Order → Order → ℕ
next_quantity c b s = min (min (b.left - c.buys.spent) (s.left - c.sells.spent)) c.remaining

-- a count one trade on, of a buy and a sell at their places
abbrev pub one_more : Tally → ℕ → Order → ℕ → Order → Tally
one_more c kb b ks s =
    let t : ℕ = next_quantity c b s in
    record { trades = c.trades + 1; remaining = c.remaining - t; buys = advanced c.buys kb b t; sells = advanced c.sells ks s t }

-- the parties of a side that are not counted yet
abbrev pub open_parties : Settings → Side → ℕ → List Order → Progress → List Order
open_parties g s p os x = spend x.spent (parties g s p x.place os)

-- the trades that are not counted yet
abbrev pub open_trades : Settings → ℕ → List Order → Tally → List TapeRecord
open_trades g p os c = pair p (open_parties g Buy p os c.buys) (open_parties g Sell p os c.sells) c.remaining

-- a side in a count of the trades ts, of which us are not counted yet: the idle orders stand behind its place, and the market orders before it are counted
pub record SideCounted (g : Settings) (s : Side) (p : ℕ) (os : List Order) (ts us : List TapeRecord) (x : Progress) : Type 0 where
  pub behind : filter (idle ts) (ranked s os) ≡ filter (idle us) (fresh x.spent (actives g (drop x.place (ranked s os))))
  pub counted : length (filter is_market_order (ranked s os)) ≡ x.markets + length (filter is_market_order (fresh x.spent (actives g (drop x.place (ranked s os)))))
  pub limited : x.spent ≤ first_left (parties g s p x.place os) - 1

-- a count of the trades of the quantity v at p
pub record Counts (g : Settings) (p v : ℕ) (os : List Order) (c : Tally) : Type 0 where
  pub trades : c.trades + length (open_trades g p os c) ≡ length (trades_at g p v os)
  pub limited : c.trades + c.remaining ≤ v
  pub buys : SideCounted g Buy p os (trades_at g p v os) (open_trades g p os c) c.buys
  pub sells : SideCounted g Sell p os (trades_at g p v os) (open_trades g p os c) c.sells

-- a count one trade on, of the same trades, or none where every trade is counted
abbrev pub NextCount : Settings → ℕ → List Order → Tally → Option Tally → Type 0
NextCount g p os c None = open_trades g p os c ≡ []
NextCount g p os c (Some d) = ((v : ℕ) → Counts g p v os c → Counts g p v os d) × (d.remaining < c.remaining)
