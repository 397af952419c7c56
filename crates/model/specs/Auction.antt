-- The call auction: the price that is called, and the trades that are struck at it.
use Rattle.std.specs.Prelude.{ℕ, ◌-◌, min, Bool, cond, not, ◌&&◌, List, [], ◌∷◌, ◌++◌, map, Some, None, filter, Option, ◌==◌, nat_lt}
use Rattle.model.specs.Types.{Side, Buy, Sell, Limit, Order, Point, AfterAuction, TapeRecord, Trade, Withdrawal}
use Rattle.model.specs.Grid.{Settings}
use Rattle.model.specs.Rank.{ranked}
use Rattle.model.specs.Curve.{takes_part, curve, traded}
use Rattle.model.specs.Rules.{Rule, most_traded, called}
use Rattle.model.specs.Orders.{with_left, with_price, is_market, lower, withdrawal}
use Rattle.model.specs.Records.{total_traded}

-- a point, if something would trade at it
abbrev pub if_trades : Option Point → Option Point
if_trades None = None
if_trades (Some x) = cond (nat_lt 0 (traded x)) (Some x) None

-- the point that a call finds, by most traded over the session's rule
abbrev pub call_price : Rule → Settings → List Order → Option Point
call_price r g os = if_trades (called (most_traded r) g.indicative (curve g os))

-- the orders of a side that may trade at p, in rank
abbrev pub at_price : Settings → Side → ℕ → List Order → List Order
at_price g s p os = ranked s (filter (takes_part g s p) os)

-- the trades of one buy, the sells after them, and the volume still open
pub record Paired : Type 0 where
  pub trades : List TapeRecord
  pub sells : List Order
  pub volume : ℕ

-- the three together
abbrev pub paired : List TapeRecord → List Order → ℕ → Paired
paired ts ss v = record { trades = ts; sells = ss; volume = v }

-- one more trade in front
abbrev pub add_trade : TapeRecord → Paired → Paired
add_trade t x = paired (t ∷ x.trades) x.sells x.volume

-- at price p the buy n, of which q is left, takes the sells in rank while v is still to trade, each trade as large as both and v permit
abbrev pub pair_one : ℕ → ℕ → ℕ → List Order → ℕ → Paired
pair_one p n q [] v = paired [] [] v
pair_one p n q (s ∷ ss) v =
    let t : ℕ = min (min q s.left) v in
    cond (t == 0) (paired [] (s ∷ ss) v)
    (cond (nat_lt t s.left) (paired (Trade n s.number p t ∷ []) (with_left s (s.left - t) ∷ ss) (v - t))
    (add_trade (Trade n s.number p t) (pair_one p n (q - t) ss (v - t))))

-- at price p the buys in rank, one after another, while v is still to trade
abbrev pub pair : ℕ → List Order → List Order → ℕ → List TapeRecord
pair p [] ss v = []
pair p (b ∷ bs) ss v =
    let x : Paired = pair_one p b.number b.left ss v in
    x.trades ++ pair p bs x.sells x.volume

-- the trades of the quantity v at p
abbrev pub trades_at : Settings → ℕ → ℕ → List Order → List TapeRecord
trades_at g p v os = pair p (at_price g Buy p os) (at_price g Sell p os) v

-- the standing orders after a trade
abbrev pub apply_trade : TapeRecord → List Order → List Order
apply_trade (Trade b s p q) os = lower s q (lower b q os)
apply_trade (Withdrawal m q r) os = os

-- and after some trades
abbrev pub apply_trades : List TapeRecord → List Order → List Order
apply_trades [] os = os
apply_trades (t ∷ ts) os = apply_trades ts (apply_trade t os)

-- a market order that traded nothing is withdrawn
abbrev pub idle : List TapeRecord → Order → Bool
idle ts o = is_market o.price && total_traded o.number ts == 0

-- a market order with something left becomes a limit order at p
abbrev pub settled : ℕ → Order → Order
settled p o = cond (is_market o.price) (with_price o (Limit p)) o

-- the standing orders after a strike
abbrev pub struck_orders : ℕ → List TapeRecord → List Order → List Order
struck_orders p ts os = map (settled p) (filter (λ o. not (idle ts o)) (apply_trades ts os))

-- the records of a strike: its trades, then the withdrawals by number
abbrev pub struck_records : List TapeRecord → List Order → List TapeRecord
struck_records ts os = ts ++ map (withdrawal AfterAuction) (filter (idle ts) os)
