-- How an order that is entered while trading runs meets the orders that stand.
use Rattle.std.specs.Prelude.{ℕ, ◌-◌, min, Bool, true, false, cond, not, ◌||◌, List, [], ◌∷◌, filter, ◌==◌}
use Rattle.model.specs.Types.{Side, Buy, Sell, OrderPrice, Market, Limit, Condition, Plain, FillOrKill, ImmediateOrCancel, Order, Reason, ConditionUnmet, NothingOpposite, TapeRecord, Trade}
use Rattle.model.specs.Grid.{Settings, active}
use Rattle.model.specs.Rank.{ranked}
use Rattle.model.specs.Curve.{allows}
use Rattle.model.specs.Orders.{lower}

-- the limit price; no market order stands while trading runs, so the 0 is never met
abbrev pub limit : OrderPrice → ℕ
limit Market = 0
limit (Limit p) = p

-- a trade with the standing order of this number
pub record Fill : Type 0 where
  pub against : ℕ
  pub price : ℕ
  pub quantity : ℕ

-- what an order met: its fills, what remains of it, and whether trading is interrupted
pub record Met : Type 0 where
  pub fills : List Fill
  pub remaining : ℕ
  pub interrupted : Bool

-- the three together
abbrev pub met : List Fill → ℕ → Bool → Met
met fs r b = record { fills = fs; remaining = r; interrupted = b }

-- one more fill in front
abbrev pub add_fill : Fill → Met → Met
add_fill f m = met (f ∷ m.fills) m.remaining m.interrupted

-- an order of side s and price p takes the opposite orders in rank while something remains of it and its price allows theirs; at a price outside the static band trading is interrupted
abbrev pub meet : (ℕ → Bool) → Side → OrderPrice → ℕ → List Order → Met
meet in_band s p remaining [] = met [] remaining false
meet in_band s p remaining (o ∷ os) =
    cond (remaining == 0 || not (allows s p (limit o.price))) (met [] remaining false)
    (cond (in_band (limit o.price))
    (add_fill (record { against = o.number; price = limit o.price; quantity = min remaining o.left }) (meet in_band s p (remaining - min remaining o.left) os))
    (met [] remaining true))

-- the active orders of a side, in rank
abbrev pub active_in_rank : Settings → Side → List Order → List Order
active_in_rank g s os = ranked s (filter (λ o. active g o.price) os)

-- the record of a fill of the order n
abbrev pub trade_of : Side → ℕ → Fill → TapeRecord
trade_of Buy n f = Trade n f.against f.price f.quantity
trade_of Sell n f = Trade f.against n f.price f.quantity

-- the standing orders after some fills
abbrev pub after_fills : List Fill → List Order → List Order
after_fills [] os = os
after_fills (f ∷ fs) os = after_fills fs (lower f.against f.quantity os)

-- the price of the last fill
abbrev pub last_price : OrderPrice → List Fill → OrderPrice
last_price p [] = p
last_price p (f ∷ fs) = last_price (Limit f.price) fs

-- what remains of an order stands at some price, or is withdrawn for some reason
pub data Disposition : Type 0 where
  stands : OrderPrice → Disposition
  goes : Reason → Disposition

-- what remains of a market order stands at its last fill's price, or as market where an interruption came first; with nothing opposite it is withdrawn
abbrev pub market_disposition : List Fill → Bool → Disposition
market_disposition [] false = goes NothingOpposite
market_disposition [] true = stands Market
market_disposition (f ∷ fs) b = stands (last_price Market (f ∷ fs))

-- what remains of a limit order stands at its limit, and what remains under a condition is withdrawn
abbrev pub disposition : Condition → OrderPrice → Met → Disposition
disposition Plain Market m = market_disposition m.fills m.interrupted
disposition Plain (Limit p) m = stands (Limit p)
disposition FillOrKill p m = goes ConditionUnmet
disposition ImmediateOrCancel p m = goes ConditionUnmet
