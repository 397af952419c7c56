-- Positions in a queue: by number, and counted from 1.
use Rattle.std.specs.Prelude.{◌≡◌, ℕ, ◌-◌, ◌<◌, cond, ◌&&◌, List, get_or, Some, None, Option, nat_le, nat_lt, slice_index_or}
use Rattle.model.specs.declared.types.Side.TheVariants.{Buy, Sell}
use Rattle.model.specs.declared.types.Order.{Order}
use Rattle.model.specs.Orders.{find}
use Rattle.rows.specs.Rows.{blank}
use Rattle.ranked.specs.Queues.{count_of, queue}
use Rattle.ranked.specs.declared.sides.Sides.{Sides}
use Rattle.ranked.specs.declared.position.Position.{Position}

-- the order with the number n stands at p
abbrev pub StandsAt : Sides → ℕ → Position → Type 0
StandsAt h n p = (p.index < count_of p.side h) × ((get_or (queue p.side h) p.index blank).number ≡ n)

-- the order with the number n stands there, or neither queue has it
abbrev pub Located : Sides → ℕ → Option Position → Type 0
Located h n None = (find n (queue Buy h) ≡ None) × (find n (queue Sell h) ≡ None)
Located h n (Some p) = StandsAt h n p

-- the n-th of so many orders, from 1, by its index
abbrev pub nth_of : ℕ → ℕ → List Order → Option Order
nth_of n count xs = cond (nat_lt 0 n && nat_le n count) (Some (slice_index_or xs (n - 1) blank)) None
