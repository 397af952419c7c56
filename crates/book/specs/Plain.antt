-- A standing order as the definition of a session has it.
use Rattle.std.specs.Prelude.{ℕ, Some, None, Option}
use Rattle.model.specs.declared.types.Side.{Side}
use Rattle.model.specs.declared.types.OrderPrice.{OrderPrice}
use Rattle.model.specs.declared.types.Order.{Order}
use Rattle.book.specs.declared.standing.StandingOrder.{StandingOrder}

-- the order of these contents
abbrev pub order_of : ℕ → ℕ → Side → OrderPrice → ℕ → Order
order_of n m s p q = record { number = n; member = m; side = s; price = p; left = q }

-- a standing order without its bounds
abbrev pub plain : StandingOrder → Order
plain o = order_of o.number o.member o.side o.price o.left

-- and one that may be there
abbrev pub as_plain : Option StandingOrder → Option Order
as_plain None = None
as_plain (Some o) = Some (plain o)
