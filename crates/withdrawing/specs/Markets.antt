-- Which rank as market orders.
use Rattle.std.specs.Prelude.{Bool, false, Some, None, Option}
use Rattle.model.specs.declared.types.Order.{Order}
use Rattle.model.specs.Calls.{is_market_order}

-- there is an order, and it is a market order
abbrev pub market_found : Option Order → Bool
market_found None = false
market_found (Some o) = is_market_order o
