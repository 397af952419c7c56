-- The orders that traded last, where they are market orders.
use Rattle.std.specs.Prelude.{ℕ, cond, List, Some, None, Option}
use Rattle.model.specs.declared.types.Order.{Order}
use Rattle.model.specs.Orders.{find, turn}
use Rattle.book.specs.Meaning.{can_turn}
use Rattle.striking.specs.declared.meetings.Meeting.{Meeting}

-- the order n turned into a limit order at p, where it is a market order that stands
abbrev pub turned : ℕ → ℕ → List Order → List Order
turned n p os = cond (can_turn p (find n os)) (turn n p os) os

-- the orders of the last meeting so turned, first the buy
abbrev pub turned_last : Option Meeting → ℕ → List Order → List Order
turned_last None p os = os
turned_last (Some m) p os = turned m.sell.order.number p (turned m.buy.order.number p os)
