-- What the two queues mean, and what holds of them in a book.
use Rattle.std.specs.Prelude.{◌≡◌, List}
use Rattle.model.specs.declared.types.Side.{Side}
use Rattle.model.specs.declared.types.Side.TheVariants.{Buy, Sell}
use Rattle.model.specs.declared.types.Order.{Order}
use Rattle.model.specs.Rank.{ranked}
use Rattle.rows.specs.Rows.{Held}
use Rattle.ranked.specs.ByNumber.{by_number}
use Rattle.ranked.specs.Queues.{queue}
use Rattle.ranked.specs.declared.sides.Sides.{Sides}

-- the orders of both queues, ascending by number
unfoldable pub meaning : Sides → List Order
meaning h = by_number (queue Buy h) (queue Sell h)

-- the orders are ones that a book may hold, and each queue is its side of them in rank
pub record InRank (h : Sides) : Type 0 where
  pub held : Held (meaning h)
  pub ranks : (s : Side) → ranked s (meaning h) ≡ queue s h
