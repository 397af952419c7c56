-- The check of a row that may be there.
use Rattle.std.specs.Prelude.{cond, Some, None, Option}
use Rattle.model.specs.declared.types.Order.{Order}
use Rattle.book.specs.Bounds.{in_bounds}

-- a row in bounds, and none in place of any other
abbrev pub checked : Option Order → Option Order
checked None = None
checked (Some o) = cond (in_bounds o) (Some o) None
