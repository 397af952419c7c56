-- The orders in the front of a slice.
use Rattle.std.specs.Prelude.{ℕ, min, List, length, take}
use Rattle.model.specs.declared.types.Order.{Order}
use Rattle.book.specs.Meaning.{max_capacity}
use Rattle.arrival.specs.declared.front.Front.{Front}

-- the orders that stand
abbrev pub orders_in : Front → List Order
orders_in f = take f.count f.rows.now

-- how many orders may stand
abbrev pub room_in : Front → ℕ
room_in f = min (length f.rows.now) max_capacity
