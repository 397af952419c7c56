-- What is shown of a session after its list.
use Rattle.std.specs.Prelude.{List, ◌++◌, map, length, take, drop}
use Rattle.model.specs.declared.types.Order.{Order}
use Rattle.model.specs.State.{State}
use Rattle.crossing.specs.declared.raw.RawEnd.{RawEnd}
use Rattle.crossing.specs.declared.raw.RawOrder.{RawOrder}
use Rattle.crossing.specs.Turning.{raw_order, phase_number}

-- its phase, its reference price, the last order number given, the places used of the tape and how many orders stand
abbrev pub end_of : State → RawEnd
end_of s = record { phase = phase_number s.phase; reference = s.reference; last = s.last; used = s.used; standing = length s.orders }

-- the orders in some places: as many as there is room for, and the places beyond as they were
abbrev pub orders_shown : List Order → List RawOrder → List RawOrder
orders_shown os places = map raw_order (take (length places) os) ++ drop (length os) places
