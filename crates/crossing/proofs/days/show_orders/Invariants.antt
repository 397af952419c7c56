use Rattle.std.proofs.Common.{◌≡◌, ◌≤◌, map, ◌++◌, length, take, drop}
use Rattle.crossing.specs.Turning.{raw_order}
use Rattle.crossing.proofs.Showing.{Walked}
use Rattle.crossing.proofs.days.show_orders.Given as goal

-- the first orders are shown, and the places after them are as they were
abbrev pub invariant-loop-place : goal.invariant-loop-place
invariant-loop-place g l = let os = g.B.Book.orders l.book in record {
  walked : Walked os l.place-index l.last;
  fits : l.place-index ≤ length os;
  shown : l.places ≡ map raw_order (take l.place-index os) ++ drop l.place-index l.initial.places;
}
