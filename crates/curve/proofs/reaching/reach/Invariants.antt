use Rattle.std.proofs.Common.{◌-◌, length}
use Rattle.grid.specs.Views.{plain}
use Rattle.curve.specs.Reaching.{passed}
use Rattle.curve.proofs.Counting.{Going}
use Rattle.curve.proofs.reaching.reach.Given as goal

abbrev pub invariant-loop-mark : goal.invariant-loop-mark
invariant-loop-mark g l = Going (plain l.settings) l.side (g.B.Book.orders l.book) l.price l.initial.mark l.mark

abbrev pub decreases-loop-mark : goal.decreases-loop-mark
decreases-loop-mark g l = let n = length (g.B.Book.orders l.book) in n - passed n l.mark.next
