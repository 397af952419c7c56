use Rattle.grid.specs.Views.{plain}
use Rattle.striking.specs.Counts.{Counts}
use Rattle.striking.proofs.sizes.strike_size.Given as goal

abbrev pub invariant-loop-next : goal.invariant-loop-next
invariant-loop-next g l = Counts (plain l.settings) l.price l.volume (g.B.Book.orders l.book) l.tally

abbrev pub decreases-loop-next : goal.decreases-loop-next
decreases-loop-next g l = l.tally.remaining
