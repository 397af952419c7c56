use Rattle.std.proofs.Common.{◌-◌, length}
use Rattle.model.specs.Rank.{ranked, opposite}
use Rattle.grid.specs.Views.{plain}
use Rattle.meeting.proofs.Onward.{Going}
use Rattle.meeting.proofs.planning.plan.Given as goal

abbrev pub invariant-walk : goal.invariant-walk
invariant-walk g l = Going (plain l.settings) l.reference l.entry.side l.entry.price l.entry.quantity (g.B.Book.orders l.book) l.plan l.from

abbrev pub decreases-walk : goal.decreases-walk
decreases-walk g l = length (ranked (opposite l.entry.side) (g.B.Book.orders l.book)) - l.from
