use Rattle.std.proofs.Common.{arith}
use Rattle.meeting.proofs.Onward.{begins}
use Rattle.meeting.proofs.planning.plan.Goals as goal

pub walk-init : goal.walk-init
walk-init g c =
    let kept = g.B.Book.kept in
    begins _ _ _ _ _ _ (kept.standing c.args.book.now) (omega (arith, kept.fitting c.args.book.now, kept.limited c.args.book.now))
