use Rattle.model.specs.Rank.{ranked}
use Rattle.grid.specs.Views.{plain}
use Rattle.curve.specs.Reaching.{Counted}
use Rattle.curve.proofs.Writing.{Written}
use Rattle.curve.proofs.runs.write_side.Given as goal

abbrev pub invariant-loop-turn : goal.invariant-loop-turn
invariant-loop-turn g l =
    let os = g.B.Book.orders l.book in
    Counted (plain l.run.settings.now) l.side os l.mark × Written (plain l.run.settings.now) l.side (ranked l.side os) l.run.from l.initial.points l.turn l.mark l.points
