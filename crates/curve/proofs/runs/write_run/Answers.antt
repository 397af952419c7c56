use Rattle.grid.specs.Views.{plain}
use Rattle.curve.proofs.Writing.{written_both}
use Rattle.curve.proofs.runs.write_run.Goals as goal

pub returns : goal.returns
returns g c = written_both (plain c.args.settings.now) (g.B.Book.orders c.args.book.now) c.args.from c.args.points.now c.write_side.new.points c.write_side-2.new.points c.write_side.auto.points c.write_side-2.auto.points c.write_side.ensures c.write_side-2.ensures
