use Rattle.std.proofs.Common.{sym}
use Rattle.model.proofs.GridEnds.{count_most, count_is}
use Rattle.grid.specs.Views.{plain}
use Rattle.grid.proofs.Bounds.{valid}
use Rattle.grid.proofs.settings.Settings.span.Goals as goal

pub returns-clause-all : goal.returns-clause-all
returns-clause-all c = sym (count_is (plain c.args.self.now))

pub returns-clause-most : goal.returns-clause-most
returns-clause-most c = count_most (plain c.args.self.now) (valid c.args.self.now)
