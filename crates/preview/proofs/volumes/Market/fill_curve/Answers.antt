use Rattle.std.proofs.Common.{arith}
use Rattle.std.proofs.lemmas.Grind.{common_steps}
use Rattle.grid.specs.Views.{plain}
use Rattle.preview.proofs.Filling.{filled_more}
use Rattle.preview.proofs.volumes.Market.fill_curve.Goals as goal

pub loop-place-preserved : goal.loop-place-preserved
loop-place-preserved c =
    grind (arith, common_steps, filled_more (plain c.args.self.now.settings.now) c.args.self.now.orders.now c.loop-place.place c.args.scratch.now)
