use Rattle.curve.proofs.Whole.{grid_small}
use Rattle.curve.proofs.prices.Run.grid.Goals as goal

pub invariant_of-result : goal.invariant_of-result
invariant_of-result c = record { small = rw (c.lowest.ensures.value, c.count.ensures.value) (grid_small c.args.settings.now) }
