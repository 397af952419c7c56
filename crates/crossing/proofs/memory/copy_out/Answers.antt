use Rattle.std.proofs.Common.{◌<◌, ap, ◌∙◌, length, slice_set, arith}
use Rattle.crossing.proofs.Filling.{filled_more}
use Rattle.crossing.proofs.memory.copy_out.Goals as goal

pub loop-i-preserved : goal.loop-i-preserved
loop-i-preserved g c turned law =
    let i = c.loop-i.i in
    let room : i < length c.args.places.now = omega arith in
    ap (λ places. slice_set places i c.from.result) (c.loop-i.invariant turned law)
    ∙ filled_more turned c.args.values.now c.args.places.now i c.index-values-i.result c.from.result (omega arith) room c.index-values-i.is (law _ _ c.from.ensures)
