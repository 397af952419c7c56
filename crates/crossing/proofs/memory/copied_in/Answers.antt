use Rattle.std.proofs.Common.{rules}
use Rattle.std.proofs.lemmas.Iterator.{YieldsList-from_map, YieldsList-from_slice}
use Rattle.std.proofs.lemmas.Iterator.Adapters.{items_from_extend}
use Rattle.crossing.proofs.memory.copied_in.Goals as goal

pub returns : goal.returns
returns g c turned law =
    let h = items_from_extend c.extend.result c.extend.ensures.ran (YieldsList-from_map _ turned (YieldsList-from_slice c.args.raw.now (cc)) (cc) (λ x r q k. search rules)) in
    search rules
