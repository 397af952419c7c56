use Rattle.std.proofs.Common.{not, arith}
use Rattle.std.proofs.lemmas.List.Sums.{prefix_len-le-length}
use Rattle.model.specs.Rank.{before}
use Rattle.ranked.specs.Queues.{queue}
use Rattle.ranked.proofs.Changes.{length_queue}
use Rattle.ranked.proofs.Scans.{entered}
use Rattle.ranked.proofs.sides.Sides.enter.Goals as goal

pub insert-requires-clause-within : goal.insert-requires-clause-within
insert-requires-clause-within c =
    let s = c.args.order.side in
    let h = c.args.self.now in
    omega (arith, c.rank_of-index.ensures, prefix_len-le-length (λ x. not (before s c.args.order x)) (queue s h), length_queue s h)

pub returns : goal.returns
returns c = entered c.args.order.side c.args.self.now c.insert.new.self c.rank_of-index.result c.args.order c.rank_of-index.ensures c.insert.ensures
