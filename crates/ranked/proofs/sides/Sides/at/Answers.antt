use Rattle.std.proofs.Common.{sym, ◌∙◌}
use Rattle.std.proofs.lemmas.List.{get_or-take}
use Rattle.rows.specs.Rows.{blank}
use Rattle.ranked.specs.Views.{view}
use Rattle.ranked.specs.Queues.{count_of, queue}
use Rattle.ranked.proofs.sides.Sides.at.Goals as goal

pub returns : goal.returns
unfolding queue
returns c =
    let h = c.args.self.now in
    let p = c.args.at in
    c.read_row.ensures ∙ sym (get_or-take (count_of p.side h) (view p.side h.rows.now) p.index blank c.requires)
