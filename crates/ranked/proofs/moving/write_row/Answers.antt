use Rattle.std.proofs.Common.{set, ap, ◌∙◌}
use Rattle.ranked.specs.Views.{view}
use Rattle.ranked.proofs.Views.{view_set}
use Rattle.ranked.proofs.moving.write_row.Goals as goal

pub returns : goal.returns
returns c =
    ap (λ k. view c.args.side (set c.args.rows.now k c.args.order)) c.row_index-at.ensures
    ∙ view_set c.args.side c.args.rows.now c.args.i c.args.order c.requires
