use Rattle.std.proofs.Common.{get_or, sym, ap, ◌∙◌}
use Rattle.rows.specs.Rows.{blank}
use Rattle.ranked.proofs.Views.{view_at}
use Rattle.ranked.proofs.moving.read_row.Goals as goal

pub returns : goal.returns
returns c =
    ap (λ k. get_or c.args.rows.now k blank) c.row_index-at.ensures
    ∙ sym (view_at c.args.side c.args.rows.now c.args.i blank c.requires)
