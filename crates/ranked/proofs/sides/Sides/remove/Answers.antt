use Rattle.std.proofs.Common.{◌≡◌, length, ap, ◌∙◌, arith}
use Rattle.ranked.specs.Views.{view}
use Rattle.ranked.proofs.Changes.{taken_out}
use Rattle.ranked.proofs.sides.Sides.remove.Goals as goal

pub returns-clause-after : goal.returns-clause-after
returns-clause-after c =
    let h = c.args.self.now in
    let k = c.set_len.new.self in
    let s = c.args.at.side in
    let new = c.set_len.ensures in
    let n = c.len-last.ensures in
    let l : length k.rows.now ≡ length h.rows.now = ap length new.rows ∙ c.move_row.auto.rows in
    taken_out s h k c.args.at.index _ _ (omega arith) (omega arith) (record { rows = l; others = new.others }) new.own (ap (view s) new.rows ∙ c.move_row.ensures)
