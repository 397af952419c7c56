use Rattle.std.proofs.Common.{◌≡◌, length, set, ap, ◌∙◌, arith}
use Rattle.std.specs.List.{remove}
use Rattle.std.proofs.lemmas.List.Edits.{length-remove}
use Rattle.ranked.specs.Views.{view}
use Rattle.ranked.proofs.Views.{length_view, put_over}
use Rattle.ranked.proofs.Changes.{free_of, put_in}
use Rattle.ranked.proofs.sides.Sides.insert.Goals as goal

pub returns : goal.returns
returns c =
    let h = c.args.self.now in
    let k = c.set_len.new.self in
    let s = c.args.at.side in
    let o = c.args.order in
    let i = c.args.at.index in
    let new = c.set_len.ensures in
    let n = c.len-count.ensures in
    let v = view s h.rows.now in
    let free = free_of s h c.requires.free in
    let l : length k.rows.now ≡ length h.rows.now = ap length new.rows ∙ c.write_row.auto.rows ∙ c.move_row.auto.rows in
    let over = put_over (remove v c.len-count.result) i _ o (omega (arith, length-remove v c.len-count.result (omega (arith, length_view s h.rows.now)), length_view s h.rows.now)) in
    put_in s h k i c.len-count.result o n (omega arith) (omega arith) (record { rows = l; others = new.others }) new.own (ap (view s) new.rows ∙ c.write_row.ensures ∙ ap (λ w. set w i o) c.move_row.ensures ∙ over)
