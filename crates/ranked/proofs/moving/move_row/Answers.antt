use Rattle.std.proofs.Common.{◌≡◌, ◌<◌, length, get_or, set, ap, ◌∙◌, arith}
use Rattle.std.specs.List.{insert, remove}
use Rattle.rows.specs.Rows.{blank}
use Rattle.ranked.specs.Views.{view, row_index}
use Rattle.ranked.proofs.Views.{row_within, turned_back, put_before, view_moved}
use Rattle.ranked.proofs.moving.move_row.Goals as goal
use Rattle.ranked.proofs.moving.move_row.Goals.{at-returns-then-source-target, at-returns-else-source-target, After-row_index-target}

-- the row at the one index is at the other
moved : (c : goal.After-row_index-target) → view c.args.side (insert (remove c.args.rows.now c.row_index-source.result) c.row_index-target.result (get_or c.args.rows.now c.row_index-source.result blank)) ≡ insert (remove (view c.args.side c.args.rows.now) c.args.from) c.args.to (get_or (view c.args.side c.args.rows.now) c.args.from blank)
moved c =
    let s = c.args.side in
    let rows = c.args.rows.now in
    ap (λ p. view s (insert (remove rows p) c.row_index-target.result (get_or rows p blank))) c.row_index-source.ensures
    ∙ ap (λ q. view s (insert (remove rows (row_index (length rows) s c.args.from)) q (get_or rows (row_index (length rows) s c.args.from) blank))) c.row_index-target.ensures
    ∙ view_moved s rows c.args.from c.args.to blank c.requires.from c.requires.to

pub returns-then-source-target : goal.returns-then-source-target
returns-then-source-target c =
    let s = c.args.side in
    let rows = c.args.rows.now in
    let within : c.row_index-target.result < length rows = omega (arith, c.row_index-target.ensures, row_within s (length rows) c.args.to c.requires.to) in
    ap (view s) (turned_back rows c.rotate_left.new.self c.row_index-source.result c.row_index-target.result blank c.if-source-target.true within c.rotate_left.ensures.after)
    ∙ moved (at-returns-then-source-target c).After-row_index-target

pub returns-else-source-target : goal.returns-else-source-target
returns-else-source-target c =
    let s = c.args.side in
    let rows = c.args.rows.now in
    let low = c.row_index-target.result in
    let high = c.row_index-source.result in
    let row = get_or rows high blank in
    let within : high < length rows = omega (arith, c.row_index-source.ensures, row_within s (length rows) c.args.from c.requires.from) in
    ap (λ l. view s (set l low row)) c.copy_within.ensures.after ∙ ap (view s) (put_before rows low high row (omega arith) within)
    ∙ moved (at-returns-else-source-target c).After-row_index-target
