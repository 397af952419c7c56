use Rattle.std.proofs.Common.{◌<◌, ◌≤◌, length, slice_set, ap, ◌∙◌, arith}
use Rattle.std.proofs.lemmas.List.{set-get_or}
use Rattle.model.specs.Numbers.{max_number}
use Rattle.book.specs.Plain.{plain}
use Rattle.crossing.specs.Turning.{raw_order}
use Rattle.crossing.proofs.Filling.{filled_more, filled_all}
use Rattle.crossing.proofs.Showing.{within, here, more, done}
use Rattle.crossing.proofs.days.show_orders.Goals as goal

pub returns-in_default : goal.returns-in_default
returns-in_default g c =
    let os = g.B.Book.orders c.args.book.now in
    let i = c.loop-place.place-index in
    let w = c.loop-place.invariant in
    let all : length os ≤ i = done max_number os (g.B.Book.kept.standing c.args.book.now) i c.loop-place.last w.walked c.in_default.ensures in
    let room : i < length c.args.places.now = omega arith in
    set-get_or c.loop-place.places i _ ∙ w.shown ∙ filled_all raw_order os c.args.places.now i w.fits all room

pub loop-place-preserved : goal.loop-place-preserved
loop-place-preserved g c =
    let os = g.B.Book.orders c.args.book.now in
    let st = g.B.Book.kept.standing c.args.book.now in
    let i = c.loop-place.place-index in
    let last = c.loop-place.last in
    let w = c.loop-place.invariant in
    let o = plain c.in-Some.order in
    let next = c.in-Some.ensures in
    let more_stand : i < length os = within max_number os st i last w.walked o next in
    let room : i < length c.args.places.now = omega arith in
    record {
      walked = more max_number os st i last w.walked o next;
      fits = omega (arith, more_stand);
      shown = ap (λ places. slice_set places i c.from.result) w.shown
          ∙ filled_more raw_order os c.args.places.now i o c.from.result more_stand room (here max_number os st i last w.walked o next) c.from.ensures;
    }
