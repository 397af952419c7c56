use Rattle.std.proofs.Common.{sym, arith}
use Rattle.grid.specs.Views.{plain}
use Rattle.curve.proofs.Counting.{going_first, ends, found_small, going_past, stops_at}
use Rattle.curve.proofs.reaching.reach.Goals as goal

pub loop-mark-init : goal.loop-mark-init
loop-mark-init g c = going_first (plain c.args.settings.now) c.args.side (g.B.Book.orders c.args.book.now) c.args.price c.args.mark.now c.requires

pub returns-then-not-allows : goal.returns-then-not-allows
returns-then-not-allows g c = record {
  counted = c.loop-mark.invariant.counted;
  reached = stops_at (plain c.args.settings.now) c.args.side (g.B.Book.orders c.args.book.now) c.args.price c.args.mark.now c.loop-mark.mark c.loop-mark.invariant c.in-Some.next c.in-Some.is (sym c.if-not-allows.ensures);
}

pub overflow_add-next : goal.overflow_add-next
overflow_add-next g c =
    let book = c.args.book.now in
    let r = found_small (plain c.args.settings.now) c.args.side (g.B.Book.orders c.args.book.now) c.args.price c.args.mark.now c.loop-mark.mark c.loop-mark.invariant c.in-Some.next c.in-Some.is in
    omega (arith, r.0, g.B.Book.kept.fitting book, g.B.Book.kept.limited book)

pub overflow_add-mark : goal.overflow_add-mark
overflow_add-mark g c =
    let book = c.args.book.now in
    let r = found_small (plain c.args.settings.now) c.args.side (g.B.Book.orders c.args.book.now) c.args.price c.args.mark.now c.loop-mark.mark c.loop-mark.invariant c.in-Some.next c.in-Some.is in
    omega (arith, r.0, r.1, g.B.Book.kept.fitting book, g.B.Book.kept.limited book, c.in-Some.next.order.left_high)

pub loop-mark-smaller : goal.loop-mark-smaller
loop-mark-smaller g c = (going_past (plain c.args.settings.now) c.args.side (g.B.Book.orders c.args.book.now) c.args.price c.args.mark.now c.loop-mark.mark c.loop-mark.invariant c.in-Some.next c.in-Some.is (sym c.if-not-allows.ensures) c.first_active-mark.result c.first_active-mark.ensures).1

pub loop-mark-preserved : goal.loop-mark-preserved
loop-mark-preserved g c = (going_past (plain c.args.settings.now) c.args.side (g.B.Book.orders c.args.book.now) c.args.price c.args.mark.now c.loop-mark.mark c.loop-mark.invariant c.in-Some.next c.in-Some.is (sym c.if-not-allows.ensures) c.first_active-mark.result c.first_active-mark.ensures).0

pub returns : goal.returns
returns g c = record {
  counted = c.loop-mark.invariant.counted;
  reached = ends (plain c.args.settings.now) c.args.side (g.B.Book.orders c.args.book.now) c.args.price c.args.mark.now c.loop-mark.mark c.loop-mark.invariant c.in_default.is;
}
