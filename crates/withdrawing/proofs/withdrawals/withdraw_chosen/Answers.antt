use Rattle.std.proofs.Common.{refl, sym, ◌∙◌, arith}
use Rattle.model.specs.Numbers.{max_number}
use Rattle.model.specs.Orders.{withdrawal}
use Rattle.book.specs.Plain.{plain}
use Rattle.withdrawing.proofs.Walk.{start, takes, comes, withdrawn, kept, done, next_higher}
use Rattle.withdrawing.proofs.withdrawals.withdraw_chosen.Goals as goal

pub loop-order-init : goal.loop-order-init
loop-order-init g c =
    let book = c.args.book.now in
    (start g.C.Choice.chosen (withdrawal c.args.reason) max_number (g.B.Book.orders book) c.args.tape.now (g.B.Book.kept.standing book), refl)

pub withdraw_whole-requires : goal.withdraw_whole-requires
withdraw_whole-requires g c =
    let p = g.C.Choice.chosen in
    let rec = withdrawal c.args.reason in
    let os₀ = g.B.Book.orders c.args.book.now in
    let os = g.B.Book.orders c.loop-order.book in
    let st = g.B.Book.kept.standing c.loop-order.book in
    record {
      whole = takes p rec max_number os₀ c.args.tape.now os c.loop-order.tape c.loop-order.last c.loop-order.invariant.0 st (plain c.in-Some.order) c.in-Some.ensures;
      place = comes p rec max_number os₀ c.args.tape.now os c.loop-order.tape c.loop-order.last c.loop-order.invariant.0 st (plain c.in-Some.order) c.in-Some.ensures (sym c.chooses.ensures ∙ c.if-chooses.true) c.requires;
    }

pub loop-order-smaller-then-chooses : goal.loop-order-smaller-then-chooses
loop-order-smaller-then-chooses g c = omega (arith, next_higher c.loop-order.last (g.B.Book.orders c.loop-order.book) (plain c.in-Some.order) c.in-Some.ensures)

pub loop-order-smaller : goal.loop-order-smaller
loop-order-smaller g c = omega (arith, next_higher c.loop-order.last (g.B.Book.orders c.loop-order.book) (plain c.in-Some.order) c.in-Some.ensures)

pub loop-order-preserved-then-chooses : goal.loop-order-preserved-then-chooses
loop-order-preserved-then-chooses g c = (
  withdrawn g.C.Choice.chosen (withdrawal c.args.reason) max_number (g.B.Book.orders c.args.book.now) c.args.tape.now (g.B.Book.orders c.loop-order.book) c.loop-order.tape c.loop-order.last c.loop-order.invariant.0 (g.B.Book.kept.standing c.loop-order.book) (plain c.in-Some.order) c.in-Some.ensures (sym c.chooses.ensures ∙ c.if-chooses.true) _ _ c.withdraw_whole.ensures.after c.withdraw_whole.ensures.records,
  c.withdraw_whole.ensures.room ∙ c.loop-order.invariant.1,
)

pub loop-order-preserved : goal.loop-order-preserved
loop-order-preserved g c = (
  kept g.C.Choice.chosen (withdrawal c.args.reason) max_number (g.B.Book.orders c.args.book.now) c.args.tape.now (g.B.Book.orders c.loop-order.book) c.loop-order.tape c.loop-order.last c.loop-order.invariant.0 (g.B.Book.kept.standing c.loop-order.book) (plain c.in-Some.order) c.in-Some.ensures (sym c.chooses.ensures ∙ c.if-chooses.false),
  c.loop-order.invariant.1,
)

pub returns : goal.returns
returns g c =
    let d = done g.C.Choice.chosen (withdrawal c.args.reason) (g.B.Book.orders c.args.book.now) c.args.tape.now (g.B.Book.orders c.loop-order.book) c.loop-order.tape c.loop-order.last c.loop-order.invariant.0 c.in_default.ensures in
    record { after = d.0; room = c.loop-order.invariant.1; records = d.1 }
