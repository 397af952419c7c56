use Rattle.std.proofs.Common.{rules, ◌≡◌, arith}
use Rattle.model.specs.declared.types.Phase.TheVariants.{Trading}
use Rattle.model.specs.State.{State}
use Rattle.model.specs.Views.{view}
use Rattle.grid.specs.Views.{plain}
use Rattle.entering.proofs.Running.{inactive_runs, active_runs}
use Rattle.entering.proofs.planning.course_of.Goals as goal

pub returns-then-not-active : goal.returns-then-not-active
returns-then-not-active g c =
    let book = c.args.book.now in
    let s : State = view (plain c.args.settings.now) c.args.day.now (g.B.Book.orders book) (g.B.Book.capacity book) in
    let trading : c.args.day.now.phase ≡ Trading = search rules in
    inactive_runs s c.args.entry trading c.if-not-active.ensures c.inactive_course.result c.inactive_course.ensures

pub returns : goal.returns
returns g c =
    let book = c.args.book.now in
    let s : State = view (plain c.args.settings.now) c.args.day.now (g.B.Book.orders book) (g.B.Book.capacity book) in
    let trading : c.args.day.now.phase ≡ Trading = search rules in
    active_runs s c.args.entry c.args.settings.now.static_high (g.B.Book.kept.bounded book) (omega (arith, g.B.Book.kept.fitting book, g.B.Book.kept.limited book)) c.plan-plan.result c.plan-plan.ensures trading c.if-not-active.ensures c.active_course.result c.active_course.ensures
