use Rattle.std.proofs.Common.{rules, length}
use Rattle.model.specs.State.{State}
use Rattle.model.specs.Views.{view}
use Rattle.grid.specs.Views.{plain}
use Rattle.entering.proofs.Phases.{open_after}
use Rattle.entering.proofs.Placing.{came_done}
use Rattle.entering.proofs.entries.enter.Goals as goal

pub returns-clause-came : goal.returns-clause-came
returns-clause-came g c st reference =
    let book = c.args.book.now in
    let s : State = view (plain c.args.settings.now) c.args.day.now (g.B.Book.orders book) (g.B.Book.capacity book) in
    let course = c.in_ok-course.course in
    let end = c.carry.new.book in
    let carried = c.carry.ensures in
    came_done s c.args.tape.now c.args.entry course c.in_ok-course.ensures st reference (g.B.Book.orders end) carried.orders (g.B.Book.capacity end) carried.capacity c.carry.new.tape.next (search rules) _ (search rules)

pub returns-clause-phase : goal.returns-clause-phase
returns-clause-phase g c =
    let book = c.args.book.now in
    let s : State = view (plain c.args.settings.now) c.args.day.now (g.B.Book.orders book) (g.B.Book.capacity book) in
    open_after s (length c.args.tape.now) c.args.entry c.in_ok-course.course c.in_ok-course.ensures
