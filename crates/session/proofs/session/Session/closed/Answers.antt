use Rattle.grid.specs.Views.{plain}
use Rattle.session.proofs.Fine.{fine_of, came_fine, close_fine}
use Rattle.session.proofs.session.Session.closed.Goals as goal

pub invariant_of-self : goal.invariant_of-self
invariant_of-self g c =
    let now = c.args.self.now in
    let f = came_fine (c.close.ensures.came (plain now.settings)) (close_fine _ _ (fine_of now)) in
    record { called = f.called; reference = f.reference; sound = f.sound }
