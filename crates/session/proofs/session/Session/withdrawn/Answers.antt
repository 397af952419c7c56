use Rattle.grid.specs.Views.{plain}
use Rattle.session.proofs.Fine.{fine_of, came_fine, withdraw_fine}
use Rattle.session.proofs.session.Session.withdrawn.Goals as goal

pub invariant_of-self : goal.invariant_of-self
invariant_of-self g c =
    let now = c.args.self.now in
    let f = came_fine (c.withdraw.ensures.came (plain now.settings)) (withdraw_fine _ _ _ _ (fine_of now)) in
    record { called = f.called; reference = f.reference; sound = f.sound }
