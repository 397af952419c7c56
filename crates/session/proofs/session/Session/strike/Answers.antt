use Rattle.grid.proofs.Bounds.{valid}
use Rattle.session.proofs.Fine.{fine_of, came_fine, strike_fine}
use Rattle.session.proofs.session.Session.strike.Goals as goal

pub invariant_of-self : goal.invariant_of-self
invariant_of-self g c =
    let now = c.args.self.now in
    let f = came_fine c.strike_called.ensures.came (strike_fine _ (valid now.settings) _ _ _ c.in_ok-check_called.ensures.asked (fine_of now)) in
    record { called = f.called; reference = f.reference; sound = f.sound }
