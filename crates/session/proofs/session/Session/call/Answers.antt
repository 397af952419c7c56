use Rattle.grid.proofs.Bounds.{valid}
use Rattle.model.specs.Lawful.{Lawful}
use Rattle.session.proofs.Fine.{fine_of, came_fine, call_fine}
use Rattle.session.proofs.session.Session.call.Goals as goal

pub invariant_of-self : goal.invariant_of-self
invariant_of-self g c =
    let now = c.args.self.now in
    let rule = now.rule.below in
    let law : Lawful (g.R.PriceRule.rule rule) = record { asymmetric = g.met.R.PriceRule.asymmetric rule; transitive = g.met.R.PriceRule.transitive rule } in
    let f = came_fine c.call.ensures.came (call_fine _ law _ (valid now.settings) _ _ (fine_of now)) in
    record { called = f.called; reference = f.reference; sound = f.sound }
