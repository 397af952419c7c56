use Rattle.std.proofs.Common.{length, sym, subst}
use Rattle.grid.proofs.Bounds.{valid}
use Rattle.session.specs.Views.{state, Sound}
use Rattle.session.proofs.Fine.{fine_of, enter_sound}
use Rattle.session.proofs.session.Session.entered.Goals as goal

pub invariant_of-self-clause-sound : goal.invariant_of-self-clause-sound
invariant_of-self-clause-sound g c =
    let now = c.args.self.now in
    let before = state g.B.Book.orders g.B.Book.capacity now in
    subst Sound (sym (c.enter.ensures.came now.sound now.reference).state) (enter_sound before (valid now.settings) (length c.args.tape.now) c.args.entry (fine_of now))
