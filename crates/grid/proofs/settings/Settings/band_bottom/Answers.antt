use Rattle.std.proofs.Common.{◌≡◌, ℕ, ◌-◌, ◌*◌, sym, ◌∙◌, arith}
use Rattle.model.specs.Grid.{divided_up}
use Rattle.model.proofs.GridEnds.{lowest_is}
use Rattle.grid.specs.Views.{plain}
use Rattle.grid.proofs.Bounds.{valid, divided_up_is}
use Rattle.grid.proofs.settings.Settings.band_bottom.Goals as goal

pub returns-clause-least : goal.returns-clause-least
returns-clause-least c =
    let s = c.args.self.now in
    let x : ℕ = s.indicative * (100 - s.absolute) in
    let e : c.div_ceil.result ≡ divided_up 100 x = c.div_ceil.ensures ∙ sym (divided_up_is 100 x (omega arith)) in
    rw e (lowest_is (plain s) (valid s))
