use Rattle.std.proofs.Common.{◌≡◌, ◌+◌, ◌*◌, ◌/◌, min, arith}
use Rattle.model.proofs.GridEnds.{highest_is}
use Rattle.grid.specs.Views.{plain}
use Rattle.grid.proofs.Bounds.{valid}
use Rattle.grid.proofs.settings.Settings.band_top.Goals as goal

pub returns-clause-greatest : goal.returns-clause-greatest
returns-clause-greatest c =
    let s = c.args.self.now in
    let e : c.min.result ≡ min 99999 (s.indicative * (100 + s.absolute) / 100) = omega (arith, c.min.ensures) in
    rw e (highest_is (plain s) (valid s))
