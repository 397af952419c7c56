-- The whole grid as one run.
use Rattle.std.proofs.Common.{ℕ, ◌+◌, ◌-◌, ◌*◌, ◌/◌, ◌≤◌, add-mul, arith}
use Rattle.model.specs.Grid.{lowest, highest, count}
use Rattle.grid.specs.declared.settings.Settings.{Settings}
use Rattle.grid.specs.Views.{plain}
use Rattle.grid.proofs.Bounds.{valid, place_small}

pub grid_small : (s : Settings) → lowest (plain s) + count (plain s) * s.tick ≤ 200000
grid_small s =
    let last : ℕ = (highest (plain s) - lowest (plain s)) / s.tick in
    omega (arith, place_small (plain s) (valid s) last (omega arith), add-mul last 1 s.tick, s.tick_high)
