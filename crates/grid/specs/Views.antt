-- Settings as the definition of a session has them.
use Rattle.std.specs.Prelude.{ℕ}
use Rattle.model.specs.Grid.{Settings}
use Rattle.grid.specs.declared.settings.Settings.{Settings as Kept}
use Rattle.grid.specs.declared.terms.Terms.{Terms}

-- the settings of four numbers, in bounds or not
abbrev pub given : ℕ → ℕ → ℕ → ℕ → Settings
given tick indicative absolute static = record { tick = tick; indicative = indicative; absolute = absolute; static = static }

-- the four numbers of settings that keep their bounds
abbrev pub plain : Kept → Settings
plain s = given s.tick s.indicative s.absolute s.static_band

-- the settings that are asked for, in bounds or not
abbrev pub offered : Terms → Settings
offered t = given t.tick t.indicative t.absolute t.static_band
