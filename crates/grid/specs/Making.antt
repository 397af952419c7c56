-- How settings are made of plain numbers.
use Rattle.std.specs.Prelude.{◌≡◌, Result, MatchResult}
use Rattle.model.specs.declared.types.Refusal.{Refusal}
use Rattle.model.specs.Numbers.{code, no_refusal}
use Rattle.model.specs.Making.{ask_settings}
use Rattle.grid.specs.declared.settings.Settings.{Settings}
use Rattle.grid.specs.declared.terms.Terms.{Terms}
use Rattle.grid.specs.Views.{plain, offered}

-- the settings of these numbers, or the refusal of their first question that is answered no
abbrev pub Judged : Terms → Result Settings Refusal → Type 0
Judged terms r =
    MatchResult r
    (λ s. (ask_settings (offered terms) terms.last_number no_refusal ≡ no_refusal) × (plain s ≡ offered terms) × (s.last_number ≡ terms.last_number))
    (λ e. ask_settings (offered terms) terms.last_number no_refusal ≡ code e)
