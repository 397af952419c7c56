-- A whole day: a session that is made, and a list that it runs.
use Rattle.std.specs.Prelude.{◌≡◌, ℕ, zero, suc, List, length}
use Rattle.model.specs.declared.types.Answer.{Answer}
use Rattle.model.specs.declared.types.Call.{Call}
use Rattle.model.specs.declared.types.Order.{Order}
use Rattle.model.specs.declared.types.Point.{Point}
use Rattle.model.specs.declared.types.TapeRecord.{TapeRecord}
use Rattle.model.specs.Grid.{Settings}
use Rattle.model.specs.Rules.{Rule}
use Rattle.model.specs.State.{State}
use Rattle.model.specs.Making.{make_refusal}
use Rattle.model.specs.Run.{run, after, list_refusal, answers_after, tape_after, scratch_run}
use Rattle.model.specs.Laws.{Kept}
use Rattle.desk.specs.declared.ends.DayEnd.{DayEnd}

-- the first of two refusals
abbrev pub first_refusal : ℕ → ℕ → ℕ
first_refusal zero n = n
first_refusal (suc m) n = suc m

-- the questions of making, and then the list's
abbrev pub day_refusal : Settings → ℕ → List Order → ℕ → List Call → ℕ
day_refusal g last os places cs = first_refusal (make_refusal g last os) (list_refusal places cs)

-- a day that ran from the new session s: what it came to, the answers, the tape and the scratch before it and after it, by the defined list; and the laws of a session hold of it
pub record Lived (r : Rule) (T X : ℕ) (s : State) (cs : List Call) (d : DayEnd) (a₀ a : List Answer) (t₀ t : List TapeRecord) (x₀ x : List Point) : Type 0 where
  pub calls : d.calls ≡ length cs
  pub reference : d.reference ≡ (after s (run r T X s cs)).reference
  pub used : d.used ≡ (after s (run r T X s cs)).used
  pub standing : d.standing ≡ length (after s (run r T X s cs)).orders
  pub answers : a ≡ answers_after a₀ (run r T X s cs)
  pub tape : t ≡ tape_after t₀ s (run r T X s cs)
  pub scratch : x ≡ scratch_run s cs (run r T X s cs) x₀
  pub laws : Kept r T s cs (run r T X s cs)

-- a day that was refused wrote nothing
pub record Unlived (a₀ a : List Answer) (t₀ t : List TapeRecord) (x₀ x : List Point) : Type 0 where
  pub answers : a ≡ a₀
  pub tape : t ≡ t₀
  pub scratch : x ≡ x₀
