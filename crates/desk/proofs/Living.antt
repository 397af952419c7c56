-- A day that ran, from what making and the list ensure.
use Rattle.std.proofs.Common.{◌≡◌, ℕ, Bool, true, false, cond, leb, List, [], length, refl, ap, ◌∙◌, arith}
use Rattle.model.specs.declared.types.Answer.{Answer}
use Rattle.model.specs.declared.types.Call.{Call}
use Rattle.model.specs.declared.types.Point.{Point}
use Rattle.model.specs.declared.types.Refusal.TheVariants.{AnswersTooShort}
use Rattle.model.specs.declared.types.TapeRecord.{TapeRecord}
use Rattle.model.specs.Numbers.{no_refusal}
use Rattle.model.specs.Rules.{Rule}
use Rattle.model.specs.State.{State, ask}
use Rattle.model.specs.Run.{run, list_refusal, calls_run, Ran}
use Rattle.model.specs.Laws.{Kept}
use Rattle.desk.specs.declared.ends.DayEnd.{DayEnd}
use Rattle.desk.specs.Days.{Lived}

all_run : (b : Bool) (cs : List Call) → ask b AnswersTooShort no_refusal ≡ no_refusal → cond b cs [] ≡ cs
all_run true cs e = refl
all_run false cs e = absurd (omega arith)

-- the list is not refused, so that every call runs
pub lived : {r r₁ : Rule} {T X : ℕ} {s s₁ : State} {cs : List Call} {a₀ a : List Answer} {t₀ t : List TapeRecord} {x₀ x : List Point} (s' : State) (places : ℕ) (d : DayEnd)
    → r₁ ≡ r → s₁ ≡ s → list_refusal places cs ≡ no_refusal
    → Ran r₁ T X s₁ s' (calls_run places cs) a₀ a t₀ t x₀ x → Kept r₁ T s₁ (calls_run places cs) (run r₁ T X s₁ (calls_run places cs))
    → d.calls ≡ length cs → d.reference ≡ s'.reference → d.used ≡ s'.used → d.standing ≡ length s'.orders
    → Lived r T X s cs d a₀ a t₀ t x₀ x
lived {r = r} {T = T} {X = X} {s = s} {cs = cs} {a₀ = a₀} {a = a} {t₀ = t₀} {t = t} {x₀ = x₀} {x = x} s' places d er es e ran laws calls reference used standing =
    let all : calls_run places cs ≡ cs = all_run (leb (length cs) places) cs e in
    let ran' : Ran r T X s s' cs a₀ a t₀ t x₀ x = rw (er, es, all) at ran in
    record {
      calls = calls;
      reference = reference ∙ ap (λ z. z.reference) ran'.state;
      used = used ∙ ap (λ z. z.used) ran'.state;
      standing = standing ∙ ap (λ z. length z.orders) ran'.state;
      answers = ran'.answers;
      tape = ran'.tape;
      scratch = ran'.scratch;
      laws = rw (er, es, all) at laws;
    }
