-- A day, from what making a session and running its list ensure.
use Rattle.std.proofs.Common.{◌≡◌, ℕ, zero, suc, List, ◌++◌, length, take, drop, ap, ◌∙◌, arith}
use Rattle.std.proofs.lemmas.List.{take-append-le, take_all}
use Rattle.model.specs.declared.types.Answer.{Answer}
use Rattle.model.specs.declared.types.Call.{Call}
use Rattle.model.specs.declared.types.Point.{Point}
use Rattle.model.specs.declared.types.TapeRecord.{TapeRecord}
use Rattle.model.specs.Numbers.{no_refusal}
use Rattle.model.specs.Rules.{Rule}
use Rattle.model.specs.State.{State}
use Rattle.model.specs.Run.{calls_run, Ran}
use Rattle.crossing.specs.declared.raw.RawEnd.{RawEnd}
use Rattle.crossing.specs.declared.raw.RawOrder.{RawOrder}
use Rattle.crossing.specs.Days.{outcomes, Traded}
use Rattle.crossing.specs.Shown.{end_of, orders_shown}

-- what was lent as a slice is all that its vector holds
pub refilled : {A : Type 0} (n : ℕ) (xs old : List A) → length xs ≡ n → take n (xs ++ drop (length xs) old) ≡ xs
refilled n xs old e = take-append-le n xs (drop (length xs) old) (omega arith) ∙ take_all n xs (omega arith)

-- the session is made, and its list ran on what was lent
pub traded : {r r₁ : Rule} {s s₁ : State} {cs cs₁ : List Call} {a₀ a₁ a a' : List Answer} {t₀ t₁ t t' : List TapeRecord} {x₀ x₁ x x' : List Point} {o₀ o : List RawOrder} {e₀ e : RawEnd} (s' : State) (refusal : ℕ)
    → refusal ≡ no_refusal → r₁ ≡ r → s₁ ≡ s → cs₁ ≡ cs → a₁ ≡ a₀ → t₁ ≡ t₀ → x₁ ≡ x₀
    → Ran r₁ (length t₁) (length x₁) s₁ s' (calls_run (length a₁) cs₁) a₁ a t₁ t x₁ x
    → a' ≡ a → t' ≡ t → x' ≡ x → o ≡ orders_shown s'.orders o₀ → e ≡ end_of s'
    → Traded refusal s cs (outcomes r refusal s cs (length a₀) (length t₀) (length x₀)) a₀ a' t₀ t' x₀ x' o₀ o e₀ e
traded s' (suc n) made er es ec ea et ex ran fa ft fx fo fe = absurd (omega arith)
traded {r = r} {s = s} {cs = cs} {a₀ = a₀} {a = a} {t₀ = t₀} {t = t} {x₀ = x₀} {x = x} {o₀ = o₀} s' zero made er es ec ea et ex ran fa ft fx fo fe =
    let ran' : Ran r (length t₀) (length x₀) s s' (calls_run (length a₀) cs) a₀ a t₀ t x₀ x = rw (er, es, ec, ea, et, ex) at ran in
    record {
      answers = fa ∙ ran'.answers;
      tape = ft ∙ ran'.tape;
      scratch = fx ∙ ran'.scratch;
      standing = fo ∙ ap (λ z. orders_shown z.orders o₀) ran'.state;
      end = fe ∙ ap end_of ran'.state;
    }
