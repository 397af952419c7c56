-- One turn of a list, from what a call ensures.
use Rattle.std.proofs.Common.{◌≡◌, ℕ, ◌+◌, ◌<◌, List, length, get_or, set, Result, ap, ◌∙◌, ap₂}
use Rattle.model.specs.declared.types.Answer.{Answer}
use Rattle.model.specs.declared.types.Call.{Call}
use Rattle.model.specs.declared.types.Point.{Point}
use Rattle.model.specs.declared.types.Refusal.{Refusal}
use Rattle.model.specs.declared.types.TapeRecord.{TapeRecord}
use Rattle.model.specs.Rules.{Rule}
use Rattle.model.specs.Records.{written}
use Rattle.model.specs.State.{State}
use Rattle.model.specs.Run.{step, scratch_step}
use Rattle.model.specs.Views.{Came, shown}
use Rattle.model.proofs.Running.{Sofar, more_at}

-- the next call, whose rule and lengths are those of the list
pub again : {r r' : Rule} {T X : ℕ} {before s : State} {cs : List Call} {i : ℕ} {a₀ a : List Answer} {t₀ t : List TapeRecord} {x₀ x : List Point} → Sofar r T X before s cs i a₀ a t₀ t x₀ x → r' ≡ r
    → (d : Call) → i < length cs → i < length a → (res : Result ℕ Refusal) (s' : State) (t' : List TapeRecord) (x' : List Point) (v : Answer)
    → Came (step r' (length t) (length x) s (get_or cs i d)) res s' t s.used t' → x' ≡ scratch_step s (get_or cs i d) x → v ≡ shown res
    → Sofar r T X before s' cs (i + 1) a₀ (set a i v) t₀ t' x₀ x'
again {r = r} {T = T} {s = s} {cs = cs} {i = i} {t = t} {x = x} h er d l la res s' t' x' v k ex ev =
    let c : Call = get_or cs i d in
    let e = ap (λ q. step q (length t) (length x) s c) er ∙ ap (λ n. step r n (length x) s c) h.tape_long ∙ ap (λ n. step r T n s c) h.scratch_long in
    more_at h d l la s' (k.state ∙ ap (λ o. o.state) e)
    v (ev ∙ ap₂ {C = Answer} (λ m n. record { refusal = m; answer = n }) (k.refusal ∙ ap (λ o. o.refusal) e) (k.answer ∙ ap (λ o. o.answer) e))
    t' (k.tape ∙ ap (λ o. written t s.used o.records) e)
    x' ex
