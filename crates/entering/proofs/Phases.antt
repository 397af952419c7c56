-- An order leaves a phase that takes orders.
use Rattle.std.proofs.Common.{◌≡◌, ℕ, true, refl, ap, ◌∙◌, subst, ⊎_elim}
use Rattle.model.specs.declared.types.Entry.{Entry}
use Rattle.model.specs.declared.types.Call.TheVariants.{Enter}
use Rattle.model.specs.Rules.{nearest}
use Rattle.model.specs.State.{State, takes_orders}
use Rattle.model.specs.Laws.{leads}
use Rattle.model.proofs.Course.{step_in_course}
use Rattle.entering.specs.declared.courses.Course.{Course}
use Rattle.entering.specs.Accepted.{Accepted}

pub open_after : (s : State) (tape : ℕ) (e : Entry) (c : Course) → Accepted s tape e c → takes_orders c.phase ≡ true
open_after s tape e c a =
    let m = subst (λ o. o.refusal ≡ 0 → leads (Enter e) s.phase o.state.phase) a.outcome (step_in_course nearest tape 0 s (Enter e)) refl in
    ⊎_elim (λ same. ap takes_orders same ∙ m.0) (λ both. ap takes_orders both.1) m.1
