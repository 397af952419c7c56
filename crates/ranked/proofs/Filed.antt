-- Two elements filed into a sorted list may change places.
use Rattle.std.proofs.Common.{◌≡◌, Bool, true, false, cond, not, List, [], ◌∷◌, ap, ⊎_elim}
use Rattle.std.proofs.lemmas.Bool.{cases_Bool}
use Rattle.ranked.specs.ByNumber.{filed}

module _ {X : Type 0} (lt : X → X → Bool) (past : (a x b : X) → lt b x ≡ true → lt a x ≡ false → lt a b ≡ false) where
  -- two elements side by side
  first_two : (a b : X) (l : List X) → lt b a ≡ not (lt a b) → cond (lt a b) (a ∷ b ∷ l) (b ∷ a ∷ l) ≡ cond (lt b a) (b ∷ a ∷ l) (a ∷ b ∷ l)
  first_two a b l e = ⊎_elim (λ (t : lt a b ≡ true). simp (e, t)) (λ (t : lt a b ≡ false). simp (e, t)) (cases_Bool (lt a b))

  -- of two elements just one comes first
  pub filed_swap : (a b : X) (l : List X) → lt b a ≡ not (lt a b) → lt a b ≡ not (lt b a) → filed lt a (filed lt b l) ≡ filed lt b (filed lt a l)
  filed_swap a b [] e f = first_two a b [] e
  filed_swap a b (x ∷ l) e f =
      ⊎_elim
      (λ (p : lt a x ≡ true). ⊎_elim
      (λ (q : lt b x ≡ true). simp (p, q) (first_two a b (x ∷ l) e))
      (λ (q : lt b x ≡ false). let n = past b x a p q in simp (p, q, n))
      (cases_Bool (lt b x)))
      (λ (p : lt a x ≡ false). ⊎_elim
      (λ (q : lt b x ≡ true). let n = past a x b q p in simp (p, q, n))
      (λ (q : lt b x ≡ false). simp (p, q) (ap (λ t. x ∷ t) (filed_swap a b l e f)))
      (cases_Bool (lt b x)))
      (cases_Bool (lt a x))
