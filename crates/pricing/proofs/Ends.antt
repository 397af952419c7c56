-- The ends of the best points of a list that comes in two parts.
use Rattle.std.proofs.Common.{◌≡◌, false, cond, ltb, List, [], ◌∷◌, ◌++◌, Some, Option, sym, refl, ap, ◌∙◌, subst, ⊎_elim, append_assoc, append-nil, arith}
use Rattle.std.specs.List.{ContainsAt as Has}
use Rattle.std.proofs.lemmas.Bool.{cond_both}
use Rattle.model.specs.declared.types.Point.{Point}
use Rattle.model.specs.Rules.{Rule, best, lowest_of, highest_of}
use Rattle.model.specs.Lawful.{Lawful}
use Rattle.model.proofs.Lists.{has_here, has_there, has_none, has_cases}
use Rattle.model.proofs.Choice.{best_has, has_best, unbeaten_exists}
use Rattle.pricing.specs.declared.choice.BestEnds.{BestEnds}
use Rattle.pricing.specs.Ends.{ends_of, ends, alone, widened, ends_with, ends_onward}
use Rattle.pricing.proofs.Best.{best_taken, best_kept, best_joined}

lowest_push : (p : Point) (qs : List Point) (x : Point) → lowest_of p (qs ++ x ∷ []) ≡ cond (ltb x.price (lowest_of p qs).price) x (lowest_of p qs)
lowest_push p [] x = refl
lowest_push p (q ∷ qs) x = lowest_push (cond (ltb q.price p.price) q p) qs x

highest_push : (p : Point) (qs : List Point) (x : Point) → highest_of p (qs ++ x ∷ []) ≡ cond (ltb (highest_of p qs).price x.price) x (highest_of p qs)
highest_push p [] x = refl
highest_push p (q ∷ qs) x = highest_push (cond (ltb p.price q.price) q p) qs x

pub highest_has : (p : Point) (qs : List Point) → Has (p ∷ qs) (highest_of p qs)
highest_has p [] = has_here p []
highest_has p (q ∷ qs) =
    cond_both (ltb p.price q.price) q p (λ w. Has (p ∷ q ∷ qs) (highest_of w qs))
    (λ _. has_there p (q ∷ qs) (highest_of q qs) (highest_has q qs))
    (λ _. ⊎_elim (λ e. subst (Has (p ∷ q ∷ qs)) e (has_here p (q ∷ qs))) (λ k. has_there p (q ∷ qs) (highest_of p qs) (has_there q qs (highest_of p qs) k)) (has_cases p qs (highest_of p qs) (highest_has p qs)))

module _ (r : Rule) (law : Lawful r) where
  -- one more point
  ends_push : (xs : List Point) (p : Point) → ends r (xs ++ p ∷ []) ≡ Some (ends_with r (ends r xs) p)
  ends_push [] p = let own : r.ahead p p ≡ false = grind (arith, law.asymmetric p p) in rw own
  ends_push (x ∷ xs) p = go (best r ps) refl
    where
      ps : List Point
      ps = x ∷ xs

      go : (bs : List Point) → best r ps ≡ bs → ends_of (best r (ps ++ p ∷ [])) ≡ Some (ends_with r (ends_of bs) p)
      go [] e = let w = unbeaten_exists r law x xs in absurd (has_none w.0 (subst (λ l. Has l w.0) e (has_best r ps w.0 w.1 w.2)))
      go (b ∷ bs) e =
          let h : Point = highest_of b bs in
          let k = best_has r ps h (subst (λ l. Has l h) (sym e) (highest_has b bs)) in
          let found : BestEnds = record { lowest = lowest_of b bs; highest = h } in
          cond_both (r.ahead p h) (alone p) (cond (r.ahead h p) found (widened found p)) (λ v. ends_of (best r (ps ++ p ∷ [])) ≡ Some v)
          (λ won. ap ends_of (best_taken r law ps h k.0 k.1 p won))
          (λ n. cond_both (r.ahead h p) found (widened found p) (λ v. ends_of (best r (ps ++ p ∷ [])) ≡ Some v)
          (λ lost. ap ends_of (best_kept r law ps h k.0 k.1 p n lost ∙ e))
          (λ tied. ap ends_of (best_joined r law ps h k.0 k.1 p n tied ∙ ap (λ l. l ++ p ∷ []) e) ∙ (let l = lowest_push b bs p in let m = highest_push b bs p in cc)))

  ends_append : (xs ys : List Point) → ends r (xs ++ ys) ≡ ends_onward r (ends r xs) ys
  ends_append xs [] = ap (ends r) (append-nil xs)
  ends_append xs (y ∷ ys) = ap (ends r) (sym (append_assoc xs (y ∷ []) ys)) ∙ ends_append (xs ++ y ∷ []) ys ∙ ap (λ e. ends_onward r e ys) (ends_push xs y)

  -- going on from the ends of xs gives those of xs and ys
  pub ends_joined : (o earlier : Option BestEnds) (xs ys : List Point) → o ≡ ends_onward r earlier ys → earlier ≡ ends r xs → o ≡ ends r (xs ++ ys)
  ends_joined o earlier xs ys k e = k ∙ ap (λ v. ends_onward r v ys) e ∙ sym (ends_append xs ys)
