-- The best points of a list, by one best point that is known, and after one point more.
use Rattle.std.proofs.Common.{◌≡◌, Bool, true, false, cond, not, ◌||◌, List, [], ◌∷◌, ◌++◌, filter, refl, ◌∙◌, ⊎_elim, append-nil, arith}
use Rattle.std.specs.List.{ContainsAt as Has, AllByRecursion}
use Rattle.std.proofs.lemmas.List.Elements.{filter-append}
use Rattle.std.proofs.ByRecursion.{all-has}
use Rattle.std.proofs.lemmas.Bool.{cases_Bool, cond-false, cond-true}
use Rattle.model.specs.declared.types.Point.{Point}
use Rattle.model.specs.Rules.{Rule, any, best}
use Rattle.model.specs.Lawful.{Lawful}
use Rattle.model.proofs.Lists.{all_from_has, kept_none}
use Rattle.model.proofs.Choice.{Unbeaten, any_false, false_any, unbeaten_tie}
use Rattle.pricing.specs.Level.{level_with}

-- tests that agree on the elements keep the same of them
kept_agree : {X : Type 0} (p q : X → Bool) (xs : List X) → AllByRecursion (λ x. p x ≡ q x) xs → filter p xs ≡ filter q xs
kept_agree p q [] h = refl
kept_agree p q (x ∷ xs) h = let e = h.0 in let i = kept_agree p q xs h.1 in cc

any_push : {X : Type 0} (p : X → Bool) (xs : List X) (x : X) → any p (xs ++ x ∷ []) ≡ (any p xs || p x)
any_push p [] x = grind arith
any_push p (y ∷ ys) x = let i = any_push p ys x in grind arith

any_has : {X : Type 0} (p : X → Bool) (xs : List X) (x : X) → Has xs x → p x ≡ true → any p xs ≡ true
any_has p xs x m e = ⊎_elim (λ t. t) (λ f. let n : p x ≡ false = all-has (λ y. p y ≡ false) xs x (any_false p xs f) m in grind arith) (cases_Bool (any p xs))

-- h is a best point of xs
module _ (r : Rule) (law : Lawful r) (xs : List Point) (h : Point) (listed : Has xs h) (unbeaten : Unbeaten r xs h) where
  -- no point of a list goes ahead of x
  abbrev passes : List Point → Point → Bool
  passes ps x = not (any (λ q. r.ahead q x) ps)

  -- the points as good as h, in xs and beyond, are those that no point of xs goes ahead of
  as_good : (x : Point) → not (r.ahead h x) ≡ passes xs x
  as_good x =
      ⊎_elim (λ t. let a = any_has (λ q. r.ahead q x) xs h listed t in grind arith) (λ f. let a = false_any (λ q. r.ahead q x) xs (unbeaten_tie r law xs h x unbeaten f) in grind arith)
      (cases_Bool (r.ahead h x))

  pub level_best : level_with r h xs ≡ best r xs
  level_best = kept_agree (λ x. not (r.ahead h x)) (passes xs) xs (all_from_has (λ x. not (r.ahead h x) ≡ passes xs x) xs (λ x m. as_good x))

  -- p comes after xs
  module _ (p : Point) where
    more : List Point
    more = xs ++ p ∷ []

    split : best r more ≡ filter (passes more) xs ++ cond (passes more p) (p ∷ []) []
    unfolding more
    split = filter-append (passes more) xs (p ∷ [])

    passes_more : (x : Point) → passes more x ≡ not (any (λ q. r.ahead q x) xs || r.ahead p x)
    unfolding more
    passes_more x = let e = any_push (λ q. r.ahead q x) xs p in cc

    -- p passes where h is not ahead of it
    last : passes more p ≡ not (r.ahead h p)
    last = let e = passes_more p in let g = as_good p in grind (arith, law.asymmetric p p)

    -- where p is not ahead of h, each point of xs passes as it did
    same : r.ahead p h ≡ false → filter (passes more) xs ≡ best r xs
    same n = kept_agree (passes more) (passes xs) xs (all_from_has (λ x. passes more x ≡ passes xs x) xs (λ x m. let e = passes_more x in let g = as_good x in grind (arith, law.transitive p x h)))

    -- where it is ahead of h, none passes
    none : r.ahead p h ≡ true → filter (passes more) xs ≡ []
    none won = kept_none (passes more) xs (all_from_has (λ x. passes more x ≡ false) xs (λ x m.
        let e = passes_more x in
        let u : r.ahead x h ≡ false = all-has (λ q. r.ahead q h ≡ false) xs x unbeaten m in
        grind (arith, law.transitive p h x)))

    pub best_taken : r.ahead p h ≡ true → best r (xs ++ p ∷ []) ≡ p ∷ []
    unfolding more
    best_taken won =
        let k = none won in
        let here : passes more p ≡ true = let l = last in grind (arith, law.asymmetric p h) in
        let c = cond-true (passes more p) (p ∷ []) [] here in
        split ∙ cc

    pub best_kept : r.ahead p h ≡ false → r.ahead h p ≡ true → best r (xs ++ p ∷ []) ≡ best r xs
    unfolding more
    best_kept n lost =
        let k = same n in
        let here : passes more p ≡ false = let l = last in grind arith in
        let c = cond-false (passes more p) (p ∷ []) [] here in
        let nil = append-nil (best r xs) in
        split ∙ cc

    pub best_joined : r.ahead p h ≡ false → r.ahead h p ≡ false → best r (xs ++ p ∷ []) ≡ best r xs ++ p ∷ []
    unfolding more
    best_joined n tied =
        let k = same n in
        let here : passes more p ≡ true = let l = last in grind arith in
        let c = cond-true (passes more p) (p ∷ []) [] here in
        split ∙ cc
