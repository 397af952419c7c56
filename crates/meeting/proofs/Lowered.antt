-- What a lowering leaves of a list of standing orders.
use Rattle.std.proofs.Common.{◌≡◌, ℕ, suc, ◌+◌, ◌-◌, ◌<◌, cond, leb, List, [], ◌∷◌, length, refl, subst, ⊎_elim, arith}
use Rattle.std.specs.List.{ContainsAt as Has, AllByRecursion}
use Rattle.std.proofs.lemmas.Bool.{eq-eqb, ne_eqb}
use Rattle.std.proofs.ByRecursion.{all-has, all_kept_by, all_has_itself}
use Rattle.model.specs.declared.types.Order.{Order}
use Rattle.model.specs.declared.types.Side.{Side}
use Rattle.model.specs.Grid.{Settings, active}
use Rattle.model.specs.Rank.{ranked}
use Rattle.model.specs.Orders.{Standing, lower, with_left}
use Rattle.model.proofs.Lists.{cond_pair, has_none, has_cases}
use Rattle.model.proofs.Ranking.{Distinct, of_side, all_ranked, distinct_kept, distinct_ranked}
use Rattle.model.proofs.Standing.{standing_above}
use Rattle.walking.specs.Walks.{actives}

-- the active orders of a side in rank are some of the orders, with distinct numbers
pub actives_has : (g : Settings) (s : Side) (os : List Order) → AllByRecursion (Has os) (actives g (ranked s os))
actives_has g s os = all_kept_by (λ o. active g o.price) (Has os) (ranked s os) (all_ranked (Has os) s os (all_kept_by (of_side s) (Has os) os (all_has_itself os)))

pub actives_distinct : (g : Settings) (s : Side) (os : List Order) → Distinct os → Distinct (actives g (ranked s os))
actives_distinct g s os d = distinct_kept (λ o. active g o.price) (ranked s os) (distinct_ranked s os d)

-- a lowering drops its order where it takes all that is left
pub length_lower : (lo hi q : ℕ) (os : List Order) (x : Order) → Standing lo os hi → Has os x → length (lower x.number q os) + cond (leb x.left q) 1 0 ≡ length os
length_lower lo hi q [] x st h = absurd (has_none x h)
length_lower lo hi q (o ∷ os) x st h =
    ⊎_elim
    (λ same. subst (λ v. length (lower v.number q (o ∷ os)) + cond (leb v.left q) 1 0 ≡ suc (length os)) same here)
    (λ k.
    let l : o.number < x.number = all-has (λ y. o.number < y.number) os x (standing_above o.number hi os st.2) k in
    rw (ne_eqb o.number x.number (omega arith)) (omega (arith, length_lower o.number hi q os x st.2 k)))
    (has_cases o os x h)
  where
    here : length (lower o.number q (o ∷ os)) + cond (leb o.left q) 1 0 ≡ suc (length os)
    here = rw (eq-eqb o.number o.number refl) (cond_pair (leb o.left q) os (with_left o (o.left - q) ∷ os) 1 0 (λ l k. length l + k ≡ suc (length os)) (λ _. omega arith) (λ _. omega arith))
