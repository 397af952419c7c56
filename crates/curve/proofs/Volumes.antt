-- The volume of a side at a price is what its active orders in rank have left there.
use Rattle.std.proofs.Common.{◌≡◌, ℕ, Bool, true, false, cond, ◌&&◌, List, [], ◌∷◌, sum_by, sym, refl, ◌∙◌, arith}
use Rattle.std.proofs.lemmas.List.Sums.{sum_by-cons}
use Rattle.model.specs.declared.types.Side.{Side}
use Rattle.model.specs.declared.types.Order.{Order}
use Rattle.model.specs.Grid.{Settings, active}
use Rattle.model.specs.Curve.{allows, takes_part, volume}
use Rattle.model.specs.Rank.{same_side, ranked}
use Rattle.model.proofs.Lists.{sum_by_kept}
use Rattle.model.proofs.Ranking.{of_side, sum_by_ranked}
use Rattle.walking.specs.Walks.{actives}
use Rattle.curve.specs.Reaching.{left_at}

-- what is left of an order at p
abbrev part : Side → ℕ → Order → ℕ
part s p o = cond (allows s o.price p) o.left 0

left_at_sum_by : (s : Side) (p : ℕ) (os : List Order) → left_at s p os ≡ sum_by (part s p) os
left_at_sum_by s p [] = refl
left_at_sum_by s p (o ∷ os) = omega (arith, sum_by-cons (part s p) o os, left_at_sum_by s p os)

three_tests : (a b c : Bool) (n : ℕ) → cond a (cond b (cond c n 0) 0) 0 ≡ cond (a && (b && c)) n 0
three_tests true true c n = refl
three_tests true false c n = refl
three_tests false b c n = refl

sum_by_same : (f h : Order → ℕ) → ((o : Order) → f o ≡ h o) → (os : List Order) → sum_by f os ≡ sum_by h os
sum_by_same f h e [] = refl
sum_by_same f h e (o ∷ os) = omega (arith, sum_by-cons f o os, sum_by-cons h o os, e o, sum_by_same f h e os)

pub volume_in_rank : (g : Settings) (s : Side) (p : ℕ) (os : List Order) → left_at s p (actives g (ranked s os)) ≡ volume g s p os
volume_in_rank g s p os =
    let is_active : Order → Bool = λ o. active g o.price in
    let shown : Order → ℕ = λ o. cond (is_active o) (part s p o) 0 in
    left_at_sum_by s p (actives g (ranked s os))
    ∙ sum_by_kept (part s p) is_active (ranked s os)
    ∙ sum_by_ranked shown s os
    ∙ sum_by_kept shown (of_side s) os
    ∙ sum_by_same (λ o. cond (of_side s o) (shown o) 0) (λ o. cond (takes_part g s p o) o.left 0) (λ o. three_tests (same_side s o.side) (active g o.price) (allows s o.price p) o.left) os
    ∙ sym (sum_by_kept (λ o. o.left) (takes_part g s p) os)
