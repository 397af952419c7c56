-- The standing orders of a book, walked by number.
use Rattle.std.proofs.Common.{◌≡◌, ℕ, ◌+◌, ◌<◌, ◌≤◌, List, [], ◌∷◌, ◌++◌, length, take, drop, get_or, Some, None, sym, refl, ap, ◌∙◌, subst, arith}
use Rattle.std.proofs.lemmas.List.{drop_more, take_more, length-drop, take-append-drop}
use Rattle.std.specs.List.{AllByRecursion}
use Rattle.std.proofs.ByRecursion.{All-weaker, All-push}
use Rattle.std.proofs.lemmas.Bool.Decides.{nat_tests}
use Rattle.model.specs.declared.types.Order.{Order}
use Rattle.model.specs.Orders.{Standing}
use Rattle.model.proofs.Standing.{standing_above}
use Rattle.book.specs.Meaning.{next_above}

-- the first i orders are those up to a number
pub record Walked (os : List Order) (i last : ℕ) : Type 0 where
  pub low : AllByRecursion (λ o. o.number ≤ last) (take i os)
  pub high : AllByRecursion (λ o. last < o.number) (drop i os)

pub start : (hi : ℕ) (os : List Order) → Standing 0 os hi → Walked os 0 0
start hi os h = record { low = tt; high = standing_above 0 hi os h }

-- the orders behind one are above its number
above : (lo hi : ℕ) (front : List Order) (o : Order) (rest : List Order) → Standing lo (front ++ o ∷ rest) hi → AllByRecursion (λ x. o.number < x.number) rest
above lo hi [] o rest h = standing_above o.number hi rest h.2
above lo hi (x ∷ front) o rest h = above x.number hi front o rest h.2

-- the next order is the first of those above
next_in : (n : ℕ) (front back : List Order) (o : Order) → AllByRecursion (λ x. x.number ≤ n) front → AllByRecursion (λ x. n < x.number) back → Some o ≡ next_above n (front ++ back) → (n < o.number) × (rest : List Order) × (back ≡ o ∷ rest)
next_in n [] [] o l h e = absurd cc
next_in n [] (x ∷ xs) o l h e = (grind (arith, nat_tests), xs, grind (arith, nat_tests))
next_in n (x ∷ front) back o l h e = next_in n front back o l.1 h (grind (arith, nat_tests))

none_in : (n : ℕ) (front back : List Order) → AllByRecursion (λ x. x.number ≤ n) front → AllByRecursion (λ x. n < x.number) back → None ≡ next_above n (front ++ back) → back ≡ []
none_in n [] [] l h e = refl
none_in n [] (x ∷ xs) l h e = grind (arith, nat_tests)
none_in n (x ∷ front) back l h e = none_in n front back l.1 h (grind (arith, nat_tests))

module _ (hi : ℕ) (os : List Order) (st : Standing 0 os hi) (i last : ℕ) (w : Walked os i last) where
  -- at the next order
  module _ (o : Order) (e : Some o ≡ next_above last os) where
    first_behind : (last < o.number) × (rest : List Order) × (drop i os ≡ o ∷ rest)
    first_behind = next_in last (take i os) (drop i os) o w.low w.high (e ∙ ap (next_above last) (sym (take-append-drop i os)))

    pub within : i < length os
    within = omega (arith, length-drop i os, ap length first_behind.2)

    pub here : o ≡ get_or os i o
    here = let d = drop_more os i o within in let q = first_behind.2 in cc

    rest_is : drop (i + 1) os ≡ first_behind.1
    rest_is = let d = drop_more os i o within in let q = first_behind.2 in cc

    pub more : Walked os (i + 1) o.number
    more =
        let up : last < o.number = first_behind.0 in
        let t : take (i + 1) os ≡ take i os ++ o ∷ [] = take_more os i o within ∙ ap (λ x. take i os ++ x ∷ []) (sym here) in
        let whole : os ≡ take i os ++ o ∷ first_behind.1 = sym (take-append-drop i os) ∙ ap (λ l. take i os ++ l) first_behind.2 in
        record {
          low = subst (AllByRecursion (λ x. x.number ≤ o.number)) (sym t) (All-push (λ x. x.number ≤ o.number) (take i os) o (All-weaker (λ x. x.number ≤ last) (λ x. x.number ≤ o.number) (λ x k. omega (arith, up)) (take i os) w.low) (omega arith));
          high = subst (AllByRecursion (λ x. o.number < x.number)) (sym rest_is) (above 0 hi (take i os) o first_behind.1 (subst (λ l. Standing 0 l hi) whole st));
        }

  -- behind the last order
  pub done : None ≡ next_above last os → length os ≤ i
  done e =
      let z : drop i os ≡ [] = none_in last (take i os) (drop i os) w.low w.high (e ∙ ap (next_above last) (sym (take-append-drop i os))) in
      omega (arith, length-drop i os, ap length z)
