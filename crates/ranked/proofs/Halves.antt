-- A search by halves for the place of an order in its queue.
use Rattle.std.proofs.Common.{◌≡◌, ℕ, zero, suc, ◌+◌, ◌-◌, ◌<◌, ◌≤◌, Bool, true, false, cond, not, List, [], ◌∷◌, reverse, length, get_or, sym, ap, ◌∙◌, subst, ⊎_elim, arith}
use Rattle.std.specs.List.Sorted.{IsPartitionPoint, IsPartitionedBy}
use Rattle.std.specs.List.{position_or_len}
use Rattle.std.proofs.ByRecursion.{All-get_or}
use Rattle.std.proofs.Math.Nat.{eq-or-lt_of_le}
use Rattle.std.proofs.lemmas.List.{get_or-reverse, length-reverse}
use Rattle.std.proofs.lemmas.Bool.{both_ways, cases_Bool, not-true, not-false, not_from_false}
use Rattle.model.specs.declared.types.Side.{Side}
use Rattle.model.specs.declared.types.Order.{Order}
use Rattle.model.specs.Numbers.{max_number}
use Rattle.model.specs.Rank.{before, ranked}
use Rattle.rows.specs.Rows.{Held}
use Rattle.model.proofs.Lists.{Pairwise}
use Rattle.model.proofs.Ranking.{before_asym, before_trans, ranked_strictly}
use Rattle.model.proofs.Standing.{standing_distinct}
use Rattle.ranked.specs.Queues.{queue, Descends}
use Rattle.ranked.specs.InRank.{meaning, InRank}
use Rattle.ranked.specs.declared.sides.Sides.{Sides}

-- where the order o ranks before x, it does before all behind x
behind_too : (s : Side) (o x y : Order) → before s x y ≡ true → before s o x ≡ true → before s o y ≡ true
behind_too s o x y h k = ⊎_elim (λ t. t) (λ f. absurd (both_ways (before s o x) (before_trans s x y o (before_asym s x y h) f) k)) (cases_Bool (before s o y))

-- each two of a queue, by their places
descends_at : (s : Side) (q : List Order) → Descends s q → (i j : ℕ) (d : Order) → i < j → j < length q → before s (get_or q i d) (get_or q j d) ≡ true
descends_at s [] h i j d l m = absurd (omega arith)
descends_at s (x ∷ xs) h zero zero d l m = absurd (omega arith)
descends_at s (x ∷ xs) h zero (suc j) d l m = All-get_or (λ y. before s x y ≡ true) xs j d (omega arith) h.0
descends_at s (x ∷ xs) h (suc i) zero d l m = absurd (omega arith)
descends_at s (x ∷ xs) h (suc i) (suc j) d l m = descends_at s xs h.1 i j d (omega arith) (omega arith)

-- the place of the first that passes, by those before it and those from it on
place_is : (p : Order → Bool) (xs : List Order) (k : ℕ) → k ≤ length xs → ((i : ℕ) (d : Order) → i < k → p (get_or xs i d) ≡ false) → ((i : ℕ) (d : Order) → k ≤ i → i < length xs → p (get_or xs i d) ≡ true)
    → k ≡ position_or_len p xs
place_is p [] k l front rest = omega arith
place_is p (x ∷ xs) zero l front rest = sym (ap (λ b. cond (not b) (1 + position_or_len p xs) 0) (rest 0 x (omega arith) (omega arith)))
place_is p (x ∷ xs) (suc k) l front rest =
    let i = place_is p xs k (omega arith) (λ i d m. front (suc i) d (omega arith)) (λ i d m n. rest (suc i) d (omega arith) (omega arith)) in
    omega (arith, i, ap (λ b. cond (not b) (1 + position_or_len p xs) 0) (front 0 x (omega arith)))

module _ (s : Side) (o : Order) (q : List Order) (h : Descends s q) where
  -- from where o ranks before an order on, it does
  onward : (i j : ℕ) (d : Order) → i ≤ j → j < length q → before s o (get_or q i d) ≡ true → before s o (get_or q j d) ≡ true
  onward i j d l m t = ⊎_elim (λ e. subst (λ k. before s o (get_or q k d) ≡ true) e t) (λ n. behind_too s o (get_or q i d) (get_or q j d) (descends_at s q h i j d n m) t) (eq-or-lt_of_le l)

  -- those that o does not rank before stand in front
  pub parted : IsPartitionedBy (λ x. not (before s o x)) q
  parted i j d l m e = ⊎_elim (λ t. absurd (both_ways (before s o (get_or q j d)) (not-true (before s o (get_or q j d)) e) (onward i j d l m t))) (λ f. not_from_false (before s o (get_or q i d)) f) (cases_Bool (before s o (get_or q i d)))

  -- and those that it does rank before at the other end
  pub parted_back : IsPartitionedBy (before s o) (reverse q)
  parted_back i j d l m e =
      let n : j < length q = omega (arith, m, length-reverse q) in
      let there = get_or-reverse q i d (omega arith) in
      let here = get_or-reverse q j d n in
      ap (before s o) there ∙ onward (length q - 1 - j) (length q - 1 - i) d (omega arith) (omega arith) (sym (ap (before s o) here) ∙ e)

  pub place_from_front : (k : ℕ) → k ≤ length q → IsPartitionPoint (λ x. not (before s o x) ≡ true) (λ x. not (before s o x) ≡ false) q k → k ≡ position_or_len (before s o) q
  place_from_front k l p = place_is (before s o) q k l (λ i d m. not-true (before s o (get_or q i d)) (p.0 i d (omega arith) m)) (λ i d m n. not-false (before s o (get_or q i d)) (p.1 i d m n))

  pub place_from_back : (k : ℕ) → k ≤ length q → IsPartitionPoint (λ x. before s o x ≡ true) (λ x. before s o x ≡ false) (reverse q) k → length q - k ≡ position_or_len (before s o) q
  place_from_back k l p =
      place_is (before s o) q (length q - k) (omega arith)
      (λ i d m. seen i d (omega arith) ∙ p.1 (length q - 1 - i) d (omega arith) (omega (arith, length-reverse q)))
      (λ i d m n. seen i d n ∙ p.0 (length q - 1 - i) d (omega arith) (omega arith))
    where
      seen : (i : ℕ) (d : Order) → i < length q → before s o (get_or q i d) ≡ before s o (get_or (reverse q) (length q - 1 - i) d)
      seen i d n = ap (λ j. before s o (get_or q j d)) (omega arith) ∙ sym (ap (before s o) (get_or-reverse q (length q - 1 - i) d (omega arith)))

descends_from : (s : Side) (xs : List Order) → Pairwise (λ x y. before s x y ≡ true) xs → Descends s xs
descends_from s [] h = tt
descends_from s (x ∷ xs) h = (h.0, descends_from s xs h.1)

-- a queue that holds the ranking of standing orders
pub descends_held : (s : Side) (os q : List Order) → Held os → q ≡ ranked s os → Descends s q
descends_held s os q h e = subst (Descends s) (sym e) (descends_from s (ranked s os) (ranked_strictly s os (standing_distinct 0 max_number os h.standing)))

-- and each queue of a book
pub descends : (h : Sides) → InRank h → (s : Side) → Descends s (queue s h)
descends h r s = descends_held s (meaning h) (queue s h) r.held (sym (r.ranks s))
