-- What the operations answer, by the queues.
use Rattle.std.proofs.Common.{◌≡◌, ℕ, zero, suc, ◌+◌, ◌-◌, ◌<◌, ◌≤◌, Bool, true, false, cond, ◌&&◌, ltb, leb, List, length, get_or, drop, Some, None, Option, sym, refl, ap, ◌∙◌, ⊎_elim, arith}
use Rattle.std.proofs.lemmas.List.{at_drop_more, at_drop_all}
use Rattle.std.proofs.lemmas.Option.{cond_some, none-some}
use Rattle.std.proofs.lemmas.Bool.{and_parts, and_cases, and_left, leb-true, leb-false, ltb-true, ltb-false, le-ltb, cond_both, cond-false}
use Rattle.model.specs.declared.types.Side.{Side}
use Rattle.model.specs.declared.types.Side.TheVariants.{Buy, Sell}
use Rattle.model.specs.declared.types.Order.{Order}
use Rattle.model.specs.Rank.{ranked}
use Rattle.book.specs.Bounds.{in_bounds}
use Rattle.book.specs.Meaning.{all_below, addable, first, place}
use Rattle.rows.specs.Rows.{blank}
use Rattle.ranked.specs.Queues.{count_of, queue}
use Rattle.ranked.specs.Positions.{nth_of}
use Rattle.ranked.specs.InRank.{meaning, InRank}
use Rattle.ranked.specs.Keeping.{length_meaning}
use Rattle.ranked.specs.declared.sides.Sides.{Sides}
use Rattle.ranked.proofs.BothSides.{below_by_number}
use Rattle.ranked.proofs.Changes.{length_queue}
use Rattle.ranked.proofs.Found.{checked}

-- what an answer tells of the test that gave it
pub some_if : (b : Bool) (x y : Order) → Some x ≡ cond b (Some y) None → (b ≡ true) × (x ≡ y)
some_if b x y h = let p = cond_some b y x (sym h) in (p.0, sym p.1)

-- and of one that it left out
pub none_if : (b : Bool) (y : Order) → None ≡ cond b (Some y) None → b ≡ false
none_if true y h = absurd (none-some y h)
none_if false y h = refl

-- as many orders stand as both sides have
pub count_meaning : (h : Sides) → length (meaning h) ≡ count_of Buy h + count_of Sell h
count_meaning h = omega (arith, length_meaning h, length_queue Buy h, length_queue Sell h)

-- their numbers are below n where those of both queues are
pub below_meaning : (h : Sides) (n : ℕ) → all_below (meaning h) n ≡ (all_below (queue Buy h) n && all_below (queue Sell h) n)
unfolding meaning
below_meaning h n = below_by_number (queue Buy h) (queue Sell h) n

-- what is known of an order that may be added
pub addable_parts : (capacity : ℕ) (os : List Order) (o : Order) → addable capacity os o ≡ true → (length os < capacity) × (1 ≤ o.left) × (all_below os o.number ≡ true)
addable_parts capacity os o h =
    let p = and_parts (ltb (length os) capacity) (ltb 0 o.left && all_below os o.number) h in
    let q = and_parts (ltb 0 o.left) (all_below os o.number) p.1 in
    (ltb-true (length os) capacity p.0, ltb-true 0 o.left q.0, q.1)

-- the n-th order by its index
nth_is : (n : ℕ) (xs : List Order) → nth_of n (length xs) xs ≡ place n xs
nth_is zero xs = cond-false _ (Some (get_or xs (0 - 1) blank)) None (and_left (ltb 0 0) (leb 0 (length xs)) (le-ltb 0 0 (omega arith)))
nth_is (suc n) xs =
    cond_both (ltb 0 (suc n) && leb (suc n) (length xs)) _ _ (λ r. r ≡ first (drop n xs))
    (λ e.
    let l = leb-true (suc n) (length xs) (and_parts (ltb 0 (suc n)) (leb (suc n) (length xs)) e).1 in
    let same : suc n - 1 ≡ n = omega arith in
    ap (λ k. Some (get_or xs k blank)) same ∙ sym (at_drop_more first xs n blank (omega arith)))
    (λ e. ⊎_elim
    (λ z. absurd (omega (arith, ltb-false 0 (suc n) z)))
    (λ z. sym (at_drop_all first xs n (omega (arith, leb-false (suc n) (length xs) z))))
    (and_cases (ltb 0 (suc n)) (leb (suc n) (length xs)) e))

-- the n-th order of a side of the book
module _ (h : Sides) (s : Side) (n : ℕ) (rank : InRank h) where
  -- its place in rank
  nth_place : nth_of n (count_of s h) (queue s h) ≡ place n (ranked s (meaning h))
  nth_place = ap (λ c. nth_of n c (queue s h)) (sym (length_queue s h)) ∙ nth_is n (queue s h) ∙ sym (ap (place n) (rank.ranks s))

  -- there is no n-th order
  pub nth_none : None ≡ nth_of n (count_of s h) (queue s h) → None ≡ place n (ranked s (meaning h))
  nth_none e = e ∙ nth_place

  -- there is one, which passes the check of its bounds
  pub nth_some : (x : Order) (r : Option Order) → Some x ≡ nth_of n (count_of s h) (queue s h) → r ≡ cond (in_bounds x) (Some x) None → r ≡ place n (ranked s (meaning h))
  nth_some x r e k =
      let p = some_if (ltb 0 n && leb n (count_of s h)) x (get_or (queue s h) (n - 1) blank) e in
      let q = and_parts (ltb 0 n) (leb n (count_of s h)) p.0 in
      let within : n - 1 < length (queue s h) = omega (arith, ltb-true 0 n q.0, leb-true n (count_of s h) q.1, length_queue s h) in
      k ∙ checked h s (n - 1) x rank within p.1 ∙ e ∙ nth_place
