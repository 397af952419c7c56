-- The orders of a book after each change, by their places.
use Rattle.std.proofs.Common.{◌≡◌, ℕ, zero, suc, ◌+◌, ◌-◌, ◌<◌, ◌≤◌, Bool, true, false, cond, ◌&&◌, ◌||◌, eqb, ltb, leb, List, [], ◌∷◌, ◌++◌, length, get_or, take, drop, set, Some, None, Option, sym, refl, ap, ◌∙◌, add-one, arith}
use borrow.Rule.Slice.PartMut.{put_mid}
use Rattle.std.specs.List.{remove, position, position_from}
use Rattle.std.proofs.ByRecursion.{All-get_or}
use Rattle.std.proofs.lemmas.List.{take-take, take_at, drop-drop, length-take-le, length-drop, length-append, append_assoc}
use Rattle.std.proofs.lemmas.List.Quantifiers.{position-Some}
use Rattle.std.proofs.lemmas.Iterator.Adapters.{position_from-zero}
use Rattle.std.proofs.lemmas.Option.{none-some}
use Rattle.std.proofs.lemmas.Slice.{between_is}
use Rattle.std.proofs.lemmas.Bool.{and_parts, cond-true, cond-false, ne_eqb, le-leb, lt-leb, leb-true}
use Rattle.std.proofs.lemmas.Bool.Decides.{nat_tests}
use Rattle.model.specs.declared.types.Order.{Order}
use Rattle.model.specs.declared.types.OrderPrice.TheVariants.{Limit}
use Rattle.model.specs.Numbers.{max_price, in_range}
use Rattle.model.specs.Orders.{Standing, find, lower, turn, with_left, with_price, is_market}
use Rattle.model.proofs.Lists.{cond_pair}
use Rattle.model.proofs.Standing.{standing_above}
use Rattle.book.specs.Meaning.{all_below, addable, can_take, can_turn}
use Rattle.rows.specs.Rows.{blank}
use Rattle.arrival.specs.Adding.{above_last, can_add}

-- the row at i is put behind those above it
pub gap_closed : {X : Type 0} (xs part : List X) (i end : ℕ) → i < end → end ≤ length xs
    → part ≡ drop 1 (take (end - i) (drop i xs)) ++ take 1 (take (end - i) (drop i xs))
    → take (end - 1) (put_mid i (end - i) xs part) ≡ remove (take end xs) i
gap_closed {X} xs part i end l h e =
    let low : List X = take i xs in
    let mid : List X = take (end - i) (drop i xs) in
    let high : List X = take 1 mid ++ drop (end - i) (drop i xs) in
    let long : length mid ≡ end - i = length-take-le (end - i) (drop i xs) (omega (arith, length-drop i xs)) in
    let n : length (low ++ drop 1 mid) ≡ end - 1 = omega (arith, length-append low (drop 1 mid), length-take-le i xs (omega arith), length-drop 1 mid) in
    let joined : put_mid i (end - i) xs part ≡ (low ++ drop 1 mid) ++ high = ap (λ p. low ++ (p ++ drop (end - i) (drop i xs))) e ∙ simp append_assoc in
    let above : drop 1 mid ≡ drop (suc i) (take end xs) = ap (drop 1) (between_is xs i end) ∙ drop-drop 1 i (take end xs) ∙ ap (λ k. drop k (take end xs)) (add-one i) in
    ap (take (end - 1)) joined ∙ take_at (low ++ drop 1 mid) high (end - 1) n ∙ ap (λ t. t ++ drop 1 mid) (sym (take-take i end xs (omega arith))) ∙ ap (λ t. take i (take end xs) ++ t) above

-- the first order with the number n stands at i
record First (n : ℕ) (os : List Order) (i : ℕ) : Type 0 where
  within : i < length os
  numbered : eqb (get_or os i blank).number n ≡ true
  before : (k : ℕ) → k < i → eqb (get_or os k blank).number n ≡ false

-- where that order stands in a shorter list
later : (n : ℕ) (o : Order) (os : List Order) (i : ℕ) → First n (o ∷ os) (suc i) → First n os i
later n o os i h = record { within = omega (arith, h.within); numbered = h.numbered; before = λ k l. h.before (suc k) (omega arith) }

-- it is the one that is found
found : (n : ℕ) (os : List Order) (i : ℕ) → First n os i → find n os ≡ Some (get_or os i blank)
found n [] i h = absurd (omega (arith, h.within))
found n (o ∷ os) zero h = cond-true (eqb o.number n) _ _ h.numbered
found n (o ∷ os) (suc i) h = cond-false (eqb o.number n) _ _ (h.before 0 (omega arith)) ∙ found n os i (later n o os i h)

-- it is lowered, and dropped
lower_gone : (n q : ℕ) (os : List Order) (i : ℕ) → First n os i → leb (get_or os i blank).left q ≡ true → lower n q os ≡ remove os i
lower_gone n q [] i h w = absurd (omega (arith, h.within))
lower_gone n q (o ∷ os) zero h w = cond-true (eqb o.number n) _ _ h.numbered ∙ cond-true (leb o.left q) _ _ w
lower_gone n q (o ∷ os) (suc i) h w = cond-false (eqb o.number n) _ _ (h.before 0 (omega arith)) ∙ ap (λ t. o ∷ t) (lower_gone n q os i (later n o os i h) w)

-- it is lowered, and kept with less left
lower_set : (n q : ℕ) (os : List Order) (i : ℕ) → First n os i → leb (get_or os i blank).left q ≡ false
    → lower n q os ≡ set os i (with_left (get_or os i blank) ((get_or os i blank).left - q))
lower_set n q [] i h w = absurd (omega (arith, h.within))
lower_set n q (o ∷ os) zero h w = cond-true (eqb o.number n) _ _ h.numbered ∙ cond-false (leb o.left q) _ _ w
lower_set n q (o ∷ os) (suc i) h w = cond-false (eqb o.number n) _ _ (h.before 0 (omega arith)) ∙ ap (λ t. o ∷ t) (lower_set n q os i (later n o os i h) w)

-- it gets a limit price
turn_set : (n p : ℕ) (os : List Order) (i : ℕ) → First n os i → turn n p os ≡ set os i (with_price (get_or os i blank) (Limit p))
turn_set n p [] i h = absurd (omega (arith, h.within))
turn_set n p (o ∷ os) zero h = cond-true (eqb o.number n) _ _ h.numbered
turn_set n p (o ∷ os) (suc i) h = cond-false (eqb o.number n) _ _ (h.before 0 (omega arith)) ∙ ap (λ t. o ∷ t) (turn_set n p os i (later n o os i h))

-- something is answered where the test passes, and nothing where it fails
answered : {A : Type 0} (b : Bool) (x y : A) → cond b (Some x) None ≡ Some y → (b ≡ true) × (x ≡ y)
answered true x y e = (refl, cc)
answered false x y e = let z : ◌≡◌ {A = ℕ} 0 1 = cc in absurd (omega arith)

unanswered : {A : Type 0} (b : Bool) (x : A) → cond b (Some x) None ≡ None → b ≡ false
unanswered true x e = let z : ◌≡◌ {A = ℕ} 0 1 = cc in absurd (omega arith)
unanswered false x e = refl

-- an order has the number n
abbrev pub numbered : ℕ → Order → Bool
numbered n o = eqb o.number n

-- where a scan finds no place, no order is found
none_found : (n k : ℕ) (os : List Order) → position_from (numbered n) k os ≡ None → find n os ≡ None
none_found n k [] e = refl
none_found n k (o ∷ os) e = cond_pair (numbered n o) _ _ _ _ (λ l m. l ≡ None → m ≡ None) (λ _ f. absurd (none-some k (sym f))) (λ _ f. none_found n (k + 1) os f) e

pub missing : (n : ℕ) (os : List Order) → position (numbered n) os ≡ None → find n os ≡ None
missing n os e = none_found n 0 os (sym (position_from-zero (numbered n) os) ∙ e)

-- an amount of the order with the number n, which stands at i, is taken, and this is left of it
pub record Taken (n q : ℕ) (os : List Order) (i : ℕ) (rest : Order) : Type 0 where
  pub may : true ≡ can_take q (find n os)
  pub gone : rest.left ≡ 0 → remove os i ≡ lower n q os
  pub less : (rest.left ≡ 0 → ⊥) → set os i rest ≡ lower n q os

-- that order is turned into this one
pub record Turned (n p : ℕ) (os : List Order) (i : ℕ) (limited : Order) : Type 0 where
  pub may : true ≡ can_turn p (find n os)
  pub after : set os i limited ≡ turn n p os
  pub range : (1 ≤ p) × (p ≤ max_price)

-- where a scan finds a place, that of the first
module _ (n : ℕ) (os xs : List Order) (i : ℕ) (at : position (numbered n) os ≡ Some i) (same : xs ≡ os) where
  stands : First n os i
  stands = let h = position-Some (numbered n) os i blank at in record { within = h.0; numbered = h.1; before = h.2 }

  abbrev here : Order
  here = get_or xs i blank

  same_order : get_or os i blank ≡ here
  same_order = ap (λ l. get_or l i blank) (sym same)

  found_here : find n os ≡ Some here
  found_here = found n os i stands ∙ ap Some same_order

  -- what the row there answers to an amount
  module _ (q : ℕ) (r : Option Order) (e : r ≡ cond (can_take q (Some here)) (Some (with_left here (here.left - q))) None) where
    pub not_taken : r ≡ None → false ≡ can_take q (find n os)
    not_taken is = sym (ap (can_take q) found_here ∙ unanswered _ _ (sym e ∙ is))

    pub taken : (rest : Order) → r ≡ Some rest → Taken n q os i rest
    taken rest is =
        let yes = answered (can_take q (Some here)) (with_left here (here.left - q)) rest (sym e ∙ is) in
        let left : (get_or os i blank).left - q ≡ rest.left = ap (λ o. o.left - q) same_order ∙ ap (λ o. o.left) yes.1 in
        record {
          may = sym (ap (can_take q) found_here ∙ yes.0);
          gone = λ z. sym (lower_gone n q os i stands (le-leb _ q (omega arith)));
          less = λ z. ap (set os i) (sym (ap (λ o. with_left o (o.left - q)) same_order ∙ yes.1)) ∙ sym (lower_set n q os i stands (lt-leb _ q (omega arith)));
        }

  -- and to a limit price
  module _ (p : ℕ) (r : Option Order) (e : r ≡ cond (can_turn p (Some here)) (Some (with_price here (Limit p))) None) where
    pub not_turned : r ≡ None → false ≡ can_turn p (find n os)
    not_turned is = sym (ap (can_turn p) found_here ∙ unanswered _ _ (sym e ∙ is))

    pub turned : (limited : Order) → r ≡ Some limited → Turned n p os i limited
    turned limited is =
        let yes = answered (can_turn p (Some here)) (with_price here (Limit p)) limited (sym e ∙ is) in
        let range = and_parts (leb 1 p) (leb p max_price) (and_parts (is_market here.price) (in_range 1 max_price p) yes.0).1 in
        record {
          may = sym (ap (can_turn p) found_here ∙ yes.0);
          after = ap (set os i) (sym (ap (λ o. with_price o (Limit p)) same_order ∙ yes.1)) ∙ sym (turn_set n p os i stands);
          range = (leb-true 1 p range.0, leb-true p max_price range.1);
        }

-- of ascending numbers the last is the highest
below_last : (hi n : ℕ) (o : Order) (os : List Order) → Standing o.number os hi → (ltb o.number n && all_below os n) ≡ ltb (get_or (o ∷ os) (length os) blank).number n
below_last hi n o [] h = grind (arith, nat_tests)
below_last hi n o (x ∷ xs) h =
    let i = below_last hi n x xs h.2 in
    let l : o.number < (get_or (x ∷ xs) (length xs) blank).number = All-get_or (λ y. o.number < y.number) (x ∷ xs) (length xs) blank (omega arith) (standing_above o.number hi (x ∷ xs) h) in
    ap (λ b. ltb o.number n && b) i ∙ grind (arith, nat_tests)

-- what is above the last is above all
above_all : (hi n : ℕ) (os : List Order) → Standing 0 os hi → above_last os n ≡ all_below os n
above_all hi n [] h = refl
above_all hi n (o ∷ os) h =
    let some : eqb (suc (length os)) 0 ≡ false = ne_eqb (suc (length os)) 0 (λ k. omega arith) in
    let last : suc (length os) - 1 ≡ length os = omega arith in
    ap (λ b. b || ltb (get_or (o ∷ os) (suc (length os) - 1) blank).number n) some ∙ ap (λ k. ltb (get_or (o ∷ os) k blank).number n) last ∙ sym (below_last hi n o os h.2)

-- so the question may look at the last order alone
pub add_asked : (hi capacity : ℕ) (os : List Order) (o : Order) → Standing 0 os hi → can_add capacity os o ≡ addable capacity os o
add_asked hi capacity os o h = ap (λ b. ltb (length os) capacity && (ltb 0 o.left && b)) (above_all hi o.number os h)
