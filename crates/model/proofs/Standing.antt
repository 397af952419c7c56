-- What each operation keeps of a list of standing orders.
use Rattle.std.proofs.Common.{◌≡◌, ℕ, ◌+◌, ◌-◌, ◌<◌, ◌≤◌, Bool, true, false, cond, not, eqb, leb, List, [], ◌∷◌, ◌++◌, map, filter, refl, subst, arith}
use Rattle.std.specs.List.{AllByRecursion}
use Rattle.std.proofs.ByRecursion.{All-weaker}
use Rattle.std.proofs.lemmas.Bool.{cond_both, cond-false, cond-true, eq-eqb, eqb-false, eqb-true, leb-false, leb-true, ne_eqb}
use Rattle.model.specs.Types.{Order}
use Rattle.model.specs.Orders.{Standing, find, lower, left_of, left_in, turn}
use Rattle.model.proofs.Ranking.{Distinct}

-- a quantity counts under its own number, and under no other
pub counts : (a n q : ℕ) → a ≡ n → cond (eqb a n) q 0 ≡ q
counts a n q e = cond-true (eqb a n) q 0 (eq-eqb a n e)

pub counts_not : (a n q : ℕ) → (a ≡ n → ⊥) → cond (eqb a n) q 0 ≡ 0
counts_not a n q h = cond-false (eqb a n) q 0 (ne_eqb a n h)

-- the bounds may be widened, and are in order
standing_bounds : (lo hi : ℕ) (os : List Order) → Standing lo os hi → lo ≤ hi
standing_bounds lo hi [] h = h
standing_bounds lo hi (o ∷ os) h = let k = standing_bounds o.number hi os h.2 in omega arith

pub standing_wider : (lo lo' hi hi' : ℕ) (os : List Order) → lo' ≤ lo → hi ≤ hi' → Standing lo os hi → Standing lo' os hi'
standing_wider lo lo' hi hi' [] a b h = omega arith
standing_wider lo lo' hi hi' (o ∷ os) a b h = (omega arith, h.1, standing_wider o.number o.number hi hi' os (omega arith) b h.2)

-- nothing is left under a number outside the bounds
left_below : (lo hi n : ℕ) (os : List Order) → Standing lo os hi → n ≤ lo → left_in os n ≡ 0
left_below lo hi n [] h k = refl
left_below lo hi n (o ∷ os) h k =
    let i = left_below o.number hi n os h.2 (omega arith) in
    let j = counts_not o.number n o.left (omega arith) in
    omega arith

pub left_above : (lo hi n : ℕ) (os : List Order) → Standing lo os hi → hi < n → left_in os n ≡ 0
left_above lo hi n [] h k = refl
left_above lo hi n (o ∷ os) h k =
    let i = left_above o.number hi n os h.2 k in
    let b = standing_bounds o.number hi os h.2 in
    let j = counts_not o.number n o.left (omega arith) in
    omega arith

-- what is left in two lists together
pub left_append : (xs ys : List Order) (n : ℕ) → left_in (xs ++ ys) n ≡ left_in xs n + left_in ys n
left_append [] ys n = omega arith
left_append (x ∷ xs) ys n = let i = left_append xs ys n in omega arith

-- a new highest number
pub standing_push : (lo hi : ℕ) (os : List Order) (o : Order) → Standing lo os hi → hi < o.number → 1 ≤ o.left → Standing lo (os ++ o ∷ []) o.number
standing_push lo hi [] o h a b = (omega arith, b, omega arith)
standing_push lo hi (x ∷ xs) o h a b = (h.0, h.1, standing_push x.number hi xs o h.2 a b)

-- lowering one order leaves what is left of the others
lower_other : (n q m : ℕ) (os : List Order) → (n ≡ m → ⊥) → left_in (lower n q os) m ≡ left_in os m
lower_other n q m [] h = refl
lower_other n q m (o ∷ os) h =
    cond_both (eqb o.number n) _ _ (λ xs. left_in xs m ≡ left_in (o ∷ os) m)
    (λ e.
    let e' = eqb-true o.number n e in
    cond_both (leb o.left q) _ _ (λ xs. left_in xs m ≡ left_in (o ∷ os) m)
    (λ _. omega (arith, counts_not o.number m o.left (omega arith)))
    (λ _. omega (arith, counts_not o.number m o.left (omega arith), counts_not o.number m (o.left - q) (omega arith))))
    (λ _. let i = lower_other n q m os h in omega arith)

-- and takes what it is lowered by from its own
lower_own : (lo hi n q : ℕ) (os : List Order) → Standing lo os hi → q ≤ left_in os n → left_in (lower n q os) n + q ≡ left_in os n
lower_own lo hi n q [] h k = omega arith
lower_own lo hi n q (o ∷ os) h k =
    cond_both (eqb o.number n) _ _ (λ xs. left_in xs n + q ≡ left_in (o ∷ os) n)
    (λ e.
    let e' = eqb-true o.number n e in
    let z = left_below o.number hi n os h.2 (omega arith) in
    let c = counts o.number n o.left e' in
    cond_both (leb o.left q) _ _ (λ xs. left_in xs n + q ≡ left_in (o ∷ os) n)
    (λ t. omega (arith, leb-true o.left q t))
    (λ t. omega (arith, leb-false o.left q t, counts o.number n (o.left - q) e')))
    (λ e.
    let c = counts_not o.number n o.left (eqb-false o.number n e) in
    let i = lower_own o.number hi n q os h.2 (omega arith) in
    omega arith)

-- for every number
pub lower_left : (lo hi n q m : ℕ) (os : List Order) → Standing lo os hi → q ≤ left_in os n → left_in (lower n q os) m + cond (eqb n m) q 0 ≡ left_in os m
lower_left lo hi n q m os h k =
    cond_both (eqb n m) q 0 (λ x. left_in (lower n q os) m + x ≡ left_in os m)
    (λ e. subst (λ i. left_in (lower n q os) i + q ≡ left_in os i) (eqb-true n m e) (lower_own lo hi n q os h k))
    (λ e. let i = lower_other n q m os (eqb-false n m e) in omega arith)

pub lower_standing : (lo hi n q : ℕ) (os : List Order) → Standing lo os hi → Standing lo (lower n q os) hi
lower_standing lo hi n q [] h = h
lower_standing lo hi n q (o ∷ os) h =
    cond_both (eqb o.number n) _ _ (λ xs. Standing lo xs hi)
    (λ e. cond_both (leb o.left q) _ _ (λ xs. Standing lo xs hi)
    (λ _. standing_wider o.number lo hi hi os (omega arith) (omega arith) h.2)
    (λ t. (h.0, omega (arith, leb-false o.left q t), h.2)))
    (λ _. (h.0, h.1, lower_standing o.number hi n q os h.2))

-- a filter keeps the order, and takes the orders that it drops whole
pub kept_standing : (p : Order → Bool) (lo hi : ℕ) (os : List Order) → Standing lo os hi → Standing lo (filter p os) hi
kept_standing p lo hi [] h = h
kept_standing p lo hi (o ∷ os) h =
    let i = kept_standing p o.number hi os h.2 in
    cond_both (p o) _ _ (λ xs. Standing lo xs hi)
    (λ _. (h.0, h.1, i))
    (λ _. standing_wider o.number lo hi hi (filter p os) (omega arith) (omega arith) i)

pub left_kept_both : (p : Order → Bool) (n : ℕ) (os : List Order) → left_in (filter p os) n + left_in (filter (λ o. not (p o)) os) n ≡ left_in os n
left_kept_both p n [] = omega arith
left_kept_both p n (o ∷ os) =
    let i = left_kept_both p n os in
    elim (p o) as (λ v. left_in (cond v (o ∷ filter p os) (filter p os)) n + left_in (cond (not v) (o ∷ filter (λ x. not (p x)) os) (filter (λ x. not (p x)) os)) n ≡ left_in (o ∷ os) n) [ true ↦ omega arith | false ↦ omega arith ]

-- a change of other fields keeps numbers and what is left
abbrev pub SameOrder : (Order → Order) → Type 0
SameOrder f = (o : Order) → ((f o).number ≡ o.number) × ((f o).left ≡ o.left)

pub map_standing : (f : Order → Order) → SameOrder f → (lo hi : ℕ) (os : List Order) → Standing lo os hi → Standing lo (map f os) hi
map_standing f s lo hi [] h = h
map_standing f s lo hi (o ∷ os) h =
    let e = (s o).0 in
    let d = (s o).1 in
    (omega arith, omega arith, standing_wider o.number (f o).number hi hi (map f os) (omega arith) (omega arith) (map_standing f s o.number hi os h.2))

pub left_map : (f : Order → Order) → SameOrder f → (n : ℕ) (os : List Order) → left_in (map f os) n ≡ left_in os n
left_map f s n [] = refl
left_map f s n (o ∷ os) =
    let i = left_map f s n os in
    rw ((s o).0, (s o).1) (omega arith)

-- the parts of it, order by order
pub standing_above : (lo hi : ℕ) (os : List Order) → Standing lo os hi → AllByRecursion (λ o. lo < o.number) os
standing_above lo hi [] h = tt
standing_above lo hi (o ∷ os) h = (h.0, All-weaker (λ x. o.number < x.number) (λ x. lo < x.number) (λ x k. omega arith) os (standing_above o.number hi os h.2))

pub standing_upto : (lo hi : ℕ) (os : List Order) → Standing lo os hi → AllByRecursion (λ o. o.number ≤ hi) os
standing_upto lo hi [] h = tt
standing_upto lo hi (o ∷ os) h = (standing_bounds o.number hi os h.2, standing_upto o.number hi os h.2)

pub standing_alive : (lo hi : ℕ) (os : List Order) → Standing lo os hi → AllByRecursion (λ o. 1 ≤ o.left) os
standing_alive lo hi [] h = tt
standing_alive lo hi (o ∷ os) h = (h.1, standing_alive o.number hi os h.2)

pub find_left : (lo hi n : ℕ) (os : List Order) → Standing lo os hi → left_of (find n os) ≡ left_in os n
find_left lo hi n [] h = refl
find_left lo hi n (o ∷ os) h =
    cond_both (eqb o.number n) _ _ (λ x. left_of x ≡ left_in (o ∷ os) n)
    (λ e.
    let e' = eqb-true o.number n e in
    let z = left_below o.number hi n os h.2 (omega arith) in
    let c = counts o.number n o.left e' in
    omega arith)
    (λ e.
    let c = counts_not o.number n o.left (eqb-false o.number n e) in
    let i = find_left o.number hi n os h.2 in
    omega arith)

pub standing_distinct : (lo hi : ℕ) (os : List Order) → Standing lo os hi → Distinct os
standing_distinct lo hi [] h = tt
standing_distinct lo hi (o ∷ os) h = (
  All-weaker (λ x. o.number < x.number) (λ x. o.number ≡ x.number → ⊥) (λ x l e. omega arith) os (standing_above o.number hi os h.2),
  standing_distinct o.number hi os h.2,
)

-- a turn keeps the numbers and what is left
pub turn_standing : (lo hi n p : ℕ) (os : List Order) → Standing lo os hi → Standing lo (turn n p os) hi
turn_standing lo hi n p [] h = h
turn_standing lo hi n p (o ∷ os) h = cond_both (eqb o.number n) _ _ (λ l. Standing lo l hi) (λ _. h) (λ _. (h.0, h.1, turn_standing o.number hi n p os h.2))
