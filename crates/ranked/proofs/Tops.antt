-- A number that no standing order is above, as the orders change.
use Rattle.std.proofs.Common.{◌≡◌, ℕ, ◌+◌, ◌<◌, ◌≤◌, max, true, eqb, ltb, leb, List, [], ◌∷◌, ◌++◌, refl, arith}
use Rattle.std.proofs.lemmas.Bool.{and_from, and_parts, cond_both, lt-ltb, ltb-true}
use Rattle.model.specs.declared.types.Order.{Order}
use Rattle.model.specs.Orders.{lower, turn}
use Rattle.book.specs.Meaning.{all_below}

-- the first and the rest of orders below n
parts : (n : ℕ) (o : Order) (os : List Order) → all_below (o ∷ os) n ≡ true → (o.number < n) × (all_below os n ≡ true)
parts n o os h = let p = and_parts (ltb o.number n) (all_below os n) h in (ltb-true o.number n p.0, p.1)

together : (n : ℕ) (o : Order) (os : List Order) → o.number < n → all_below os n ≡ true → all_below (o ∷ os) n ≡ true
together n o os l h = and_from (ltb o.number n) (all_below os n) (lt-ltb o.number n l) h

-- they are below a higher number too
below_wider : (n m : ℕ) (os : List Order) → n ≤ m → all_below os n ≡ true → all_below os m ≡ true
below_wider n m [] l h = refl
below_wider n m (o ∷ os) l h = let p = parts n o os h in together m o os (omega (arith, p.0)) (below_wider n m os l p.1)

-- one more order
below_push : (n : ℕ) (o : Order) (os : List Order) → o.number < n → all_below os n ≡ true → all_below (os ++ o ∷ []) n ≡ true
below_push n o [] l h = together n o [] l refl
below_push n o (x ∷ os) l h = let p = parts n x os h in together n x (os ++ o ∷ []) p.0 (below_push n o os l p.1)

-- an order that is lowered, or turned
pub below_lower : (n m q : ℕ) (os : List Order) → all_below os n ≡ true → all_below (lower m q os) n ≡ true
below_lower n m q [] h = refl
below_lower n m q (o ∷ os) h =
    let p = parts n o os h in
    cond_both (eqb o.number m) _ _ (λ l. all_below l n ≡ true)
    (λ _. cond_both (leb o.left q) _ _ (λ l. all_below l n ≡ true) (λ _. p.1) (λ _. h))
    (λ _. together n o (lower m q os) p.0 (below_lower n m q os p.1))

pub below_turn : (n m q : ℕ) (os : List Order) → all_below os n ≡ true → all_below (turn m q os) n ≡ true
below_turn n m q [] h = refl
below_turn n m q (o ∷ os) h =
    let p = parts n o os h in
    cond_both (eqb o.number m) _ _ (λ l. all_below l n ≡ true) (λ _. h) (λ _. together n o (turn m q os) p.0 (below_turn n m q os p.1))

-- they are all below a number above the top
pub above_top : (top n : ℕ) (os : List Order) → all_below os (top + 1) ≡ true → top < n → all_below os n ≡ true
above_top top n os b l = below_wider (top + 1) n os (omega arith) b

-- the top after an order is added
pub top_added : (top t : ℕ) (o : Order) (os : List Order) → all_below os (top + 1) ≡ true → t ≡ max top o.number → all_below (os ++ o ∷ []) (t + 1) ≡ true
top_added top t o os b e = below_push (t + 1) o os (omega arith) (below_wider (top + 1) (t + 1) os (omega arith) b)
