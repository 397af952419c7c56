-- One order in the middle of a list: what is left once it is lowered, turned or taken out.
use Rattle.std.proofs.Common.{◌≡◌, ℕ, zero, suc, ◌-◌, ◌<◌, ◌≤◌, cond, ltb, List, [], ◌∷◌, ◌++◌, length, get_or, take, drop, set, sym, refl, ap, ◌∙◌, subst, arith, drop-cons}
use Rattle.std.specs.List.{ContainsAt as Has, remove}
use Rattle.std.proofs.ByRecursion.{All-get_or, All-weaker}
use Rattle.std.proofs.lemmas.List.{take-append-drop}
use Rattle.std.proofs.lemmas.Bool.{cond_both, cond-true, cond-false, eq-eqb, ne_eqb, le-leb, lt-leb}
use Rattle.model.specs.declared.types.Side.{Side}
use Rattle.model.specs.declared.types.OrderPrice.TheVariants.{Limit}
use Rattle.model.specs.declared.types.Order.{Order}
use Rattle.model.specs.Orders.{Standing, lower, turn, with_left, with_price}
use Rattle.model.specs.Rank.{price_first, before, insert, ranked}
use Rattle.model.proofs.Commuting.{Lacks}
use Rattle.model.proofs.Lists.{cond_pair, kept_has}
use Rattle.model.proofs.Priority.{same_side_is}
use Rattle.model.proofs.Ranking.{ranked_has, of_side}
use Rattle.model.proofs.Standing.{standing_above}

-- the order with the number n in the middle, lowered and turned
module _ (n : ℕ) (x : Order) (rest : List Order) (e : x.number ≡ n) where
  -- nothing is left of it
  pub lower_whole : (q : ℕ) (front : List Order) → Lacks n front → x.left ≤ q → lower n q (front ++ x ∷ rest) ≡ front ++ rest
  lower_whole q [] h l = cond-true _ _ _ (eq-eqb x.number n e) ∙ cond-true _ _ _ (le-leb x.left q l)
  lower_whole q (o ∷ os) h l = cond-false _ _ _ (ne_eqb o.number n (λ k. h.0 (sym k))) ∙ ap (λ t. o ∷ t) (lower_whole q os h.1 l)

  -- something is
  pub lower_part : (q : ℕ) (front : List Order) → Lacks n front → q < x.left → lower n q (front ++ x ∷ rest) ≡ front ++ with_left x (x.left - q) ∷ rest
  lower_part q [] h l = cond-true _ _ _ (eq-eqb x.number n e) ∙ cond-false _ _ _ (lt-leb x.left q l)
  lower_part q (o ∷ os) h l = cond-false _ _ _ (ne_eqb o.number n (λ k. h.0 (sym k))) ∙ ap (λ t. o ∷ t) (lower_part q os h.1 l)

  -- it has a limit price
  pub turn_middle : (p : ℕ) (front : List Order) → Lacks n front → turn n p (front ++ x ∷ rest) ≡ front ++ with_price x (Limit p) ∷ rest
  turn_middle p [] h = cond-true _ _ _ (eq-eqb x.number n e)
  turn_middle p (o ∷ os) h = cond-false _ _ _ (ne_eqb o.number n (λ k. h.0 (sym k))) ∙ ap (λ t. o ∷ t) (turn_middle p os h.1)

-- an order that was inserted, removed again by its index
pub removed_insert : (s : Side) (x : Order) (xs : List Order) (i : ℕ) (d : Order) → Lacks x.number xs → i < length (insert s x xs) → (get_or (insert s x xs) i d).number ≡ x.number → remove (insert s x xs) i ≡ xs
removed_insert s x [] zero d f h e = refl
removed_insert s x [] (suc i) d f h e = absurd (omega arith)
removed_insert s x (y ∷ ys) i d f h e =
    cond_both (before s x y) _ _ (λ l. i < length l → (get_or l i d).number ≡ x.number → remove l i ≡ y ∷ ys) (λ _. first i) (λ _. later i (λ j. removed_insert s x ys j d f.1)) h e
  where
    first : (i : ℕ) → i < length (x ∷ y ∷ ys) → (get_or (x ∷ y ∷ ys) i d).number ≡ x.number → remove (x ∷ y ∷ ys) i ≡ y ∷ ys
    first zero h e = refl
    first (suc i) h e = absurd (All-get_or (λ z. x.number ≡ z.number → ⊥) (y ∷ ys) i d (omega arith) f (sym e))

    later : (i : ℕ) → ((j : ℕ) → j < length (insert s x ys) → (get_or (insert s x ys) j d).number ≡ x.number → remove (insert s x ys) j ≡ ys) → i < length (y ∷ insert s x ys) → (get_or (y ∷ insert s x ys) i d).number ≡ x.number → remove (y ∷ insert s x ys) i ≡ y ∷ ys
    later zero r h e = absurd (f.0 (sym e))
    later (suc i) r h e = ap (λ t. y ∷ t) (r i (omega arith) e)

-- an order with the same number and price ranks as the other does
same_rank : (s : Side) (x y z : Order) → y.number ≡ x.number → y.price ≡ x.price → before s y z ≡ before s x z
same_rank s x y z n p = ap (λ q. price_first s q z.price (ltb y.number z.number)) p ∙ ap (λ m. price_first s x.price z.price (ltb m z.number)) n

-- and may be written over it
pub set_insert : (s : Side) (x y : Order) (xs : List Order) (i : ℕ) (d : Order) → y.number ≡ x.number → y.price ≡ x.price → Lacks x.number xs → i < length (insert s x xs) → (get_or (insert s x xs) i d).number ≡ x.number
    → set (insert s x xs) i y ≡ insert s y xs
set_insert s x y [] zero d n p f h e = refl
set_insert s x y [] (suc i) d n p f h e = absurd (omega arith)
set_insert s x y (z ∷ zs) i d n p f h e =
    cond_pair (before s x z) (x ∷ z ∷ zs) (z ∷ insert s x zs) (y ∷ z ∷ zs) (z ∷ insert s y zs) (λ l m. i < length l → (get_or l i d).number ≡ x.number → set l i y ≡ m) (λ _. first i) (λ _. later i (λ j. set_insert s x y zs j d n p f.1)) h e
    ∙ ap (λ b. cond b (y ∷ z ∷ zs) (z ∷ insert s y zs)) (sym (same_rank s x y z n p))
  where
    first : (i : ℕ) → i < length (x ∷ z ∷ zs) → (get_or (x ∷ z ∷ zs) i d).number ≡ x.number → set (x ∷ z ∷ zs) i y ≡ y ∷ z ∷ zs
    first zero h e = refl
    first (suc i) h e = absurd (All-get_or (λ w. x.number ≡ w.number → ⊥) (z ∷ zs) i d (omega arith) f (sym e))

    later : (i : ℕ) → ((j : ℕ) → j < length (insert s x zs) → (get_or (insert s x zs) j d).number ≡ x.number → set (insert s x zs) j y ≡ insert s y zs) → i < length (z ∷ insert s x zs) → (get_or (z ∷ insert s x zs) i d).number ≡ x.number → set (z ∷ insert s x zs) i y ≡ z ∷ insert s y zs
    later zero r h e = absurd (f.0 (sym e))
    later (suc i) r h e = ap (λ t. z ∷ t) (r i (omega arith) e)

-- an order of a side, with the orders below and above its number
pub record Split (s : Side) (os : List Order) (x : Order) : Type 0 where
  pub front : List Order
  pub rest : List Order
  pub is : os ≡ front ++ x ∷ rest
  pub side : x.side ≡ s
  pub low : Lacks x.number front
  pub high : Lacks x.number rest

-- the number of one of the orders is above the lower bound
reaches : (lo hi : ℕ) (front : List Order) (x : Order) (rest : List Order) → Standing lo (front ++ x ∷ rest) hi → lo < x.number
reaches lo hi [] x rest h = h.0
reaches lo hi (y ∷ front) x rest h = let i = reaches y.number hi front x rest h.2 in omega arith

-- those below and those above it have other numbers
lacks_below : (lo hi : ℕ) (front : List Order) (x : Order) (rest : List Order) → Standing lo (front ++ x ∷ rest) hi → Lacks x.number front
lacks_below lo hi [] x rest h = tt
lacks_below lo hi (y ∷ front) x rest h = ((λ e. let r = reaches y.number hi front x rest h.2 in omega arith), lacks_below y.number hi front x rest h.2)

lacks_above : (lo hi : ℕ) (front : List Order) (x : Order) (rest : List Order) → Standing lo (front ++ x ∷ rest) hi → Lacks x.number rest
lacks_above lo hi [] x rest h = All-weaker (λ y. x.number < y.number) (λ y. x.number ≡ y.number → ⊥) (λ y k e. omega arith) rest (standing_above x.number hi rest h.2)
lacks_above lo hi (y ∷ front) x rest h = lacks_above y.number hi front x rest h.2

-- every order of a side splits the standing orders
pub split_at : (lo hi : ℕ) (s : Side) (os : List Order) (x : Order) → Standing lo os hi → Has (ranked s os) x → Split s os x
split_at lo hi s os x st h =
    let m = kept_has (of_side s) os x (ranked_has s os x h) in
    let k = m.0.0 in
    let at : get_or os k x ≡ x = m.0.2 x in
    let is : os ≡ take k os ++ x ∷ drop (suc k) os = sym (take-append-drop k os) ∙ ap (λ t. take k os ++ t) (drop-cons os k x m.0.1 ∙ ap (λ z. z ∷ drop (suc k) os) at) in
    let st' = subst (λ l. Standing lo l hi) is st in
    record {
      front = take k os;
      rest = drop (suc k) os;
      is = is;
      side = sym (same_side_is s x.side m.1);
      low = lacks_below lo hi (take k os) x (drop (suc k) os) st';
      high = lacks_above lo hi (take k os) x (drop (suc k) os) st';
    }
