-- Standing orders are their two sides in rank, put together by number.
use Rattle.std.proofs.Common.{◌≡◌, ℕ, ◌<◌, Bool, true, false, cond, not, ◌&&◌, ltb, List, [], ◌∷◌, ◌++◌, sym, refl, ap, ◌∙◌, ⊎_elim, arith}
use Rattle.std.specs.List.{AllByRecursion}
use Rattle.std.proofs.ByRecursion.{All-weaker, all_kept_by}
use Rattle.std.proofs.lemmas.Bool.{cases_Bool, cond_both, cond-true}
use Rattle.std.proofs.lemmas.Bool.Decides.{nat_tests}
use Rattle.model.specs.declared.types.Side.{Side}
use Rattle.model.specs.declared.types.Side.TheVariants.{Buy, Sell}
use Rattle.model.specs.declared.types.Order.{Order}
use Rattle.model.specs.Orders.{Standing}
use Rattle.model.specs.Rank.{before, insert, same_side, ranked}
use Rattle.model.proofs.Commuting.{Lacks}
use Rattle.model.proofs.Ranking.{before_asym, before_total, before_trans, all_ranked, of_side}
use Rattle.model.proofs.Standing.{standing_above}
use Rattle.book.specs.Meaning.{all_below}
use Rattle.ranked.specs.ByNumber.{filed, earlier, file, file_all, by_number}
use Rattle.ranked.proofs.Filed.{filed_swap}

-- to insert in rank is to file by rank
insert_filed : (s : Side) (o : Order) (xs : List Order) → insert s o xs ≡ filed (before s) o xs
insert_filed s o [] = refl
insert_filed s o (x ∷ xs) = ap (λ l. cond (before s o x) (o ∷ x ∷ xs) (x ∷ l)) (insert_filed s o xs)

-- of two orders just one ranks before the other
before_flip : (s : Side) (a b : Order) → (a.number ≡ b.number → ⊥) → before s b a ≡ not (before s a b)
before_flip s a b d = ⊎_elim (λ t. before_asym s a b t ∙ ap not (sym t)) (λ t. before_total s a b d t ∙ ap not (sym t)) (cases_Bool (before s a b))

-- so that two inserted orders may change places
insert_swap : (s : Side) (a b : Order) (xs : List Order) → (a.number ≡ b.number → ⊥) → insert s a (insert s b xs) ≡ insert s b (insert s a xs)
insert_swap s a b xs d =
    let swap = filed_swap (before s) (λ x y z h k. before_trans s z y x (before_asym s z y h) k) a b xs (before_flip s a b d) (before_flip s b a (λ e. d (sym e))) in
    ap (insert s a) (insert_filed s b xs) ∙ insert_filed s a (filed (before s) b xs) ∙ swap ∙ sym (insert_filed s b (filed (before s) a xs)) ∙ sym (ap (insert s b) (insert_filed s a xs))

-- an order anywhere in a list is one more of its side
pub ranked_middle : (s : Side) (front : List Order) (x : Order) (rest : List Order) → Lacks x.number front → ranked s (front ++ x ∷ rest) ≡ cond (same_side s x.side) (insert s x (ranked s (front ++ rest))) (ranked s (front ++ rest))
ranked_middle s [] x rest h = refl
ranked_middle s (y ∷ front) x rest h =
    let i = ranked_middle s front x rest h.1 in
    ⊎_elim
    (λ (p : same_side s y.side ≡ true). ⊎_elim
    (λ (q : same_side s x.side ≡ true). let j : ranked s (front ++ x ∷ rest) ≡ insert s x (ranked s (front ++ rest)) = simp q at i in simp (p, q, j) (insert_swap s y x (ranked s (front ++ rest)) (λ e. h.0 (sym e))))
    (λ (q : same_side s x.side ≡ false). let j : ranked s (front ++ x ∷ rest) ≡ ranked s (front ++ rest) = simp q at i in simp (p, q, j))
    (cases_Bool (same_side s x.side)))
    (λ (p : same_side s y.side ≡ false). simp (p, i))
    (cases_Bool (same_side s y.side))

-- by number, too, two orders may change places
file_swap : (a b : Order) (l : List Order) → (a.number ≡ b.number → ⊥) → file a (file b l) ≡ file b (file a l)
file_swap a b l d = filed_swap earlier (λ x y z h k. grind (arith, nat_tests)) a b l (grind (arith, nat_tests)) (grind (arith, nat_tests))

-- an order with the lowest number comes first
file_first : (o : Order) (l : List Order) → AllByRecursion (λ x. o.number < x.number) l → file o l ≡ o ∷ l
file_first o [] h = refl
file_first o (x ∷ l) h = cond-true (earlier o x) _ _ (grind (arith, nat_tests))

-- an order filed before the others is as if filed last
file_all_file : (xs : List Order) (o : Order) (l : List Order) → Lacks o.number xs → file_all xs (file o l) ≡ file o (file_all xs l)
file_all_file [] o l h = refl
file_all_file (x ∷ xs) o l h = ap (file x) (file_all_file xs o l h.1) ∙ file_swap x o (file_all xs l) (λ e. h.0 (sym e))

-- and so is one that was inserted among the others
file_all_insert : (s : Side) (o : Order) (xs l : List Order) → Lacks o.number xs → file_all (insert s o xs) l ≡ file o (file_all xs l)
file_all_insert s o [] l h = refl
file_all_insert s o (x ∷ xs) l h =
    cond_both (before s o x) _ _ (λ k. file_all k l ≡ file o (file_all (x ∷ xs) l)) (λ _. refl) (λ _. ap (file x) (file_all_insert s o xs l h.1) ∙ file_swap x o (file_all xs l) (λ e. h.0 (sym e)))

-- what no order has, none of a side has
pub lacks_ranked : (s : Side) (n : ℕ) (os : List Order) → Lacks n os → Lacks n (ranked s os)
lacks_ranked s n os h = all_ranked (λ x. n ≡ x.number → ⊥) s os (all_kept_by (of_side s) (λ x. n ≡ x.number → ⊥) os h)

-- both sides together are the orders
pub both_sides : (lo hi : ℕ) (os : List Order) → Standing lo os hi → by_number (ranked Buy os) (ranked Sell os) ≡ os
both_sides lo hi [] h = refl
both_sides lo hi (o ∷ os) h =
    let i = both_sides o.number hi os h.2 in
    let up = standing_above o.number hi os h.2 in
    let free : Lacks o.number os = All-weaker (λ x. o.number < x.number) (λ x. o.number ≡ x.number → ⊥) (λ x k e. omega arith) os up in
    let b = ranked Buy os in
    let s = ranked Sell os in
    elim o.side as (λ t. by_number (cond (same_side Buy t) (insert Buy o b) b) (cond (same_side Sell t) (insert Sell o s) s) ≡ o ∷ os) [
      | Buy ↦ file_all_insert Buy o b (file_all s []) (lacks_ranked Buy o.number os free) ∙ ap (file o) i ∙ file_first o os up
      | Sell ↦ ap (file_all b) (file_all_insert Sell o s [] (lacks_ranked Sell o.number os free)) ∙ file_all_file b o (file_all s []) (lacks_ranked Buy o.number os free) ∙ ap (file o) i ∙ file_first o os up
    ]

-- what holds of an order and of a list holds once it is filed
all_file : (P : Order → Type 0) (o : Order) (l : List Order) → P o → AllByRecursion P l → AllByRecursion P (file o l)
all_file P o [] h k = (h, tt)
all_file P o (x ∷ l) h k = cond_both (earlier o x) _ _ (AllByRecursion P) (λ _. (h, k)) (λ _. (k.0, all_file P o l h k.1))

-- and so it is with many
all_file_all : (P : Order → Type 0) (xs l : List Order) → AllByRecursion P xs → AllByRecursion P l → AllByRecursion P (file_all xs l)
all_file_all P [] l h k = k
all_file_all P (x ∷ xs) l h k = all_file P x (file_all xs l) h.0 (all_file_all P xs l h.1 k)

-- what holds of two queues holds of their orders together
pub all_by_number : (P : Order → Type 0) (xs ys : List Order) → AllByRecursion P xs → AllByRecursion P ys → AllByRecursion P (by_number xs ys)
all_by_number P xs ys h k = all_file_all P xs (file_all ys []) h (all_file_all P ys [] k tt)

-- whether all numbers are below n, once an order is filed
below_file : (o : Order) (l : List Order) (n : ℕ) → all_below (file o l) n ≡ (ltb o.number n && all_below l n)
below_file o [] n = refl
below_file o (x ∷ l) n =
    cond_both (earlier o x) _ _ (λ k. all_below k n ≡ (ltb o.number n && all_below (x ∷ l) n)) (λ _. refl) (λ _. ap (λ t. ltb x.number n && t) (below_file o l n) ∙ swapped (ltb x.number n) (ltb o.number n) (all_below l n))
  where
    swapped : (a b c : Bool) → (a && (b && c)) ≡ (b && (a && c))
    swapped true true c = refl
    swapped true false c = refl
    swapped false true c = refl
    swapped false false c = refl

-- and so it is with many
below_file_all : (xs l : List Order) (n : ℕ) → all_below (file_all xs l) n ≡ (all_below xs n && all_below l n)
below_file_all [] l n = refl
below_file_all (x ∷ xs) l n = below_file x (file_all xs l) n ∙ ap (λ t. ltb x.number n && t) (below_file_all xs l n) ∙ grouped (ltb x.number n) (all_below xs n) (all_below l n)
  where
    grouped : (a b c : Bool) → (a && (b && c)) ≡ ((a && b) && c)
    grouped true b c = refl
    grouped false b c = refl

-- and with the orders of two queues together
pub below_by_number : (xs ys : List Order) (n : ℕ) → all_below (by_number xs ys) n ≡ (all_below xs n && all_below ys n)
below_by_number xs ys n = below_file_all xs (file_all ys []) n ∙ ap (λ b. all_below xs n && b) (below_file_all ys [] n ∙ and_true (all_below ys n))
  where
    and_true : (b : Bool) → (b && true) ≡ b
    and_true true = refl
    and_true false = refl
