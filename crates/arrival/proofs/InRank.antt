-- The orders of a side one after another in rank, each found by one scan.
use Rattle.std.proofs.Common.{◌≡◌, ℕ, zero, suc, ◌+◌, ◌<◌, Bool, true, false, cond, ◌&&◌, List, [], ◌∷◌, length, drop, Some, None, filter, Option, sym, refl, ap, ◌∙◌, subst, ⊎_elim, add-one, arith}
use Rattle.std.specs.List.{AllByRecursion, fold, reduce}
use Rattle.std.proofs.ByRecursion.{All-drop}
use Rattle.std.proofs.lemmas.List.{drop_all, length-drop}
use Rattle.std.proofs.lemmas.Bool.{cases_Bool, cond_both, cond-true, cond-false}
use Rattle.model.specs.declared.types.Order.{Order}
use Rattle.model.specs.declared.types.Side.{Side}
use Rattle.model.specs.Rank.{same_side, before, insert, ranked}
use Rattle.model.proofs.Commuting.{kept_ranked}
use Rattle.model.proofs.Lists.{Pairwise, cond_pair}
use Rattle.model.proofs.Ranking.{Distinct, before_asym, before_split, before_total, before_trans, ranked_strictly}
use Rattle.book.specs.Meaning.{first, place}
use Rattle.book.proofs.Places.{place_some, place_none, past_all}
use Rattle.arrival.specs.Scans.{behind}

-- the first in rank of two orders, of which the second may be missing
abbrev better_of : Side → Option Order → Order → Option Order
better_of s None o = Some o
better_of s (Some x) o = cond (before s o x) (Some o) (Some x)

-- the first of some ranked orders and one more
first_insert : (s : Side) (o : Order) (xs : List Order) → first (insert s o xs) ≡ better_of s (first xs) o
first_insert s o [] = refl
first_insert s o (x ∷ xs) = cond_pair (before s o x) _ _ _ _ (λ l m. first l ≡ m) (λ _. refl) (λ _. refl)

-- an order is of the side and behind another one
abbrev pub counts : Side → Option Order → Order → Bool
counts s from o = same_side s o.side && behind s from o

-- the first in rank of these
abbrev pub best_of : Side → Option Order → List Order → Option Order
best_of s from os = first (ranked s (filter (behind s from) os))

-- the same with one more order in front
best_step : (s : Side) (from : Option Order) (o : Order) (os : List Order) → best_of s from (o ∷ os) ≡ cond (counts s from o) (better_of s (best_of s from os) o) (best_of s from os)
best_step s from o os =
    let ks : List Order = filter (behind s from) os in
    let rest : List Order = ranked s ks in
    elim (behind s from o) as (λ b. first (ranked s (cond b (o ∷ ks) ks)) ≡ cond (same_side s o.side && b) (better_of s (first rest) o) (first rest)) [
      | true ↦ elim (same_side s o.side) as (λ b. first (cond b (insert s o rest) rest) ≡ cond (b && true) (better_of s (first rest) o) (first rest)) [ true ↦ first_insert s o rest | false ↦ refl ]
      | false ↦ elim (same_side s o.side) as (λ b. first rest ≡ cond (b && false) (better_of s (first rest) o) (first rest)) [ true ↦ refl | false ↦ refl ]
    ]

-- the first in rank of two orders
abbrev pub earlier : Side → Order → Order → Order
earlier s best o = cond (before s o best) o best

-- two orders may be compared first with each other, or one after the other with a third
swapped : (s : Side) (b : Option Order) (a o : Order) → (a.number ≡ o.number → ⊥) → better_of s b (earlier s a o) ≡ better_of s (better_of s b o) a
swapped s None a o d =
    ⊎_elim
    (λ e. ap Some (cond-true (before s o a) o a e) ∙ sym (cond-false (before s a o) (Some a) (Some o) (before_asym s o a e)))
    (λ e. ap Some (cond-false (before s o a) o a e) ∙ sym (cond-true (before s a o) (Some a) (Some o) (before_total s o a (λ x. d (sym x)) e)))
    (cases_Bool (before s o a))
swapped s (Some l) a o d =
    ⊎_elim
    (λ e.
    let after = before_asym s o a e in
    ap (better_of s (Some l)) (cond-true (before s o a) o a e)
    ∙ cond_both (before s o l) (Some o) (Some l) (λ z. z ≡ better_of s z a)
    (λ f. sym (cond-false (before s a o) (Some a) (Some o) after))
    (λ f. sym (cond-false (before s a l) (Some a) (Some l) (before_trans s l o a f after))))
    (λ e.
    ap (better_of s (Some l)) (cond-false (before s o a) o a e)
    ∙ cond_both (before s o l) (Some o) (Some l) (λ z. better_of s (Some l) a ≡ better_of s z a)
    (λ f. cond-true (before s a l) (Some a) (Some l) (before_split s o a l f e) ∙ sym (cond-true (before s a o) (Some a) (Some o) (before_total s o a (λ x. d (sym x)) e)))
    (λ f. refl))
    (cases_Bool (before s o a))

-- a scan that begins with an order
fold_best : (s : Side) (from : Option Order) (a : Order) (os : List Order) → Distinct (a ∷ os) → Some (fold (earlier s) a (filter (counts s from) os)) ≡ better_of s (best_of s from os) a
fold_best s from a [] h = refl
fold_best s from a (o ∷ os) h =
    let best : Option Order = best_of s from os in
    cond_pair (counts s from o) _ _ (better_of s best o) best (λ l b. Some (fold (earlier s) a l) ≡ better_of s b a)
    (λ _. fold_best s from (earlier s a o) os (cond_both (before s o a) o a (λ y. Distinct (y ∷ os)) (λ _. h.1) (λ _. (h.0.1, h.1.1))) ∙ swapped s best a o h.0.0)
    (λ _. fold_best s from a os (h.0.1, h.1.1))
    ∙ sym (ap (λ b. better_of s b a) (best_step s from o os))

-- so a scan finds the first in rank
pub scan_best : (s : Side) (from : Option Order) (os : List Order) → Distinct os → reduce (earlier s) (filter (counts s from) os) ≡ best_of s from os
scan_best s from [] h = refl
scan_best s from (o ∷ os) h =
    let best : Option Order = best_of s from os in
    cond_pair (counts s from o) _ _ (better_of s best o) best (λ l b. reduce (earlier s) l ≡ b) (λ _. fold_best s from o os h) (λ _. scan_best s from os h.1)
    ∙ sym (best_step s from o os)

-- a filter that every order passes
kept_all : (p : Order → Bool) (xs : List Order) → AllByRecursion (λ x. p x ≡ true) xs → filter p xs ≡ xs
kept_all p [] h = refl
kept_all p (x ∷ xs) h = cond-true (p x) _ _ h.0 ∙ ap (λ l. x ∷ l) (kept_all p xs h.1)

-- no order is behind itself
before_self : (s : Side) (x : Order) → before s x x ≡ false
before_self s x = ⊎_elim (before_asym s x x) (λ e. e) (cases_Bool (before s x x))

-- the orders behind one of some ranked orders are those after it
behind_after : (s : Side) (x : Order) (xs : List Order) (i : ℕ) → Pairwise (λ y z. before s y z ≡ true) xs → drop i xs ≡ x ∷ drop (suc i) xs → filter (before s x) xs ≡ drop (suc i) xs
behind_after s x [] i h e = absurd (omega (arith, ap length e, length-drop {A = Order} i []))
behind_after s x (y ∷ ys) zero h e =
    let same : y ≡ x = cc in
    cond-false (before s x y) _ _ (ap (before s x) same ∙ before_self s x) ∙ kept_all (before s x) ys (subst (λ v. AllByRecursion (λ z. before s v z ≡ true) ys) same h.0)
behind_after s x (y ∷ ys) (suc i) h e =
    let earlier = subst (AllByRecursion (λ z. before s y z ≡ true)) e (All-drop (λ z. before s y z ≡ true) i ys h.0) in
    cond-false (before s x y) _ _ (before_asym s y x earlier.0) ∙ behind_after s x ys i h.1 e

-- all orders are behind none
behind_none : (s : Side) (os : List Order) → filter (behind s None) os ≡ os
behind_none s [] = refl
behind_none s (o ∷ os) = ap (λ l. o ∷ l) (behind_none s os)

-- the order after the k-th is the first behind that, and the first of all where there is none yet
pub next_place : (s : Side) (os : List Order) (k : ℕ) (at : Option Order) → Distinct os → at ≡ place k (ranked s os) → (at ≡ None → k ≡ 0) → best_of s at os ≡ place (k + 1) (ranked s os)
next_place s os k None d e b = ap (λ l. first (ranked s l)) (behind_none s os) ∙ ap (λ n. place (n + 1) (ranked s os)) (sym (b refl))
next_place s os zero (Some x) d e b = let z : ◌≡◌ {A = ℕ} 0 1 = cc in absurd (omega arith)
next_place s os (suc i) (Some x) d e b =
    let xs : List Order = ranked s os in
    let at : drop i xs ≡ x ∷ drop (i + 1) xs = (place_some xs i x (rw add-one e)).1 in
    let after : filter (before s x) xs ≡ drop (suc i) xs = behind_after s x xs i (ranked_strictly s os d) (rw add-one at at) in
    ap first (sym (kept_ranked (before s x) s os) ∙ after) ∙ ap (λ n. place n xs) (sym (add-one (suc i)))

-- where there is no order after the k-th, there is none in a later place
pub place_past : (xs : List Order) (k n : ℕ) → None ≡ place (k + 1) xs → k < n → None ≡ place n xs
place_past xs k zero e l = absurd (omega arith)
place_past xs k (suc n) e l = sym (ap first (drop_all n xs (omega (arith, ap length (place_none xs k e), length-drop k xs))))

-- past all orders of the book there is none in rank
pub place_beyond : (s : Side) (os : List Order) (n : ℕ) → length os < n → None ≡ place n (ranked s os)
place_beyond s os zero h = absurd (omega arith)
place_beyond s os (suc n) h = sym (ap first (past_all s os n (omega arith)))
