-- To lower an order and to rank, to filter or to drop the first orders may change places.
use Rattle.std.proofs.Common.{◌≡◌, ℕ, zero, suc, ◌-◌, Bool, true, false, cond, eqb, leb, List, [], ◌∷◌, drop, filter, sym, refl, ap, ◌∙◌, subst, ⊎_elim}
use Rattle.std.specs.List.{ContainsAt as Has, AllByRecursion}
use Rattle.std.proofs.lemmas.Bool.{cond_both, cond-true, cond-false, cases_Bool, both_ways, eq-eqb, eqb-true, ne_eqb}
use Rattle.std.proofs.ByRecursion.{all-has, All-weaker, all_kept_by, all_has_itself, All-drop}
use Rattle.model.specs.Types.{Side, Order}
use Rattle.model.specs.Rank.{before, insert, ranked}
use Rattle.model.specs.Orders.{lower, with_left}
use Rattle.model.proofs.Lists.{cond_pair, has_here, has_there, has_cases}
use Rattle.model.proofs.Ranking.{Distinct, Sorted, of_side, all_ranked, sorted_ranked, before_split}

-- the first order is the one to lower, or another
module _ (n q : ℕ) (o : Order) (xs : List Order) where
  own_whole : eqb o.number n ≡ true → leb o.left q ≡ true → lower n q (o ∷ xs) ≡ xs
  own_whole e w = cond-true (eqb o.number n) _ _ e ∙ cond-true (leb o.left q) _ _ w

  own_part : eqb o.number n ≡ true → leb o.left q ≡ false → lower n q (o ∷ xs) ≡ with_left o (o.left - q) ∷ xs
  own_part e w = cond-true (eqb o.number n) _ _ e ∙ cond-false (leb o.left q) _ _ w

  other : eqb o.number n ≡ false → lower n q (o ∷ xs) ≡ o ∷ lower n q xs
  other e = cond-false (eqb o.number n) _ _ e

-- what remains of some orders once q is taken of the first
abbrev pub rest_of : Order → ℕ → List Order → List Order
rest_of o q xs = cond (leb o.left q) xs (with_left o (o.left - q) ∷ xs)

pub lower_first : (q : ℕ) (o : Order) (xs : List Order) → lower o.number q (o ∷ xs) ≡ rest_of o q xs
lower_first q o xs = cond-true (eqb o.number o.number) _ _ (eq-eqb o.number o.number refl)

-- no order has the number n
abbrev pub Lacks : ℕ → List Order → Type 0
Lacks n xs = AllByRecursion (λ x. n ≡ x.number → ⊥) xs

pub lower_missing : (n q : ℕ) (xs : List Order) → Lacks n xs → lower n q xs ≡ xs
lower_missing n q [] h = refl
lower_missing n q (x ∷ xs) h = other n q x xs (ne_eqb x.number n (λ e. h.0 (sym e))) ∙ ap (λ l. x ∷ l) (lower_missing n q xs h.1)

lacks : (n : ℕ) (o : Order) (xs : List Order) → eqb o.number n ≡ true → AllByRecursion (λ x. o.number ≡ x.number → ⊥) xs → Lacks n xs
lacks n o xs e h = subst (λ m. Lacks m xs) (eqb-true o.number n e) h

-- past a filter that does not look at what is left
module _ (f : Order → Bool) (steady : (o : Order) (q : ℕ) → f (with_left o q) ≡ f o) where
  pub kept_lower : (n q : ℕ) (os : List Order) → Distinct os → filter f (lower n q os) ≡ lower n q (filter f os)
  kept_lower n q [] d = refl
  kept_lower n q (o ∷ os) d =
      let o' : Order = with_left o (o.left - q) in
      let ks : List Order = filter f os in
      cond_both (eqb o.number n) (cond (leb o.left q) os (o' ∷ os)) (o ∷ lower n q os) (λ l. filter f l ≡ lower n q (filter f (o ∷ os)))
      (λ e.
      let miss : lower n q ks ≡ ks = lower_missing n q ks (all_kept_by f (λ x. n ≡ x.number → ⊥) os (lacks n o os e d.0)) in
      cond_both (leb o.left q) os (o' ∷ os) (λ l. filter f l ≡ lower n q (filter f (o ∷ os)))
      (λ w. cond_both (f o) (o ∷ ks) ks (λ l. ks ≡ lower n q l) (λ _. sym (own_whole n q o ks e w)) (λ _. sym miss))
      (λ w. ap (λ c. cond c (o' ∷ ks) ks) (steady o (o.left - q)) ∙ cond_pair (f o) (o' ∷ ks) ks (o ∷ ks) ks (λ l m. l ≡ lower n q m) (λ _. sym (own_part n q o ks e w)) (λ _. sym miss)))
      (λ e.
      let i = kept_lower n q os d.1 in
      cond_pair (f o) (o ∷ filter f (lower n q os)) (filter f (lower n q os)) (o ∷ ks) ks (λ l m. l ≡ lower n q m) (λ _. ap (λ l. o ∷ l) i ∙ sym (other n q o ks e)) (λ _. i))

-- past an insertion
insert_first : (s : Side) (o : Order) (xs : List Order) → AllByRecursion (λ x. before s o x ≡ true) xs → insert s o xs ≡ o ∷ xs
insert_first s o [] h = refl
insert_first s o (x ∷ xs) h = cond-true (before s o x) (o ∷ x ∷ xs) (x ∷ insert s o xs) h.0

-- what comes before the first of some ranked orders comes before the others
before_all : (s : Side) (o x : Order) (xs : List Order) → before s o x ≡ true → AllByRecursion (λ y. before s y x ≡ false) xs → AllByRecursion (λ y. before s o y ≡ true) xs
before_all s o x xs t h = All-weaker (λ y. before s y x ≡ false) (λ y. before s o y ≡ true) (λ y k. ⊎_elim (λ v. v) (λ v. absurd (both_ways (before s y x) k (before_split s o y x t v))) (cases_Bool (before s o y))) xs h

cond_cons : (c : Bool) (x : Order) (ys zs : List Order) → x ∷ cond c ys zs ≡ cond c (x ∷ ys) (x ∷ zs)
cond_cons true x ys zs = refl
cond_cons false x ys zs = refl

insert_own : (s : Side) (n q : ℕ) (o : Order) (xs : List Order) → eqb o.number n ≡ true → Lacks n xs
    → lower n q (insert s o xs) ≡ cond (leb o.left q) xs (insert s (with_left o (o.left - q)) xs)
insert_own s n q o [] e h = cond-true (eqb o.number n) _ _ e
insert_own s n q o (x ∷ xs) e h =
    let o' : Order = with_left o (o.left - q) in
    cond_pair (before s o x) (o ∷ x ∷ xs) (x ∷ insert s o xs) (o' ∷ x ∷ xs) (x ∷ insert s o' xs) (λ l m. lower n q l ≡ cond (leb o.left q) (x ∷ xs) m)
    (λ _. cond-true (eqb o.number n) _ _ e)
    (λ _. other n q x (insert s o xs) (ne_eqb x.number n (λ k. h.0 (sym k))) ∙ ap (λ l. x ∷ l) (insert_own s n q o xs e h.1) ∙ cond_cons (leb o.left q) x xs (insert s o' xs))

insert_other : (s : Side) (n q : ℕ) (o : Order) (xs : List Order) → eqb o.number n ≡ false → Sorted s xs → insert s o (lower n q xs) ≡ lower n q (insert s o xs)
insert_other s n q o [] ne h = sym (other n q o [] ne)
insert_other s n q o (x ∷ xs) ne h =
    let x' : Order = with_left x (x.left - q) in
    cond_both (eqb x.number n) (cond (leb x.left q) xs (x' ∷ xs)) (x ∷ lower n q xs) (λ l. insert s o l ≡ lower n q (insert s o (x ∷ xs)))
    (λ e. cond_both (leb x.left q) xs (x' ∷ xs) (λ l. insert s o l ≡ lower n q (insert s o (x ∷ xs)))
    (λ w. cond_both (before s o x) (o ∷ x ∷ xs) (x ∷ insert s o xs) (λ l. insert s o xs ≡ lower n q l)
    (λ t. insert_first s o xs (before_all s o x xs t h.0) ∙ sym (other n q o (x ∷ xs) ne ∙ ap (λ l. o ∷ l) (own_whole n q x xs e w)))
    (λ t. sym (own_whole n q x (insert s o xs) e w)))
    (λ w. cond_pair (before s o x) (o ∷ x' ∷ xs) (x' ∷ insert s o xs) (o ∷ x ∷ xs) (x ∷ insert s o xs) (λ l m. l ≡ lower n q m)
    (λ t. sym (other n q o (x ∷ xs) ne ∙ ap (λ l. o ∷ l) (own_part n q x xs e w)))
    (λ t. sym (own_part n q x (insert s o xs) e w))))
    (λ e. cond_pair (before s o x) (o ∷ x ∷ lower n q xs) (x ∷ insert s o (lower n q xs)) (o ∷ x ∷ xs) (x ∷ insert s o xs) (λ l m. l ≡ lower n q m)
    (λ t. sym (other n q o (x ∷ xs) ne ∙ ap (λ l. o ∷ l) (other n q x xs e)))
    (λ t. ap (λ l. x ∷ l) (insert_other s n q o xs ne h.1) ∙ sym (other n q x (insert s o xs) e)))

-- past a ranking
pub ranked_lower : (s : Side) (n q : ℕ) (os : List Order) → Distinct os → ranked s (lower n q os) ≡ lower n q (ranked s os)
ranked_lower s n q [] d = refl
ranked_lower s n q (o ∷ os) d =
    let o' : Order = with_left o (o.left - q) in
    let r : List Order = ranked s os in
    cond_both (eqb o.number n) (cond (leb o.left q) os (o' ∷ os)) (o ∷ lower n q os) (λ l. ranked s l ≡ lower n q (ranked s (o ∷ os)))
    (λ e.
    let gone : Lacks n r = all_ranked (λ x. n ≡ x.number → ⊥) s os (all_kept_by (of_side s) (λ x. n ≡ x.number → ⊥) os (lacks n o os e d.0)) in
    let miss : lower n q r ≡ r = lower_missing n q r gone in
    let own : lower n q (insert s o r) ≡ cond (leb o.left q) r (insert s o' r) = insert_own s n q o r e gone in
    cond_both (leb o.left q) os (o' ∷ os) (λ l. ranked s l ≡ lower n q (ranked s (o ∷ os)))
    (λ w. cond_both (of_side s o) (insert s o r) r (λ l. r ≡ lower n q l) (λ _. sym (own ∙ cond-true (leb o.left q) _ _ w)) (λ _. sym miss))
    (λ w. cond_pair (of_side s o) (insert s o' r) r (insert s o r) r (λ l m. l ≡ lower n q m) (λ _. sym (own ∙ cond-false (leb o.left q) _ _ w)) (λ _. sym miss)))
    (λ e.
    let i = ranked_lower s n q os d.1 in
    cond_pair (of_side s o) (insert s o (ranked s (lower n q os))) (ranked s (lower n q os)) (insert s o r) r (λ l m. l ≡ lower n q m) (λ _. ap (insert s o) i ∙ insert_other s n q o r e (sorted_ranked s os)) (λ _. i))

-- past the first orders
pub drop_lower : (q j : ℕ) (xs : List Order) (x : Order) → Distinct xs → Has (drop j xs) x → drop j (lower x.number q xs) ≡ lower x.number q (drop j xs)
drop_lower q zero xs x d h = refl
drop_lower q (suc j) [] x d h = refl
drop_lower q (suc j) (y ∷ ys) x d h =
    let in_ys : Has ys x = all-has (Has ys) (drop j ys) x (All-drop (Has ys) j ys (all_has_itself ys)) h in
    let apart : y.number ≡ x.number → ⊥ = all-has (λ z. y.number ≡ z.number → ⊥) ys x d.0 in_ys in
    ap (drop (suc j)) (other x.number q y ys (ne_eqb y.number x.number apart)) ∙ drop_lower q j ys x d.1 h

pub distinct_drop : (j : ℕ) (xs : List Order) → Distinct xs → Distinct (drop j xs)
distinct_drop zero xs d = d
distinct_drop (suc j) [] d = d
distinct_drop (suc j) (x ∷ xs) d = distinct_drop j xs d.1

-- a lowering leaves the orders of other numbers
pub has_lower : (n q : ℕ) (os : List Order) (y : Order) → Has os y → (n ≡ y.number → ⊥) → Has (lower n q os) y
has_lower n q [] y h d = h
has_lower n q (o ∷ os) y h d =
    cond_both (eqb o.number n) _ _ (λ l. Has l y)
    (λ e. ⊎_elim
    (λ same. absurd (d (sym (eqb-true o.number n e) ∙ ap (λ v. v.number) same)))
    (λ k. cond_both (leb o.left q) _ _ (λ l. Has l y) (λ _. k) (λ _. has_there (with_left o (o.left - q)) os y k))
    (has_cases o os y h))
    (λ e. ⊎_elim
    (λ same. subst (λ v. Has (o ∷ lower n q os) v) same (has_here o (lower n q os)))
    (λ k. has_there o (lower n q os) y (has_lower n q os y k d))
    (has_cases o os y h))

-- to filter and to rank may change places
kept_insert : (f : Order → Bool) (s : Side) (o : Order) (xs : List Order) → Sorted s xs → filter f (insert s o xs) ≡ cond (f o) (insert s o (filter f xs)) (filter f xs)
kept_insert f s o [] h = refl
kept_insert f s o (x ∷ xs) h =
    let ks : List Order = filter f xs in
    cond_both (before s o x) (o ∷ x ∷ xs) (x ∷ insert s o xs) (λ l. filter f l ≡ cond (f o) (insert s o (filter f (x ∷ xs))) (filter f (x ∷ xs)))
    (λ t. ap (λ l. cond (f o) l (filter f (x ∷ xs))) (sym (insert_first s o (filter f (x ∷ xs)) (all_kept_by f (λ y. before s o y ≡ true) (x ∷ xs) (t, before_all s o x xs t h.0)))))
    (λ t.
    let i = kept_insert f s o xs h.1 in
    cond_pair (f x) (x ∷ filter f (insert s o xs)) (filter f (insert s o xs)) (x ∷ ks) ks (λ l m. l ≡ cond (f o) (insert s o m) m)
    (λ _. ap (λ l. x ∷ l) i ∙ cond_cons (f o) x (insert s o ks) ks ∙ ap (λ l. cond (f o) l (x ∷ ks)) (sym (cond-false (before s o x) (o ∷ x ∷ ks) (x ∷ insert s o ks) t)))
    (λ _. i))

pub kept_ranked : (f : Order → Bool) (s : Side) (os : List Order) → filter f (ranked s os) ≡ ranked s (filter f os)
kept_ranked f s [] = refl
kept_ranked f s (o ∷ os) =
    let r : List Order = ranked s os in
    let ks : List Order = filter f os in
    let i = kept_ranked f s os in
    let e = kept_insert f s o r (sorted_ranked s os) in
    cond_both (f o) (o ∷ ks) ks (λ l. filter f (ranked s (o ∷ os)) ≡ ranked s l)
    (λ t. cond_pair (of_side s o) (insert s o r) r (insert s o (ranked s ks)) (ranked s ks) (λ l m. filter f l ≡ m) (λ _. e ∙ cond-true (f o) _ _ t ∙ ap (insert s o) i) (λ _. i))
    (λ t. cond_both (of_side s o) (insert s o r) r (λ l. filter f l ≡ ranked s ks) (λ _. e ∙ cond-false (f o) _ _ t ∙ i) (λ _. i))
