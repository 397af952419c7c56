-- The nearest order above a number, found in any order of a side.
use Rattle.std.proofs.Common.{◌≡◌, ℕ, ◌+◌, ◌<◌, ◌≤◌, true, false, cond, ltb, List, [], ◌∷◌, length, drop, Some, None, Option, sym, refl, ap, ◌∙◌, subst, arith}
use Rattle.std.proofs.iter.Yields.{nat_range_steps}
use Rattle.std.specs.declared.iter.MapWhile.{MapWhile}
use Rattle.std.specs.declared.ops.Range.{Range}
use Rattle.std.specs.Iterator.{Yields}
use Rattle.std.specs.Iterator.Adapters.{map_while_steps}
use Rattle.std.specs.List.{AllByRecursion, FoldsTo}
use Rattle.std.specs.Option.{MatchOption}
use Rattle.std.specs.Fn.{Called}
use denote.Param.Members.{Mut}
use Rattle.std.proofs.ByRecursion.{all_kept_by}
use Rattle.std.proofs.lemmas.Bool.{cond_both, cond-true, cond-false, lt-ltb, le-ltb}
use Rattle.std.proofs.lemmas.Bool.Decides.{nat_tests}
use Rattle.model.specs.declared.types.Order.{Order}
use Rattle.model.specs.declared.types.Side.{Side}
use Rattle.model.specs.declared.types.Side.TheVariants.{Buy, Sell}
use Rattle.model.specs.Orders.{Standing}
use Rattle.model.specs.Rank.{same_side, before, insert, ranked}
use Rattle.model.proofs.Lists.{cond_pair}
use Rattle.model.proofs.Ranking.{Distinct, all_ranked}
use Rattle.model.proofs.Standing.{standing_above, standing_distinct, kept_standing}
use Rattle.book.specs.Meaning.{place, next_above, of_side, lower_numbered, nearer_of}
use Rattle.book.specs.Plain.{plain, as_plain}
use Rattle.book.specs.declared.standing.StandingOrder.{StandingOrder}
use Rattle.book.proofs.Places.{place_some, place_none, past_all}

-- the nearest order above n among the best so far and some more orders
abbrev pub nearest : ℕ → Option Order → List Order → Option Order
nearest n best [] = best
nearest n best (o ∷ os) = nearest n (nearer_of n best o) os

-- two orders in either order
lower_swap : (b : Option Order) (x y : Order) → (x.number ≡ y.number → ⊥) → lower_numbered (lower_numbered b (Some x)) (Some y) ≡ lower_numbered (lower_numbered b (Some y)) (Some x)
lower_swap None x y d = grind (arith, nat_tests)
lower_swap (Some z) x y d = grind (arith, nat_tests)

nearer_swap : (n : ℕ) (b : Option Order) (x y : Order) → (x.number ≡ y.number → ⊥) → nearer_of n (nearer_of n b x) y ≡ nearer_of n (nearer_of n b y) x
nearer_swap n b x y d =
    elim (ltb n x.number) as (λ v. cond (ltb n y.number) (lower_numbered (cond v (lower_numbered b (Some x)) b) (Some y)) (cond v (lower_numbered b (Some x)) b) ≡ cond v (lower_numbered (nearer_of n b y) (Some x)) (nearer_of n b y)) [
      | true ↦ elim (ltb n y.number) as (λ w. cond w (lower_numbered (lower_numbered b (Some x)) (Some y)) (lower_numbered b (Some x)) ≡ lower_numbered (cond w (lower_numbered b (Some y)) b) (Some x)) [ true ↦ lower_swap b x y d | false ↦ refl ]
      | false ↦ refl
    ]

-- an order's place in rank makes no difference
nearest_insert : (n : ℕ) (b : Option Order) (s : Side) (o : Order) (xs : List Order) → AllByRecursion (λ x. o.number ≡ x.number → ⊥) xs → nearest n b (insert s o xs) ≡ nearest n b (o ∷ xs)
nearest_insert n b s o [] d = refl
nearest_insert n b s o (x ∷ xs) d =
    cond_both (before s o x) _ _ (λ l. nearest n b l ≡ nearest n b (o ∷ x ∷ xs))
    (λ _. refl)
    (λ _. nearest_insert n (nearer_of n b x) s o xs d.1 ∙ ap (λ a. nearest n a xs) (sym (nearer_swap n b o x d.0)))

nearest_ranked : (n : ℕ) (b : Option Order) (s : Side) (os : List Order) → Distinct os → nearest n b (ranked s os) ≡ nearest n b (of_side s os)
nearest_ranked n b s [] d = refl
nearest_ranked n b s (o ∷ os) d =
    cond_pair (same_side s o.side) _ _ _ _ (λ l m. nearest n b l ≡ nearest n b m)
    (λ _. nearest_insert n b s o (ranked s os) (all_ranked (λ x. o.number ≡ x.number → ⊥) s os (all_kept_by (λ x. same_side s x.side) (λ x. o.number ≡ x.number → ⊥) os d.0)) ∙ nearest_ranked n (nearer_of n b o) s os d.1)
    (λ _. nearest_ranked n b s os d.1)

-- the first of ascending orders stays
nearest_first : (n : ℕ) (o : Order) (xs : List Order) → AllByRecursion (λ x. o.number < x.number) xs → nearest n (Some o) xs ≡ Some o
nearest_first n o [] h = refl
nearest_first n o (x ∷ xs) h =
    let e : nearer_of n (Some o) x ≡ Some o = cond_both (ltb n x.number) _ _ (λ a. a ≡ Some o) (λ _. cond-false (ltb x.number o.number) _ _ (le-ltb x.number o.number (omega arith))) (λ _. refl) in
    ap (λ a. nearest n a xs) e ∙ nearest_first n o xs h.1

nearest_ascending : (lo hi n : ℕ) (os : List Order) → Standing lo os hi → nearest n None os ≡ next_above n os
nearest_ascending lo hi n [] h = refl
nearest_ascending lo hi n (o ∷ os) h =
    cond_pair (ltb n o.number) _ _ _ _ (λ a b. nearest n a os ≡ b)
    (λ _. nearest_first n o os (standing_above o.number hi os h.2))
    (λ _. nearest_ascending o.number hi n os h.2)

-- a walk over a side finds the next higher number
pub next_on_side : (hi n : ℕ) (s : Side) (os : List Order) → Standing 0 os hi → nearest n None (ranked s os) ≡ next_above n (of_side s os)
next_on_side hi n s os h = nearest_ranked n None s os (standing_distinct 0 hi os h) ∙ nearest_ascending 0 hi n (of_side s os) (kept_standing (λ o. same_side s o.side) 0 hi os h)

-- an order below all others is the lower-numbered
first_lower : (n : ℕ) (o : Order) (xs : List Order) → AllByRecursion (λ x. o.number < x.number) xs → lower_numbered (Some o) (next_above n xs) ≡ Some o
first_lower n o [] h = refl
first_lower n o (x ∷ xs) h =
    cond_both (ltb n x.number) _ _ (λ a. lower_numbered (Some o) a ≡ Some o)
    (λ _. cond-false (ltb x.number o.number) _ _ (le-ltb x.number o.number (omega arith)))
    (λ _. first_lower n o xs h.1)

second_lower : (n : ℕ) (o : Order) (xs : List Order) → AllByRecursion (λ x. o.number < x.number) xs → lower_numbered (next_above n xs) (Some o) ≡ Some o
second_lower n o [] h = refl
second_lower n o (x ∷ xs) h =
    cond_both (ltb n x.number) _ _ (λ a. lower_numbered a (Some o) ≡ Some o)
    (λ _. cond-true (ltb o.number x.number) _ _ (lt-ltb o.number x.number h.0))
    (λ _. second_lower n o xs h.1)

side_above : (m hi : ℕ) (s : Side) (os : List Order) → Standing m os hi → AllByRecursion (λ x. m < x.number) (of_side s os)
side_above m hi s os h = all_kept_by (λ x. same_side s x.side) (λ x. m < x.number) os (standing_above m hi os h)

-- the lower-numbered of what the two sides give, with the first order on the side r
first_of_sides : (hi n : ℕ) (o : Order) (os : List Order) (r : Side) → Standing o.number os hi
    → lower_numbered (next_above n (of_side Buy os)) (next_above n (of_side Sell os)) ≡ next_above n os
    → lower_numbered (next_above n (cond (same_side Buy r) (o ∷ of_side Buy os) (of_side Buy os))) (next_above n (cond (same_side Sell r) (o ∷ of_side Sell os) (of_side Sell os))) ≡ next_above n (o ∷ os)
first_of_sides hi n o os Buy h i =
    cond_pair (ltb n o.number) _ _ _ _ (λ a b. lower_numbered a (next_above n (of_side Sell os)) ≡ b)
    (λ _. first_lower n o (of_side Sell os) (side_above o.number hi Sell os h))
    (λ _. i)
first_of_sides hi n o os Sell h i =
    cond_pair (ltb n o.number) _ _ _ _ (λ a b. lower_numbered (next_above n (of_side Buy os)) a ≡ b)
    (λ _. second_lower n o (of_side Buy os) (side_above o.number hi Buy os h))
    (λ _. i)

of_both_sides : (lo hi n : ℕ) (os : List Order) → Standing lo os hi → lower_numbered (next_above n (of_side Buy os)) (next_above n (of_side Sell os)) ≡ next_above n os
of_both_sides lo hi n [] h = refl
of_both_sides lo hi n (o ∷ os) h = first_of_sides hi n o os o.side h.2 (of_both_sides o.number hi n os h.2)

-- the chain: places are asked one after another, and each order may be nearer than the best so far
module _ {F P : Type 0} (ask : Mut F (ℕ × Unit {0}) (Option StandingOrder)) (turn : Mut P (Option StandingOrder × (StandingOrder × Unit {0})) (Option StandingOrder)) (n : ℕ) (s : Side) (os : List Order) (f : F) (p : P)
    (asked : (i : ℕ) (r : Option StandingOrder) (f' : F) → Called ask f (i, tt) r f' → (f' ≡ f) × (as_plain r ≡ place (i + 1) (ranked s os)))
    (turned : (b : Option StandingOrder) (x : StandingOrder) (r : Option StandingOrder) (p' : P) → Called turn p (b, (x, tt)) r p' → (p' ≡ p) × (as_plain r ≡ nearer_of n (as_plain b) (plain x))) where
  abbrev steps : MapWhile (Range ℕ) F → Option StandingOrder → MapWhile (Range ℕ) F → Type 0
  steps = map_while_steps nat_range_steps ask

  module _ (m u : MapWhile (Range ℕ) F) (e : m.f ≡ f) where
    abbrev Gave : Option ℕ → Option StandingOrder → Type 0
    Gave o r = MatchOption o ((r ≡ None) × (u.f ≡ m.f)) (λ i. Called ask m.f (i, tt) r u.f)

    ended : length os ≤ m.iter.end → (o : Option ℕ) → nat_range_steps m.iter o u.iter → Gave o None → drop m.iter.start (ranked s os) ≡ []
    ended l None r c = past_all s os m.iter.start (omega (arith, r.1.0))
    ended l (Some i) r c = place_none (ranked s os) m.iter.start (subst (λ k. None ≡ place (k + 1) (ranked s os)) r.1.1 (asked i None u.f (subst (λ h. Called ask h (i, tt) None u.f) e c)).1)

    shown : (y : StandingOrder) (o : Option ℕ) → nat_range_steps m.iter o u.iter → Gave o (Some y)
        → (u.f ≡ f) × (u.iter.end ≡ m.iter.end) × (u.iter.start ≡ m.iter.start + 1) × (Some (plain y) ≡ place (m.iter.start + 1) (ranked s os))
    shown y None r c = absurd cc
    shown y (Some i) r c =
        let a = asked i (Some y) u.f (subst (λ h. Called ask h (i, tt) (Some y) u.f) e c) in
        (a.0, r.0, r.1.2, subst (λ k. Some (plain y) ≡ place (k + 1) (ranked s os)) r.1.1 a.1)

  pub walks : (ys : List StandingOrder) (m t u : MapWhile (Range ℕ) F) (a z : P × Option StandingOrder) → m.f ≡ f → length os ≤ m.iter.end → a.0 ≡ p → Yields steps m ys t → steps t None u
      → FoldsTo {P = P × Option StandingOrder} (λ c x d. Called turn c.0 (c.1, (x, tt)) d.1 d.0) a ys z → nearest n (as_plain a.1) (drop m.iter.start (ranked s os)) ≡ as_plain z.1
  walks [] m t u a z e l k y w c =
      let d = subst (λ v. steps v None u) (sym y) w in
      ap (nearest n (as_plain a.1)) (ended m u e l d.0 d.1 d.2) ∙ ap (λ v. as_plain v.1) c
  walks (x ∷ ys) m t u a z e l k y w c =
      let v = y.0 in
      let h = shown m v e x y.1.0 y.1.1 y.1.2 in
      let b = turned a.1 x c.0.1 c.0.0 (subst (λ q. Called turn q (a.1, (x, tt)) c.0.1 c.0.0) k c.1) in
      let rest = walks ys v t u c.0 z h.0 (omega (arith, h.1)) b.0 y.2 w c.2 in
      ap (nearest n (as_plain a.1)) (place_some (ranked s os) m.iter.start (plain x) h.3).1
      ∙ ap (λ q. nearest n q (drop (m.iter.start + 1) (ranked s os))) (sym b.1)
      ∙ ap (λ i. nearest n (as_plain c.0.1) (drop i (ranked s os))) (sym h.2)
      ∙ rest

-- the answers of both sides give the order with the next higher number
pub after_both : (hi n : ℕ) (os : List Order) (buy sell r : Option Order) → Standing 0 os hi
    → buy ≡ next_above n (of_side Buy os) → sell ≡ next_above n (of_side Sell os) → r ≡ lower_numbered buy sell → r ≡ next_above n os
after_both hi n os buy sell r h b s e = e ∙ ap (λ x. lower_numbered x sell) b ∙ ap (λ x. lower_numbered (next_above n (of_side Buy os)) x) s ∙ of_both_sides 0 hi n os h
