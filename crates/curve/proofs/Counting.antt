-- A count over the active orders of a side in rank, one order at a time.
use Rattle.std.proofs.Common.{◌≡◌, ℕ, ◌+◌, ◌-◌, ◌*◌, ◌<◌, ◌≤◌, true, false, List, [], ◌∷◌, length, drop, Some, None, Option, sym, refl, ap, ◌∙◌, subst, ⊎_elim, arith}
use Rattle.std.specs.List.{AllByRecursion}
use Rattle.std.proofs.ByRecursion.{All-weaker}
use Rattle.std.proofs.lemmas.Bool.{both_ways, cases_Bool, cond-false, cond-true}
use Rattle.std.proofs.lemmas.Bool.Decides.{nat_tests}
use Rattle.model.specs.declared.types.Side.{Side}
use Rattle.model.specs.declared.types.Side.TheVariants.{Buy, Sell}
use Rattle.model.specs.declared.types.OrderPrice.{OrderPrice}
use Rattle.model.specs.declared.types.OrderPrice.TheVariants.{Market, Limit}
use Rattle.model.specs.declared.types.Order.{Order}
use Rattle.model.specs.Numbers.{max_quantity}
use Rattle.model.specs.Grid.{Settings, active}
use Rattle.model.specs.Curve.{allows}
use Rattle.model.specs.Rank.{ranked}
use Rattle.model.proofs.Lists.{Pairwise, pairwise_drop, pairwise_kept}
use Rattle.model.proofs.Ranking.{Wider, ranked_wider}
use Rattle.book.specs.Plain.{plain}
use Rattle.walking.specs.declared.placed.Placed.{Placed}
use Rattle.walking.specs.Walks.{actives, Found, Next}
use Rattle.model.proofs.Lengths.{length_ranked}
use Rattle.curve.specs.declared.marks.Mark.{Mark}
use Rattle.curve.specs.Reaching.{left_at, waiting, onward, passed, Waits, Counted, Reached}

further_allows : (s : Side) (a : OrderPrice) (p q : ℕ) → allows s a p ≡ true → allows s (Limit p) q ≡ true → allows s a q ≡ true
further_allows s Market p q h k = refl
further_allows Buy (Limit l) p q h k = grind (arith, nat_tests)
further_allows Sell (Limit l) p q h k = grind (arith, nat_tests)

none_allows : (s : Side) (p : ℕ) (ys : List Order) → AllByRecursion (λ y. allows s y.price p ≡ false) ys → left_at s p ys ≡ 0
none_allows s p [] h = refl
none_allows s p (y ∷ ys) h = omega (arith, cond-false (allows s y.price p) y.left 0 h.0, none_allows s p ys h.1)

-- the first active order from a place on is the one that waits there
pub next_waits : (g : Settings) (xs : List Order) (from : ℕ) (r : Option Placed) → Next g xs from r → Waits g xs r × (waiting g xs r ≡ actives g (drop from xs))
next_waits g xs from None h = (tt, sym h)
next_waits g xs from (Some f) h = (
  record {
    later = omega arith;
    place = h.place;
    here = h.here;
    none_between = refl;
    onward = sym h.none_between ∙ h.onward;
  },
  sym h.none_between,
)

passed_on : (g : Settings) (xs : List Order) (n from : ℕ) (r : Option Placed) → from ≤ n → Next g xs from r → from ≤ passed n r
passed_on g xs n from None l h = l
passed_on g xs n from (Some f) l h = h.later

module _ (g : Settings) (s : Side) (os : List Order) (k : ℕ) (o : Order) (f : Found g (ranked s os) k k o) where
  -- an order that allows p is counted at p, and at each price that the limit p allows
  counts : (p q : ℕ) → allows s o.price p ≡ true → allows s (Limit p) q ≡ true
      → left_at s q (actives g (drop k (ranked s os))) ≡ o.left + left_at s q (actives g (drop (k + 1) (ranked s os)))
  counts p q h l = ap (left_at s q) f.onward ∙ ap (λ n. n + left_at s q (actives g (drop (k + 1) (ranked s os)))) (cond-true (allows s o.price q) o.left 0 (further_allows s o.price p q h l))

  -- after an order that does not allow p none does
  stops : (p : ℕ) → allows s o.price p ≡ false → left_at s p (actives g (drop k (ranked s os))) ≡ 0
  stops p h =
      let xs : List Order = ranked s os in
      let ys : List Order = actives g (drop (k + 1) xs) in
      let R : Order → Order → Type 0 = λ x y. Wider s x.price y.price in
      let w : Pairwise R (actives g (drop k xs)) = pairwise_kept R (λ x. active g x.price) (drop k xs) (pairwise_drop R k xs (ranked_wider s os)) in
      let v : Pairwise R (o ∷ ys) = subst (Pairwise R) f.onward w in
      let none : AllByRecursion (λ y. allows s y.price p ≡ false) (o ∷ ys) = (h, All-weaker (R o) (λ y. allows s y.price p ≡ false) (λ y r. ⊎_elim (λ t. absurd (both_ways (allows s o.price p) h (r p t))) (λ t. t) (cases_Bool (allows s y.price p))) ys v.0) in
      ap (left_at s p) f.onward ∙ none_allows s p (o ∷ ys) none

-- the mark m on the way from the mark `start` to p: nothing is lost at a price that the limit p allows
pub record Going (g : Settings) (s : Side) (os : List Order) (p : ℕ) (start m : Mark) : Type 0 where
  pub counted : Counted g s os m
  pub further : (q : ℕ) → allows s (Limit p) q ≡ true → onward g s (ranked s os) m q ≡ onward g s (ranked s os) start q

module _ (g : Settings) (s : Side) (os : List Order) (p : ℕ) (start : Mark) where
  pub going_first : Counted g s os start → Going g s os p start start
  going_first h = record { counted = h; further = λ q _. refl }

  module _ (m : Mark) (h : Going g s os p start m) where
    -- no active order is left
    pub ends : m.next ≡ None → Reached g s (ranked s os) p start m
    ends e = record { further = h.further; none_left = ap (λ r. left_at s p (waiting g (ranked s os) r)) e }

    module _ (f : Placed) (e : m.next ≡ Some f) where
      here : Found g (ranked s os) f.place f.place (plain f.order)
      here = subst (Waits g (ranked s os)) e h.counted.next

      -- the next active order has a place in the book
      pub found_small : (f.place < length os) × (m.total ≤ max_quantity * f.place)
      found_small = (
        let x = here in omega (arith, x.place, length_ranked s os),
        subst (λ r. m.total ≤ max_quantity * passed (length os) r) e h.counted.small,
      )

      pub going_past : allows s f.order.price p ≡ true → (r : Option Placed) → Next g (ranked s os) (f.place + 1) r
          → Going g s os p start (record { next = r; total = m.total + f.order.left }) × (length os - passed (length os) r < length os - passed (length os) m.next)
      going_past a r next =
          let small = found_small in
          let waits = next_waits g (ranked s os) (f.place + 1) r next in
          let on : f.place + 1 ≤ passed (length os) r = passed_on g (ranked s os) (length os) (f.place + 1) r (omega (arith, small.0)) next in (
            record {
              counted = record { small = omega (arith, small.1, on, f.order.left_high); next = waits.0 };
              further = λ q l. omega (arith, h.further q l, counts g s os f.place (plain f.order) here p q a l, ap (left_at s q) waits.1, ap (λ y. left_at s q (waiting g (ranked s os) y)) e);
            },
            omega (arith, small.0, on, ap (passed (length os)) e),
          )

      pub stops_at : allows s f.order.price p ≡ false → Reached g s (ranked s os) p start m
      stops_at a = record {
        further = h.further;
        none_left = ap (λ r. left_at s p (waiting g (ranked s os) r)) e ∙ stops g s os f.place (plain f.order) here p a;
      }

-- a count that has not begun
pub started : (g : Settings) (s : Side) (os : List Order) (r : Option Placed) → Next g (ranked s os) 0 r
    → Counted g s os (record { next = r; total = 0 }) × ((q : ℕ) → onward g s (ranked s os) (record { next = r; total = 0 }) q ≡ left_at s q (actives g (ranked s os)))
started g s os r h = let waits = next_waits g (ranked s os) 0 r h in (record { small = omega arith; next = waits.0 }, λ q. omega (arith, ap (left_at s q) waits.1))
