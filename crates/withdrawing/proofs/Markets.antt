-- The market orders of a book, counted from the front of each side's ranking.
use Rattle.std.proofs.Common.{◌≡◌, ℕ, suc, ◌+◌, ◌-◌, ◌≤◌, Bool, true, false, not, List, [], ◌∷◌, length, drop, Some, None, filter, Option, sym, refl, ap, ◌∙◌, subst, arith}
use denote.Param.Members.{Mut}
use Rattle.std.specs.declared.ops.Range.{Range}
use Rattle.std.specs.Iterator.{Yields}
use Rattle.std.specs.List.{AllByRecursion, FoldsTo}
use Rattle.std.specs.Option.{MatchOption, unwrap_or}
use Rattle.std.specs.Fn.{Called}
use Rattle.std.proofs.iter.Yields.{nat_range_steps}
use Rattle.std.proofs.lemmas.Bool.{cond-true, cond-false}
use Rattle.model.specs.declared.types.Order.{Order}
use Rattle.model.specs.declared.types.OrderPrice.{OrderPrice}
use Rattle.model.specs.declared.types.OrderPrice.TheVariants.{Market, Limit}
use Rattle.model.specs.declared.types.Side.{Side}
use Rattle.model.specs.Orders.{Standing, is_market}
use Rattle.model.specs.Rank.{price_first, before, ranked}
use Rattle.model.specs.Calls.{is_market_order}
use Rattle.model.proofs.Lists.{Pairwise, pairwise_drop}
use Rattle.model.proofs.Ranking.{ranked_strictly}
use Rattle.model.proofs.Standing.{standing_distinct}
use Rattle.book.specs.Meaning.{place}
use Rattle.book.proofs.Places.{place_some, place_none, past_all}
use Rattle.withdrawing.specs.Markets.{market_found}

-- the market orders among some orders
abbrev pub markets : List Order → List Order
markets os = filter is_market_order os

-- at a market order there is one more
market_here : (xs : List Order) (n : ℕ) (r : Option Order) → r ≡ place (n + 1) xs → market_found r ≡ true → length (markets (drop n xs)) ≡ suc (length (markets (drop (n + 1) xs)))
market_here xs n None e h = absurd cc
market_here xs n (Some o) e h = ap (λ l. length (markets l)) (place_some xs n o e).1 ∙ ap length (cond-true (is_market_order o) (o ∷ markets (drop (n + 1) xs)) (markets (drop (n + 1) xs)) h)

-- no market order ranks behind a limit order
before_no_market : (s : Side) (p q : OrderPrice) (earlier : Bool) → is_market p ≡ false → price_first s p q earlier ≡ true → is_market q ≡ false
before_no_market s Market q earlier m h = absurd cc
before_no_market s (Limit p) Market earlier m h = absurd cc
before_no_market s (Limit p) (Limit q) earlier m h = refl

no_markets : (s : Side) (x : Order) (xs : List Order) → is_market_order x ≡ false → AllByRecursion (λ y. before s x y ≡ true) xs → markets xs ≡ []
no_markets s x [] m h = refl
no_markets s x (y ∷ ys) m h = cond-false (is_market_order y) _ _ (before_no_market s x.price y.price _ m h.0) ∙ no_markets s x ys m h.1

-- so the first limit order, or the end, ends the count
market_end : (hi : ℕ) (s : Side) (os : List Order) (n : ℕ) (r : Option Order) → Standing 0 os hi → r ≡ place (n + 1) (ranked s os) → market_found r ≡ false → markets (drop n (ranked s os)) ≡ []
market_end hi s os n None st e h = ap markets (place_none (ranked s os) n e)
market_end hi s os n (Some o) st e h =
    let xs : List Order = ranked s os in
    let d : drop n xs ≡ o ∷ drop (n + 1) xs = (place_some xs n o e).1 in
    let w : Pairwise (λ x y. before s x y ≡ true) (o ∷ drop (n + 1) xs) = subst (Pairwise (λ x y. before s x y ≡ true)) d (pairwise_drop (λ x y. before s x y ≡ true) n xs (ranked_strictly s os (standing_distinct 0 hi os st))) in
    ap markets d ∙ cond-false (is_market_order o) _ _ h ∙ no_markets s o (drop (n + 1) xs) h w.0

not_from_true_not : (b : Bool) → true ≡ not b → b ≡ false
not_from_true_not true h = absurd cc
not_from_true_not false h = refl

not_from_false_not : (b : Bool) → false ≡ not b → b ≡ true
not_from_false_not true h = refl
not_from_false_not false h = absurd cc

-- places are asked one after another, up to the first limit order or the end: as many were passed as market orders stand
module _ {F : Type 0} (ask : Mut F (ℕ × Unit {0}) Bool) (hi : ℕ) (s : Side) (os : List Order) (st : Standing 0 os hi) (f : F)
    (asked : (i : ℕ) (b : Bool) (f' : F) → Called ask f (i, tt) b f' → (f' ≡ f) × (b ≡ not (market_found (place (i + 1) (ranked s os))))) where
  passed : (ys : List ℕ) (m t u : Range ℕ) (o : Option ℕ) (q : F) → length os ≤ m.end → Yields nat_range_steps m ys t → nat_range_steps t o u → FoldsTo (λ p x d. Called ask p (x, tt) false d) f ys q
      → MatchOption o (Unit {0}) (λ x. (h : F) × Called ask q (x, tt) true h)
      → (length (markets (drop m.start (ranked s os))) ≡ length ys) × MatchOption o (length ys ≡ m.end - m.start) (λ _. Unit {0})
  passed [] m t u None q l y z w k =
      let e : m.end - m.start ≡ 0 = subst (λ r. r.end - r.start ≡ 0) (sym y) z.1.0 in
      (ap (λ xs. length (markets xs)) (past_all s os m.start (omega (arith, e))), omega (arith, e))
  passed [] m t u (Some i) q l y z w k =
      let b = asked i true k.0 (subst (λ d. Called ask d (i, tt) true k.0) (sym w) k.1) in
      let at : i ≡ m.start = z.1.1 ∙ sym (ap (λ r. r.start) y) in
      (ap length (market_end hi s os m.start (place (m.start + 1) (ranked s os)) st refl (subst (λ n. market_found (place (n + 1) (ranked s os)) ≡ false) at (not_from_true_not _ b.1))), tt)
  passed (i ∷ ys) m t u o q l y z w k =
      let b = asked i false w.0 w.1 in
      let rest = passed ys y.0 t u o q (omega (arith, y.1.0)) y.2 z (subst (λ d. FoldsTo (λ p x d. Called ask p (x, tt) false d) d ys q) b.0 w.2) k in
      let here = market_here (ranked s os) m.start (place (m.start + 1) (ranked s os)) refl (subst (λ n. market_found (place (n + 1) (ranked s os)) ≡ true) y.1.1.1 (not_from_false_not _ b.1)) in
      let one : m.start + 1 ≡ y.0.start = sym y.1.1.2 in
      (omega (arith, here, ap (λ n. length (markets (drop n (ranked s os)))) one, rest.0), ends o rest.1)
    where
      ends : (o : Option ℕ) → MatchOption o (length ys ≡ y.0.end - y.0.start) (λ _. Unit {0}) → MatchOption o (length (i ∷ ys) ≡ m.end - m.start) (λ _. Unit {0})
      ends None e = omega (arith, e, y.1.0, y.1.1.0, y.1.1.2)
      ends (Some x) e = tt

  pub markets_passed : (ys : List ℕ) (m t u : Range ℕ) (o r : Option ℕ) (q : F) → m.start ≡ 0 → length os ≡ m.end → Yields nat_range_steps m ys t → nat_range_steps t o u → FoldsTo (λ p x d. Called ask p (x, tt) false d) f ys q
      → MatchOption o (r ≡ None) (λ x. (r ≡ Some (length ys)) × ((h : F) × Called ask q (x, tt) true h)) → unwrap_or r m.end ≡ length (markets (ranked s os))
  markets_passed ys m t u None r q a l y z w k =
      let p = passed ys m t u None q (omega (arith, l)) y z w tt in
      ap (λ x. unwrap_or x m.end) k ∙ omega (arith, a, p.0, p.1, ap (λ n. length (markets (drop n (ranked s os)))) a)
  markets_passed ys m t u (Some x) r q a l y z w k =
      let p = passed ys m t u (Some x) q (omega (arith, l)) y z w k.1 in
      ap (λ v. unwrap_or v m.end) k.0 ∙ omega (arith, p.0, ap (λ n. length (markets (drop n (ranked s os)))) a)
