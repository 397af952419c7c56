-- Walks over orders in rank, one place at a time.
use Rattle.std.proofs.Common.{◌≡◌, ℕ, ◌+◌, ◌≤◌, Bool, true, false, List, [], ◌∷◌, length, drop, Some, None, Option, Bor, sym, refl, ap, ◌∙◌, subst, arith}
use Rattle.std.proofs.lemmas.Bool.{cond-true, cond-false}
use Rattle.std.proofs.iter.Yields.{nat_range_steps}
use Rattle.std.specs.declared.iter.MapWhile.{MapWhile}
use Rattle.std.specs.declared.ops.Range.{Range}
use Rattle.std.specs.Iterator.{Yields}
use Rattle.std.specs.Iterator.Adapters.{map_while_steps}
use Rattle.std.specs.List.{FoldsTo}
use Rattle.std.specs.Option.{MatchOption, IfSome}
use Rattle.std.specs.Fn.{Called, CalledAt}
use denote.Param.Members.{Mut}
use Rattle.model.specs.declared.types.Order.{Order}
use Rattle.model.specs.declared.types.Side.{Side}
use Rattle.model.specs.Grid.{Settings, active}
use Rattle.model.specs.Rank.{ranked}
use Rattle.book.specs.Meaning.{place}
use Rattle.book.specs.Plain.{plain}
use Rattle.book.proofs.Places.{place_some, place_none, past_all}
use Rattle.walking.specs.declared.placed.Placed.{Placed}
use Rattle.walking.specs.Walks.{actives, Found, Next, StandsAt}

-- at the end
pub active_all : (g : Settings) (s : Side) (os : List Order) (i : ℕ) → length os ≤ i → actives g (drop i (ranked s os)) ≡ []
active_all g s os i h = ap (actives g) (past_all s os i h)

-- one order on
module _ (g : Settings) (xs : List Order) (i : ℕ) (o : Order) (h : Some o ≡ place (i + 1) xs) where
  active_here : true ≡ active g o.price → actives g (drop i xs) ≡ o ∷ actives g (drop (i + 1) xs)
  active_here a = ap (actives g) (place_some xs i o h).1 ∙ cond-true (active g o.price) _ _ (sym a)

  active_past : false ≡ active g o.price → actives g (drop i xs) ≡ actives g (drop (i + 1) xs)
  active_past a = ap (actives g) (place_some xs i o h).1 ∙ cond-false (active g o.price) _ _ (sym a)

-- an inactive order is passed over
next_past : (g : Settings) (xs : List Order) (i : ℕ) (r : Option Placed) → actives g (drop i xs) ≡ actives g (drop (i + 1) xs) → Next g xs (i + 1) r → Next g xs i r
next_past g xs i None e n = e ∙ n
next_past g xs i (Some f) e n = record { later = omega (arith, n.later); place = n.place; here = n.here; none_between = e ∙ n.none_between; onward = e ∙ n.onward }

-- the chain: places are asked one after another, and the first active order is the answer
module _ {F P : Type 0} (ask : Mut F (ℕ × Unit {0}) (Option Placed)) (test : Mut P (Bor Placed × Unit {0}) Bool) (g : Settings) (s : Side) (os : List Order) (f : F) (p : P)
    (asked : (i : ℕ) (r : Option Placed) (f' : F) → Called ask f (i, tt) r f' → (f' ≡ f) × StandsAt (ranked s os) i r)
    (tested : (y : Placed) (b : Bool) (p' : P) → CalledAt test p y b p' → (p' ≡ p) × (b ≡ active g (plain y.order).price)) where
  abbrev steps : MapWhile (Range ℕ) F → Option Placed → MapWhile (Range ℕ) F → Type 0
  steps = map_while_steps nat_range_steps ask

  module _ (m u : MapWhile (Range ℕ) F) (e : m.f ≡ f) where
    abbrev Gave : Option ℕ → Option Placed → Type 0
    Gave o r = MatchOption o ((r ≡ None) × (u.f ≡ m.f)) (λ i. Called ask m.f (i, tt) r u.f)

    ended : length os ≤ m.iter.end → (o : Option ℕ) → nat_range_steps m.iter o u.iter → Gave o None → actives g (drop m.iter.start (ranked s os)) ≡ []
    ended l None r c = active_all g s os m.iter.start (omega (arith, r.1.0))
    ended l (Some i) r c = ap (actives g) (place_none (ranked s os) m.iter.start (subst (λ n. None ≡ place (n + 1) (ranked s os)) r.1.1 (asked i None u.f (subst (λ h. Called ask h (i, tt) None u.f) e c)).1))

    shown : (y : Placed) (o : Option ℕ) → nat_range_steps m.iter o u.iter → Gave o (Some y)
        → (u.f ≡ f) × (u.iter.end ≡ m.iter.end) × (u.iter.start ≡ m.iter.start + 1) × StandsAt (ranked s os) m.iter.start (Some y)
    shown y None r c = absurd cc
    shown y (Some i) r c =
        let a = asked i (Some y) u.f (subst (λ h. Called ask h (i, tt) (Some y) u.f) e c) in
        (a.0, r.0, r.1.2, subst (λ n. StandsAt (ranked s os) n (Some y)) r.1.1 a.1)

    -- at the last call
    last : length os ≤ m.iter.end → (r : Option Placed) → steps m r u → IfSome r (λ y. (h : P) × CalledAt test p y true h) → Next g (ranked s os) m.iter.start r
    last l None z k = ended l z.0 z.1 z.2
    last l (Some y) z k =
        let xs = ranked s os in
        let i = m.iter.start in
        let o = plain y.order in
        let a = (shown y z.0 z.1 z.2).3 in
        let here = active_here g xs i o a.1 (tested y true k.0 k.1).1 in
        let found = place_some xs i o a.1 in
        subst (λ n. Found g xs i n o) (sym a.0) record { later = omega arith; place = found.0; here = found.1; none_between = refl; onward = here }

  pub walks : (ys : List Placed) (m t u : MapWhile (Range ℕ) F) (r : Option Placed) (q : P) → m.f ≡ f → length os ≤ m.iter.end → Yields steps m ys t → steps t r u
      → FoldsTo (λ a y b. CalledAt test a y false b) p ys q → IfSome r (λ y. (h : P) × CalledAt test q y true h) → Next g (ranked s os) m.iter.start r
  walks [] m t u r q e l y z w k = last m u e l r (subst (λ v. steps v r u) (sym y) z) (subst (λ v. IfSome r (λ x. (h : P) × CalledAt test v x true h)) (sym w) k)
  walks (x ∷ ys) m t u r q e l y z w k =
      let v = y.0 in
      let a = shown m v e x y.1.0 y.1.1 y.1.2 in
      let b = tested x false w.0 w.1 in
      let rest = walks ys v t u r q a.0 (omega (arith, a.1)) y.2 z (subst (λ d. FoldsTo (λ c y b. CalledAt test c y false b) d ys q) b.0 w.2) k in
      next_past g (ranked s os) m.iter.start r (active_past g (ranked s os) m.iter.start (plain x.order) a.3.1 b.1) (subst (λ n. Next g (ranked s os) n r) a.2 rest)
