-- How a lawful rule chooses: a call finds the first grid price at which the most trades, or none where nothing trades.
use Rattle.std.proofs.Common.{◌≡◌, ℕ, Bool, true, false, not, ◌&&◌, ◌||◌, ltb, List, [], ◌∷◌, Some, None, Option, sym, refl, subst, ⊎_elim, arith}
use Rattle.std.specs.List.{ContainsAt as Has, AllByRecursion}
use Rattle.std.proofs.ByRecursion.{all-has, All-weaker}
use Rattle.std.proofs.lemmas.Bool.{and_left, and_right, cases_Bool, cond_both, ltb-false, not_from_false, not_from_true, not-true, or_from, or_parts}
use Rattle.std.proofs.lemmas.Bool.Decides.{nat_tests}
use Rattle.model.specs.Types.{Order, Point}
use Rattle.model.specs.Grid.{Settings}
use Rattle.model.specs.Curve.{point, curve, traded}
use Rattle.model.specs.Rules.{Rule, over, most_traded, any, best, nearer, pick, target_among, choose, called}
use Rattle.model.specs.Auction.{if_trades, call_price}
use Rattle.model.specs.Lawful.{Lawful}
use Rattle.model.specs.Making.{Valid}
use Rattle.model.specs.Allocations.{target_in, FirstPrice, Found}
use Rattle.model.proofs.Lists.{has_here, has_there, has_none, has_cases, all_from_has, has_kept, kept_has}
use Rattle.model.proofs.GridPrices.{curve_has, has_curve, curve_not_empty}

-- a test over a rule is lawful where the test is
module _ (first : Point → Point → Bool) (asym : (a b : Point) → first a b ≡ true → first b a ≡ false) (split : (a b c : Point) → first a b ≡ true → (first a c || first c b) ≡ true) (r : Rule) (law : Lawful r) where
  over_asymmetric : (a b : Point) → (over first r).ahead a b ≡ true → (over first r).ahead b a ≡ false
  over_asymmetric a b h = grind (arith, asym a b, law.asymmetric a b)

  over_transitive : (a b c : Point) → (over first r).ahead a b ≡ true → ((over first r).ahead a c || (over first r).ahead c b) ≡ true
  over_transitive a b c h = grind (arith, split a b c, split b c a, split c a b, law.transitive a b c)

  over_lawful : Lawful (over first r)
  over_lawful = record { asymmetric = over_asymmetric; transitive = over_transitive }

pub most_traded_lawful : (r : Rule) → Lawful r → Lawful (most_traded r)
most_traded_lawful r law = over_lawful (λ a b. ltb (traded b) (traded a)) (λ a b h. grind (arith, nat_tests)) (λ a b c h. grind (arith, nat_tests)) r law

-- a test that no element passes
pub any_false : {X : Type 0} (p : X → Bool) (xs : List X) → any p xs ≡ false → AllByRecursion (λ x. p x ≡ false) xs
any_false p [] h = tt
any_false p (x ∷ xs) h = let r = or_parts (p x) (any p xs) h in (r.0, any_false p xs r.1)

pub false_any : {X : Type 0} (p : X → Bool) (xs : List X) → AllByRecursion (λ x. p x ≡ false) xs → any p xs ≡ false
false_any p [] h = refl
false_any p (x ∷ xs) h = or_from (p x) (any p xs) h.0 (false_any p xs h.1)

-- no point of ps goes ahead of x
abbrev pub Unbeaten : Rule → List Point → Point → Type 0
Unbeaten r ps x = AllByRecursion (λ y. r.ahead y x ≡ false) ps

-- the best points are the members that no point goes ahead of
pub best_has : (r : Rule) (ps : List Point) (x : Point) → Has (best r ps) x → Has ps x × Unbeaten r ps x
best_has r ps x h = let k = kept_has (λ p. not (any (λ q. r.ahead q p) ps)) ps x h in (k.0, any_false (λ q. r.ahead q x) ps (not-true (any (λ q. r.ahead q x) ps) k.1))

pub has_best : (r : Rule) (ps : List Point) (x : Point) → Has ps x → Unbeaten r ps x → Has (best r ps) x
has_best r ps x h u = has_kept (λ p. not (any (λ q. r.ahead q p) ps)) ps x h (not_from_false (any (λ q. r.ahead q x) ps) (false_any (λ q. r.ahead q x) ps u))

-- a point that an unbeaten point does not go ahead of is unbeaten
pub unbeaten_tie : (r : Rule) → Lawful r → (ps : List Point) (x y : Point) → Unbeaten r ps x → r.ahead x y ≡ false → Unbeaten r ps y
unbeaten_tie r law ps x y u n = All-weaker (λ z. r.ahead z x ≡ false) (λ z. r.ahead z y ≡ false) (λ z e. grind (arith, law.transitive z y x)) ps u

-- some member of a list that is not empty is unbeaten
pub unbeaten_exists : (r : Rule) → Lawful r → (p : Point) (ps : List Point) → (x : Point) × Has (p ∷ ps) x × Unbeaten r (p ∷ ps) x
unbeaten_exists r law p [] = (p, has_here p [], (grind (arith, law.asymmetric p p), tt))
unbeaten_exists r law p (q ∷ qs) =
    let w = unbeaten_exists r law q qs in
    ⊎_elim
    (λ e. (p, has_here p (q ∷ qs), (grind (arith, law.asymmetric p p), unbeaten_tie r law (q ∷ qs) w.0 p w.2 (law.asymmetric p w.0 e))))
    (λ e. (w.0, has_there p (q ∷ qs) w.0 w.1, (e, w.2)))
    (cases_Bool (r.ahead p w.0))

-- nearness is an order
nearer_asym : (target : ℕ) (a b : Point) → nearer target a b ≡ true → nearer target b a ≡ false
nearer_asym target a b h = grind (arith, nat_tests)

nearer_self : (target : ℕ) (a : Point) → nearer target a a ≡ false
nearer_self target a = grind (arith, nat_tests)

nearer_trans : (target : ℕ) (a b c : Point) → nearer target a b ≡ false → nearer target b c ≡ false → nearer target a c ≡ false
nearer_trans target a b c h k = grind (arith, nat_tests)

-- the point that is picked is one of the points, and none is nearer
pick_has : (target : ℕ) (p : Point) (qs : List Point) → Has (p ∷ qs) (pick target p qs)
pick_has target p [] = has_here p []
pick_has target p (q ∷ qs) =
    cond_both (nearer target q p) q p (λ w. Has (p ∷ q ∷ qs) (pick target w qs))
    (λ _. has_there p (q ∷ qs) (pick target q qs) (pick_has target q qs))
    (λ _. ⊎_elim (λ e. subst (Has (p ∷ q ∷ qs)) e (has_here p (q ∷ qs))) (λ k. has_there p (q ∷ qs) (pick target p qs) (has_there q qs (pick target p qs) k)) (has_cases p qs (pick target p qs) (pick_has target p qs)))

pick_nearest : (target : ℕ) (p : Point) (qs : List Point) → AllByRecursion (λ y. nearer target y (pick target p qs) ≡ false) (p ∷ qs)
pick_nearest target p [] = (nearer_self target p, tt)
pick_nearest target p (q ∷ qs) =
    cond_both (nearer target q p) q p (λ w. AllByRecursion (λ y. nearer target y (pick target w qs) ≡ false) (p ∷ q ∷ qs))
    (λ e. let r = pick_nearest target q qs in (nearer_trans target p q (pick target q qs) (nearer_asym target q p e) r.0, r))
    (λ e. let r = pick_nearest target p qs in (r.0, (nearer_trans target q p (pick target p qs) e r.0, r.1)))

-- x is the point of ps that a rule calls
pub record Chosen (r : Rule) (i : ℕ) (ps : List Point) (x : Point) : Type 0 where
  pub member : Has ps x
  pub unbeaten : Unbeaten r ps x
  pub first : AllByRecursion (λ y. (r.ahead y x || (not (r.ahead x y) && nearer (target_in r i ps) y x)) ≡ false) ps

chosen_top : (r : Rule) (i : ℕ) (tops : List Point) (x : Point) → choose r i tops ≡ Some x → Has tops x × AllByRecursion (λ y. nearer (target_among r i tops) y x ≡ false) tops
chosen_top r i [] x h = absurd (let z : ◌≡◌ {A = ℕ} 0 1 = cc in omega arith)
chosen_top r i (p ∷ qs) x h =
    let target : ℕ = target_among r i (p ∷ qs) in
    let e : pick target p qs ≡ x = cc in
    subst (λ w. Has (p ∷ qs) w × AllByRecursion (λ y. nearer target y w ≡ false) (p ∷ qs)) e (pick_has target p qs, pick_nearest target p qs)

pub called_chosen : (r : Rule) → Lawful r → (i : ℕ) (ps : List Point) (x : Point) → called r i ps ≡ Some x → Chosen r i ps x
called_chosen r law i ps x h =
    let t = chosen_top r i (best r ps) x h in
    let b = best_has r ps x t.0 in
    record {
      member = b.0;
      unbeaten = b.1;
      first = all_from_has (λ y. (r.ahead y x || (not (r.ahead x y) && nearer (target_in r i ps) y x)) ≡ false) ps (λ y k.
          or_from (r.ahead y x) (not (r.ahead x y) && nearer (target_in r i ps) y x) (all-has (λ z. r.ahead z x ≡ false) ps y b.1 k)
          (⊎_elim (λ e. and_left (not (r.ahead x y)) (nearer (target_in r i ps) y x) (not_from_true (r.ahead x y) e))
          (λ e. and_right (not (r.ahead x y)) (nearer (target_in r i ps) y x) (all-has (λ z. nearer (target_in r i ps) z x ≡ false) (best r ps) y t.1 (has_best r ps y k (unbeaten_tie r law ps x y b.1 e))))
          (cases_Bool (r.ahead x y))));
    }

-- among some points one is called
choose_some : (r : Rule) (i : ℕ) (tops : List Point) (y : Point) → Has tops y → (x : Point) × (choose r i tops ≡ Some x)
choose_some r i [] y h = absurd (has_none y h)
choose_some r i (p ∷ qs) y h = (pick (target_among r i (p ∷ qs)) p qs, refl)

called_some : (r : Rule) → Lawful r → (i : ℕ) (p : Point) (ps : List Point) → (x : Point) × (called r i (p ∷ ps) ≡ Some x)
called_some r law i p ps = let w = unbeaten_exists r law p ps in choose_some r i (best r (p ∷ ps)) w.0 (has_best r (p ∷ ps) w.0 w.1 w.2)

-- where no point is called there is none
pub called_none : (r : Rule) → Lawful r → (i : ℕ) (ps : List Point) → called r i ps ≡ None → ps ≡ []
called_none r law i [] h = refl
called_none r law i (p ∷ ps) h = let w = called_some r law i p ps in let e = w.1 in absurd (let z : ◌≡◌ {A = ℕ} 0 1 = cc in omega arith)

module _ (r : Rule) (law : Lawful r) (g : Settings) (valid : Valid g) (os : List Order) where
  called_best : (x : Point) → called (most_traded r) g.indicative (curve g os) ≡ Some x → FirstPrice r g os x
  called_best x e =
      let R : Rule = most_traded r in
      let a : ℕ = target_in R g.indicative (curve g os) in
      let c = called_chosen R (most_traded_lawful r law) g.indicative (curve g os) x e in
      let h = has_curve g valid os x c.member in
      record {
        on = h.0;
        is = h.1;
        most = λ q i.
            let y : Point = point g os q in
            ltb-false (traded x) (traded y) (or_parts (ltb (traded x) (traded y)) (not (ltb (traded y) (traded x)) && r.ahead y x) (all-has (λ z. R.ahead z x ≡ false) (curve g os) y c.unbeaten (curve_has g valid os q i))).0;
        first = λ q i.
            let y : Point = point g os q in
            subst (λ z. (R.ahead y z || (not (R.ahead z y) && nearer a y z)) ≡ false) (sym h.1)
            (all-has (λ z. (R.ahead z x || (not (R.ahead x z) && nearer a z x)) ≡ false) (curve g os) y c.first (curve_has g valid os q i));
      }

  pub call_price_found : Found r g os (call_price r g os)
  call_price_found = go (called (most_traded r) g.indicative (curve g os)) refl
    where
      go : (c : Option Point) → called (most_traded r) g.indicative (curve g os) ≡ c → Found r g os (if_trades c)
      go None e = absurd (curve_not_empty g valid os (called_none (most_traded r) (most_traded_lawful r law) g.indicative (curve g os) e))
      go (Some x) e =
          let k = called_best x e in
          cond_both (ltb 0 (traded x)) (Some x) None (Found r g os) (λ _. k) (λ t q i. omega (arith, k.most q i, ltb-false 0 (traded x) t))
