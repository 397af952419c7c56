-- An order that meets the standing orders: what its fills take of it and of them, and where it stops.
use Rattle.std.proofs.Common.{◌≡◌, ℕ, ◌+◌, ◌-◌, ◌<◌, ◌≤◌, min, Bool, true, false, cond, not, ◌||◌, eqb, ◌⊎◌, List, [], ◌∷◌, map, filter, refl, inl, inr, arith}
use Rattle.std.specs.List.{AllByRecursion}
use Rattle.std.proofs.ByRecursion.{all-has, All-weaker}
use Rattle.std.proofs.lemmas.Bool.{both_ways, cond_both, cond-true, eq-eqb, eqb-true, le-leb, leb-false, leb-true, lt-leb, ne_eqb, not-true, or_cases, or_left, or_right}
use Rattle.model.specs.Types.{Side, Buy, Sell, OrderPrice, Market, Limit, Order}
use Rattle.model.specs.Grid.{Settings, up, active}
use Rattle.model.specs.Rank.{opposite, same_side}
use Rattle.model.specs.Curve.{allows}
use Rattle.model.specs.Orders.{Standing, is_market, lower, left_in}
use Rattle.model.specs.Records.{total_traded, total_withdrawn}
use Rattle.model.specs.Trading.{limit, Fill, Met, met, add_fill, meet, active_in_rank, trade_of, after_fills}
use Rattle.model.specs.Laws.{TwoParties}
use Rattle.model.proofs.Lists.{Pairwise, all_from_has}
use Rattle.model.proofs.Ranking.{Wider}
use Rattle.model.proofs.Standing.{counts, lower_left, lower_standing, left_kept_both}
use Rattle.model.proofs.Taken.{left_in_ranked}

-- what some fills take of a standing order, and of the order that is entered
abbrev pub filled_of : ℕ → List Fill → ℕ
filled_of n [] = 0
filled_of n (f ∷ fs) = cond (eqb f.against n) f.quantity 0 + filled_of n fs

abbrev pub filled_quantity : List Fill → ℕ
filled_quantity [] = 0
filled_quantity (f ∷ fs) = f.quantity + filled_quantity fs

-- no more than is left of each, and all but what remains
pub meet_limited : (n : ℕ) (in_band : ℕ → Bool) (s : Side) (p : OrderPrice) (remaining : ℕ) (os : List Order) → filled_of n (meet in_band s p remaining os).fills ≤ left_in os n
meet_limited n in_band s p remaining [] = omega arith
meet_limited n in_band s p remaining (o ∷ os) =
    let q : ℕ = min remaining o.left in
    let i = meet_limited n in_band s p (remaining - q) os in
    let P : Met → Type 0 = λ m. filled_of n m.fills ≤ left_in (o ∷ os) n in
    cond_both (eqb remaining 0 || not (allows s p (limit o.price))) _ _ P
    (λ _. omega arith)
    (λ _. cond_both (in_band (limit o.price)) _ _ P
    (λ _. elim (eqb o.number n) as (λ v. cond v q 0 + filled_of n (meet in_band s p (remaining - q) os).fills ≤ cond v o.left 0 + left_in os n) [ true ↦ omega arith | false ↦ omega arith ])
    (λ _. omega arith))

pub meet_whole : (in_band : ℕ → Bool) (s : Side) (p : OrderPrice) (remaining : ℕ) (os : List Order)
    → filled_quantity (meet in_band s p remaining os).fills + (meet in_band s p remaining os).remaining ≡ remaining
meet_whole in_band s p remaining [] = omega arith
meet_whole in_band s p remaining (o ∷ os) =
    let q : ℕ = min remaining o.left in
    let i = meet_whole in_band s p (remaining - q) os in
    let P : Met → Type 0 = λ m. filled_quantity m.fills + m.remaining ≡ remaining in
    cond_both (eqb remaining 0 || not (allows s p (limit o.price))) _ _ P
    (λ _. omega arith)
    (λ _. cond_both (in_band (limit o.price)) _ _ P (λ _. omega arith) (λ _. omega arith))

pub left_active_in_rank : (g : Settings) (s : Side) (n : ℕ) (os : List Order) → left_in (active_in_rank g s os) n ≤ left_in os n
left_active_in_rank g s n os =
    let a = left_in_ranked s n (filter (λ o. active g o.price) os) in
    let c = left_kept_both (λ o. same_side s o.side) n (filter (λ o. active g o.price) os) in
    let d = left_kept_both (λ o. active g o.price) n os in
    omega arith

-- after fills within what is left, the orders stand, lowered by just the fills
module _ (hi : ℕ) where
  pub fills_standing : (lo : ℕ) (fs : List Fill) (os : List Order) → Standing lo os hi → Standing lo (after_fills fs os) hi
  fills_standing lo [] os h = h
  fills_standing lo (f ∷ fs) os h = fills_standing lo fs (lower f.against f.quantity os) (lower_standing lo hi f.against f.quantity os h)

  pub fills_left : (lo : ℕ) (fs : List Fill) (os : List Order) → Standing lo os hi → ((n : ℕ) → filled_of n fs ≤ left_in os n) → (n : ℕ)
      → left_in (after_fills fs os) n + filled_of n fs ≡ left_in os n
  fills_left lo [] os h lim n = omega arith
  fills_left lo (f ∷ fs) os h lim n =
      let a : ℕ = f.against in
      let q : ℕ = f.quantity in
      let own = counts a a q refl in
      let la = lim a in
      let fits : q ≤ left_in os a = omega arith in
      let i = fills_left lo fs (lower a q os) (lower_standing lo hi a q os h) (λ m. let k = lower_left lo hi a q m os h fits in let l = lim m in omega arith) n in
      let k = lower_left lo hi a q n os h fits in
      omega arith

-- the trades of the fills, under the entered order's number and under any other
pub traded_fills_own : (s : Side) (m : ℕ) (fs : List Fill) → total_traded m (map (trade_of s m) fs) ≡ filled_quantity fs
traded_fills_own s m [] = refl
traded_fills_own Buy m (f ∷ fs) =
    let i = traded_fills_own Buy m fs in
    let c = cond-true (eqb m m || eqb f.against m) f.quantity 0 (or_left (eqb m m) (eqb f.against m) (eq-eqb m m refl)) in
    omega arith
traded_fills_own Sell m (f ∷ fs) =
    let i = traded_fills_own Sell m fs in
    let c = cond-true (eqb f.against m || eqb m m) f.quantity 0 (or_right (eqb f.against m) (eqb m m) (eq-eqb m m refl)) in
    omega arith

or_false : (b : Bool) → (b || false) ≡ b
or_false true = refl
or_false false = refl

pub traded_fills_other : (s : Side) (m n : ℕ) (fs : List Fill) → (m ≡ n → ⊥) → total_traded n (map (trade_of s m) fs) ≡ filled_of n fs
traded_fills_other s m n [] h = refl
traded_fills_other Buy m n (f ∷ fs) h =
    let i = traded_fills_other Buy m n fs h in
    rw (ne_eqb m n h) (omega arith)
traded_fills_other Sell m n (f ∷ fs) h =
    let i = traded_fills_other Sell m n fs h in
    rw (ne_eqb m n h, or_false) (omega arith)

pub withdrawn_fills : (s : Side) (m n : ℕ) (fs : List Fill) → total_withdrawn n (map (trade_of s m) fs) ≡ 0
withdrawn_fills s m n [] = refl
withdrawn_fills Buy m n (f ∷ fs) = withdrawn_fills Buy m n fs
withdrawn_fills Sell m n (f ∷ fs) = withdrawn_fills Sell m n fs

-- an order that does not allow one of the other side does not allow a later one
later_not_allowed : (s : Side) (p a c : OrderPrice) → is_market a ≡ false → is_market c ≡ false → Wider (opposite s) a c → allows s p (limit a) ≡ false
    → allows s p (limit c) ≡ false
later_not_allowed s Market a c na nc w h = absurd (both_ways true h refl)
later_not_allowed s (Limit l) Market c na nc w h = absurd (both_ways true na refl)
later_not_allowed s (Limit l) (Limit x) Market na nc w h = absurd (both_ways true nc refl)
later_not_allowed Buy (Limit l) (Limit x) (Limit y) na nc w h = lt-leb y l (omega (arith, leb-false x l h, leb-true x y (w y (le-leb y y (omega arith)))))
later_not_allowed Sell (Limit l) (Limit x) (Limit y) na nc w h = lt-leb l y (omega (arith, leb-false l x h, leb-true y x (w y (le-leb y y (omega arith)))))

-- the fills took the whole of r, or price p does not allow it
abbrev pub Done : Side → OrderPrice → List Fill → Order → Type 0
Done s p fs r = (r.left ≤ filled_of r.number fs) ⊎ (allows s p (limit r.price) ≡ false)

done_more : (s : Side) (p : OrderPrice) (f : Fill) (fs : List Fill) (r : Order) → Done s p fs r → Done s p (f ∷ fs) r
done_more s p f fs r (inl l) = inl (omega arith)
done_more s p f fs r (inr e) = inr e

pub meet_done : (in_band : ℕ → Bool) (s : Side) (p : OrderPrice) (remaining : ℕ) (rs : List Order) → AllByRecursion (λ r. is_market r.price ≡ false) rs
    → Pairwise (λ x y. Wider (opposite s) x.price y.price) rs → (meet in_band s p remaining rs).interrupted ≡ false → 0 < (meet in_band s p remaining rs).remaining
    → AllByRecursion (Done s p (meet in_band s p remaining rs).fills) rs
meet_done in_band s p remaining [] lim up i l = tt
meet_done in_band s p remaining (r ∷ rs) lim up i l =
    cond_both (eqb remaining 0 || not (allows s p (limit r.price))) (met [] remaining false) (cond (in_band (limit r.price)) (add_fill f m) (met [] remaining true)) Fine
    (λ e i l. refused (or_cases (eqb remaining 0) (not (allows s p (limit r.price))) e) l)
    (λ e. cond_both (in_band (limit r.price)) (add_fill f m) (met [] remaining true) Fine
    (λ e i l. (
      inl (omega (arith, counts r.number r.number (min remaining r.left) refl, meet_whole in_band s p (remaining - min remaining r.left) rs)),
      All-weaker (Done s p m.fills) (Done s p (f ∷ m.fills)) (done_more s p f m.fills) rs (meet_done in_band s p (remaining - min remaining r.left) rs lim.1 up.1 i l),
    ))
    (λ e i l. absurd (both_ways true i refl)))
    i l
  where
    f : Fill
    f = record { against = r.number; price = limit r.price; quantity = min remaining r.left }

    m : Met
    m = meet in_band s p (remaining - min remaining r.left) rs

    Fine : Met → Type 0
    Fine x = x.interrupted ≡ false → 0 < x.remaining → AllByRecursion (Done s p x.fills) (r ∷ rs)

    refused : (eqb remaining 0 ≡ true) ⊎ (not (allows s p (limit r.price)) ≡ true) → 0 < remaining → AllByRecursion (Done s p []) (r ∷ rs)
    refused (inl z) l = absurd (omega (arith, eqb-true remaining 0 z))
    refused (inr n) l =
        let no : allows s p (limit r.price) ≡ false = not-true (allows s p (limit r.price)) n in
        (inr no, all_from_has (Done s p []) rs (λ x k. inr (later_not_allowed s p r.price x.price lim.0 (all-has (λ r. is_market r.price ≡ false) rs x lim.1 k) (all-has (λ y. Wider (opposite s) r.price y.price) rs x up.0 k) no)))

-- an order that is entered meets orders of the list that it is given
pub meet_against : (P : ℕ → Type 0) (in_band : ℕ → Bool) (s : Side) (p : OrderPrice) (remaining : ℕ) (os : List Order) → AllByRecursion (λ o. P o.number) os
    → AllByRecursion (λ f. P f.against) (meet in_band s p remaining os).fills
meet_against P in_band s p remaining [] h = tt
meet_against P in_band s p remaining (o ∷ os) h =
    let i = meet_against P in_band s p (remaining - min remaining o.left) os h.1 in
    let R : Met → Type 0 = λ m. AllByRecursion (λ f. P f.against) m.fills in
    cond_both (eqb remaining 0 || not (allows s p (limit o.price))) _ _ R (λ _. tt)
    (λ _. cond_both (in_band (limit o.price)) _ _ R (λ _. (h.0, i)) (λ _. tt))

pub fills_apart : (s : Side) (n : ℕ) (fs : List Fill) → AllByRecursion (λ f. f.against < n) fs → AllByRecursion TwoParties (map (trade_of s n) fs)
fills_apart s n [] h = tt
fills_apart Buy n (f ∷ fs) h = ((λ e. omega arith), fills_apart Buy n fs h.1)
fills_apart Sell n (f ∷ fs) h = ((λ e. omega arith), fills_apart Sell n fs h.1)
