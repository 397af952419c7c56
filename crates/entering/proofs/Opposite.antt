-- What an order meets: how many fills at most, and the bounds of their prices.
use Rattle.std.proofs.Common.{◌≡◌, ℕ, ◌+◌, ◌-◌, ◌*◌, ◌≤◌, min, Bool, true, not, ◌||◌, eqb, leb, List, [], ◌∷◌, length, filter, Some, None, Option, IfSome, arith}
use native.Mathlib.Nat.{one-le-mul}
use Rattle.std.specs.List.{AllByRecursion}
use Rattle.std.proofs.ByRecursion.{all_kept_by, All-weaker}
use Rattle.std.proofs.lemmas.Bool.{cond_both, and_parts, and_from, le-leb, leb-true}
use Rattle.model.specs.declared.types.Order.{Order}
use Rattle.model.specs.declared.types.OrderPrice.{OrderPrice}
use Rattle.model.specs.declared.types.OrderPrice.TheVariants.{Limit}
use Rattle.model.specs.declared.types.Side.{Side}
use Rattle.model.specs.Numbers.{max_price}
use Rattle.model.specs.Grid.{Settings, within, active}
use Rattle.model.specs.Curve.{allows}
use Rattle.model.specs.Trading.{limit, Met, meet, active_in_rank}
use Rattle.model.proofs.Ranking.{of_side, all_ranked}
use Rattle.book.specs.Bounds.{Bounded, price_in_bounds}
use Rattle.model.proofs.Lengths.{length_ranked, length_kept_le}
use Rattle.meeting.specs.Plans.{last_price_or}

pub length_active : (g : Settings) (s : Side) (os : List Order) → length (active_in_rank g s os) ≤ length os
length_active g s os =
    let test : Order → Bool = λ o. active g o.price in
    omega (arith, length_ranked s (filter test os), length_kept_le test os)

all_active : (P : Order → Type 0) (g : Settings) (s : Side) (os : List Order) → AllByRecursion P os → AllByRecursion P (active_in_rank g s os)
all_active P g s os h =
    let test : Order → Bool = λ o. active g o.price in
    all_ranked P s (filter test os) (all_kept_by (of_side s) P (filter test os) (all_kept_by test P os h))

-- a price within a band of less than 100 percent is not 0
band_low : (w c p : ℕ) → w ≤ 99 → 1 ≤ c → within w c p ≡ true → 1 ≤ p
band_low w c p h k e =
    let some : 1 ≤ c * (100 - w) = one-le-mul k (omega arith) in
    omega (arith, leb-true (c * (100 - w)) (100 * p) (and_parts (leb (c * (100 - w)) (100 * p)) (leb (100 * p) (c * (100 + w))) e).0)

-- the price of the last fill, if there is one, is in bounds
abbrev pub FillInBounds : Option ℕ → Type 0
FillInBounds a = IfSome a (λ x. price_in_bounds (Limit x) ≡ true)

module _ (in_band : ℕ → Bool) (s : Side) (p : OrderPrice) where
  pub length_fills : (q : ℕ) (xs : List Order) → length (meet in_band s p q xs).fills ≤ length xs
  length_fills q [] = omega arith
  length_fills q (o ∷ os) =
      let P : Met → Type 0 = λ m. length m.fills ≤ length (o ∷ os) in
      let i = length_fills (q - min q o.left) os in
      cond_both (eqb q 0 || not (allows s p (limit o.price))) _ _ P (λ _. omega arith) (λ _. cond_both (in_band (limit o.price)) _ _ P (λ _. omega arith) (λ _. omega arith))

  last_in_bounds : ((x : ℕ) → in_band x ≡ true → 1 ≤ x) → (q : ℕ) (xs : List Order) → AllByRecursion (λ o. limit o.price ≤ max_price) xs → (a : Option ℕ) → FillInBounds a → FillInBounds (last_price_or a (meet in_band s p q xs).fills)
  last_in_bounds low q [] h a k = k
  last_in_bounds low q (o ∷ os) h a k =
      let x : ℕ = limit o.price in
      let P : Met → Type 0 = λ m. FillInBounds (last_price_or a m.fills) in
      cond_both (eqb q 0 || not (allows s p x)) _ _ P
      (λ _. k)
      (λ _. cond_both (in_band x) _ _ P
      (λ b. last_in_bounds low (q - min q o.left) os h.1 (Some x) (and_from (leb 1 x) (leb x max_price) (le-leb 1 x (low x b)) (le-leb x max_price h.0)))
      (λ _. k))

pub last_price_in_bounds : (g : Settings) (reference : ℕ) (s other : Side) (p : OrderPrice) (q : ℕ) (os : List Order) → g.static ≤ 99 → 1 ≤ reference → AllByRecursion Bounded os
    → FillInBounds (last_price_or None (meet (within g.static reference) s p q (active_in_rank g other os)).fills)
last_price_in_bounds g reference s other p q os w r h =
    last_in_bounds (within g.static reference) s p (λ x b. band_low g.static reference x w r b) q (active_in_rank g other os)
    (all_active (λ o. limit o.price ≤ max_price) g other os (All-weaker Bounded (λ o. limit o.price ≤ max_price) (λ o b. b.price_high) os h)) None tt
