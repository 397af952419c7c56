-- The places of a side's ranking, counted from 1.
use Rattle.std.proofs.Common.{◌≡◌, ℕ, ◌+◌, ◌<◌, ◌≤◌, List, [], ◌∷◌, length, drop, Some, None, sym, refl, ap, ◌∙◌, add-one, arith}
use Rattle.std.proofs.lemmas.List.{drop-drop, length-drop, drop_all}
use Rattle.model.specs.declared.types.Order.{Order}
use Rattle.model.specs.declared.types.Side.{Side}
use Rattle.model.specs.Rank.{ranked}
use Rattle.model.proofs.Lengths.{length_ranked}
use Rattle.book.specs.Meaning.{first, place}

first_some : (ys : List Order) (o : Order) → first ys ≡ Some o → (0 < length ys) × (ys ≡ o ∷ drop 1 ys)
first_some [] o h = let z : ◌≡◌ {A = ℕ} 0 1 = cc in absurd (omega arith)
first_some (y ∷ ys) o h = let e : y ≡ o = cc in (omega arith, ap (λ x. x ∷ ys) e)

first_none : (ys : List Order) → first ys ≡ None → ys ≡ []
first_none [] h = refl
first_none (y ∷ ys) h = let z : ◌≡◌ {A = ℕ} 0 1 = cc in absurd (omega arith)

-- what the (i + 1)-th order says of the orders after the first i
pub place_some : (xs : List Order) (i : ℕ) (o : Order) → Some o ≡ place (i + 1) xs → (i < length xs) × (drop i xs ≡ o ∷ drop (i + 1) xs)
place_some xs i o h =
    let k : first (drop i xs) ≡ Some o = rw add-one at (sym h) in
    let r = first_some (drop i xs) o k in
    (omega (arith, r.0, length-drop i xs), r.1 ∙ ap (λ ys. o ∷ ys) (drop-drop 1 i xs))

pub place_none : (xs : List Order) (i : ℕ) → None ≡ place (i + 1) xs → drop i xs ≡ []
place_none xs i h = let k : first (drop i xs) ≡ None = rw add-one at (sym h) in first_none (drop i xs) k

-- no order has a place past the end
pub past_all : (s : Side) (os : List Order) (i : ℕ) → length os ≤ i → drop i (ranked s os) ≡ []
past_all s os i h = drop_all i (ranked s os) (omega (arith, length_ranked s os))
