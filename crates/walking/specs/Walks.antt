-- A walk over the active orders of a side, in rank.
use Rattle.std.specs.Prelude.{◌≡◌, ℕ, ◌+◌, ◌<◌, ◌≤◌, List, [], ◌∷◌, length, drop, Some, None, filter, Option}
use Rattle.model.specs.declared.types.Order.{Order}
use Rattle.model.specs.Grid.{Settings, active}
use Rattle.book.specs.Meaning.{place as nth}
use Rattle.book.specs.Plain.{plain}
use Rattle.walking.specs.declared.placed.Placed.{Placed}

-- the active ones of some orders
abbrev pub actives : Settings → List Order → List Order
actives g os = filter (λ o. active g o.price) os

-- o is the first active order of xs at or after the place `from`, and k is its place, from 0
pub record Found (g : Settings) (xs : List Order) (from k : ℕ) (o : Order) : Type 0 where
  pub later : from ≤ k
  pub place : k < length xs
  pub here : drop k xs ≡ o ∷ drop (k + 1) xs
  pub none_between : actives g (drop from xs) ≡ actives g (drop k xs)
  pub onward : actives g (drop from xs) ≡ o ∷ actives g (drop (k + 1) xs)

-- the first active order, with its place, or none where no active order is left
abbrev pub Next : Settings → List Order → ℕ → Option Placed → Type 0
Next g xs from None = actives g (drop from xs) ≡ []
Next g xs from (Some f) = Found g xs from f.place (plain f.order)

-- the order at a place, from 0, or none past the end
abbrev pub StandsAt : List Order → ℕ → Option Placed → Type 0
StandsAt xs i None = None ≡ nth (i + 1) xs
StandsAt xs i (Some f) = (f.place ≡ i) × (Some (plain f.order) ≡ nth (i + 1) xs)
