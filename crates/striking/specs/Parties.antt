-- The orders of a side that may trade at a price, walked in rank.
use Rattle.std.specs.Prelude.{◌≡◌, ℕ, ◌+◌, ◌<◌, ◌≤◌, List, [], ◌∷◌, drop, Some, None, filter, Option}
use Rattle.model.specs.declared.types.Side.{Side}
use Rattle.model.specs.declared.types.Order.{Order}
use Rattle.model.specs.Grid.{Settings}
use Rattle.model.specs.Curve.{allows}
use Rattle.model.specs.Rank.{ranked}
use Rattle.book.specs.Plain.{plain}
use Rattle.book.specs.Meaning.{max_capacity}
use Rattle.walking.specs.Walks.{actives}
use Rattle.walking.specs.declared.placed.Placed.{Placed}

-- those of some orders of side s that allow p
abbrev pub willing : Side → ℕ → List Order → List Order
willing s p os = filter (λ o. allows s o.price p) os

-- the active orders of a side that allow p, from a place in rank on
abbrev pub parties : Settings → Side → ℕ → ℕ → List Order → List Order
parties g s p from os = willing s p (actives g (drop from (ranked s os)))

-- no active order of a side stands before a place in rank
abbrev pub Passed : Settings → Side → List Order → ℕ → Type 0
Passed g s os from = actives g (drop from (ranked s os)) ≡ actives g (ranked s os)

-- o is the first party at or after the place `from`, and k is its place, from 0
pub record Leads (g : Settings) (s : Side) (p : ℕ) (os : List Order) (from k : ℕ) (o : Order) : Type 0 where
  pub place : k < max_capacity
  pub some : 1 ≤ o.left
  pub here : drop k (ranked s os) ≡ o ∷ drop (k + 1) (ranked s os)
  pub none_between : actives g (drop from (ranked s os)) ≡ actives g (drop k (ranked s os))
  pub onward : actives g (drop from (ranked s os)) ≡ o ∷ actives g (drop (k + 1) (ranked s os))
  pub first : parties g s p from os ≡ o ∷ parties g s p (k + 1) os

-- the first party, or none where no party is left
abbrev pub First : Settings → Side → ℕ → List Order → ℕ → Option Placed → Type 0
First g s p os from None = parties g s p from os ≡ []
First g s p os from (Some f) = Leads g s p os from f.place (plain f.order)
