-- The queues of the two sides in one slice.
use Rattle.std.specs.Prelude.{◌≡◌, ℕ, ◌+◌, ◌<◌, true, cond, List, [], ◌∷◌, length, take}
use Rattle.std.specs.List.{AllByRecursion}
use Rattle.model.specs.declared.types.Side.{Side}
use Rattle.model.specs.declared.types.Side.TheVariants.{Buy, Sell}
use Rattle.model.specs.declared.types.Order.{Order}
use Rattle.model.specs.Rank.{same_side, before}
use Rattle.ranked.specs.Views.{view}
use Rattle.ranked.specs.declared.sides.Sides.{Sides}

-- one of two numbers, by the side
abbrev pub by_side : Side → ℕ → ℕ → ℕ
by_side Buy b s = b
by_side Sell b s = s

-- how many orders a side has
abbrev pub count_of : Side → Sides → ℕ
count_of s h = by_side s h.buys h.sells

-- how many rows there are
abbrev pub capacity_of : Sides → ℕ
capacity_of h = length h.rows.now

-- the orders of a side, the first in rank first
unfoldable pub queue : Side → Sides → List Order
queue s h = take (count_of s h) (view s h.rows.now)

-- each order ranks before all behind it
abbrev pub Descends : Side → List Order → Type 0
Descends s [] = Unit {0}
Descends s (x ∷ xs) = AllByRecursion (λ y. before s x y ≡ true) xs × Descends s xs

-- a row between the two queues is free
abbrev pub HasRoom : Sides → Type 0
HasRoom h = h.buys + h.sells < capacity_of h

-- the queue of a side is xs, the other is as it was, and there are as many rows
pub record Changed (s : Side) (xs : List Order) (h k : Sides) : Type 0 where
  pub queues : (t : Side) → queue t k ≡ cond (same_side t s) xs (queue t h)
  pub room : capacity_of k ≡ capacity_of h
