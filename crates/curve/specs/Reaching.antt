-- What is left of the orders that allow a price, counted in rank.
use Rattle.std.specs.Prelude.{◌≡◌, ℕ, ◌+◌, ◌*◌, ◌≤◌, true, cond, List, [], ◌∷◌, length, drop, Some, None, Option}
use Rattle.model.specs.declared.types.Side.{Side}
use Rattle.model.specs.declared.types.OrderPrice.TheVariants.{Limit}
use Rattle.model.specs.declared.types.Order.{Order}
use Rattle.model.specs.Numbers.{max_quantity}
use Rattle.model.specs.Grid.{Settings}
use Rattle.model.specs.Curve.{allows}
use Rattle.model.specs.Rank.{ranked}
use Rattle.book.specs.Plain.{plain}
use Rattle.walking.specs.declared.placed.Placed.{Placed}
use Rattle.walking.specs.Walks.{actives, Found}
use Rattle.curve.specs.declared.marks.Mark.{Mark}

-- what is left of those orders that allow p
abbrev pub left_at : Side → ℕ → List Order → ℕ
left_at s p [] = 0
left_at s p (o ∷ os) = cond (allows s o.price p) o.left 0 + left_at s p os

-- the active orders that a count has yet to come to
abbrev pub waiting : Settings → List Order → Option Placed → List Order
waiting g xs None = []
waiting g xs (Some f) = actives g (drop f.place xs)

-- the total of a mark, with what the orders that wait have left at p
abbrev pub onward : Settings → Side → List Order → Mark → ℕ → ℕ
onward g s xs m p = m.total + left_at s p (waiting g xs m.next)

-- how many places in rank a count has passed, of n in all
abbrev pub passed : ℕ → Option Placed → ℕ
passed n None = n
passed n (Some f) = f.place

-- the order that is next is active, and stands at its place
abbrev pub Waits : Settings → List Order → Option Placed → Type 0
Waits g xs None = Unit {0}
Waits g xs (Some f) = Found g xs f.place f.place (plain f.order)

-- a mark in the ranking of os, its total no more than the orders before it can have left
pub record Counted (g : Settings) (s : Side) (os : List Order) (m : Mark) : Type 0 where
  pub small : m.total ≤ max_quantity * passed (length os) m.next
  pub next : Waits g (ranked s os) m.next

-- from the mark m the mark r is reached at p: all at p is counted, and nothing is lost at a price that the limit p allows
pub record Reached (g : Settings) (s : Side) (xs : List Order) (p : ℕ) (m r : Mark) : Type 0 where
  pub further : (q : ℕ) → allows s (Limit p) q ≡ true → onward g s xs r q ≡ onward g s xs m q
  pub none_left : left_at s p (waiting g xs r.next) ≡ 0
