-- What the operations of a book answer, and what holds of every book.
use Rattle.std.specs.Prelude.{ℕ, zero, suc, ◌≤◌, Bool, true, false, cond, ◌&&◌, List, [], ◌∷◌, length, drop, Some, None, filter, Option, nat_le, nat_lt}
use Rattle.std.specs.List.{AllByRecursion}
use Rattle.model.specs.declared.types.Side.{Side}
use Rattle.model.specs.declared.types.Order.{Order}
use Rattle.model.specs.Numbers.{max_price, max_number, in_range}
use Rattle.model.specs.Orders.{Standing, is_market}
use Rattle.model.specs.Rank.{same_side}
use Rattle.book.specs.Bounds.{Bounded}

-- the most orders that a book can hold
abbrev pub max_capacity : ℕ
max_capacity = 4096

-- every number is below n
abbrev pub all_below : List Order → ℕ → Bool
all_below [] n = true
all_below (o ∷ os) n = nat_lt o.number n && all_below os n

-- an order may be added: the capacity is not reached, something is left, and its number is above all standing ones
abbrev pub addable : ℕ → List Order → Order → Bool
addable capacity os o = nat_lt (length os) capacity && (nat_lt 0 o.left && all_below os o.number)

-- an amount may be taken: 1 up to what is left
abbrev pub can_take : ℕ → Option Order → Bool
can_take q None = false
can_take q (Some o) = nat_lt 0 q && nat_le q o.left

-- an order may be turned: it is a market order, and the price is in range
abbrev pub can_turn : ℕ → Option Order → Bool
can_turn p None = false
can_turn p (Some o) = is_market o.price && in_range 1 max_price p

-- the first of some orders
abbrev pub first : List Order → Option Order
first [] = None
first (o ∷ os) = Some o

-- the n-th of some orders, from 1
abbrev pub place : ℕ → List Order → Option Order
place zero os = None
place (suc n) os = first (drop n os)

-- the first of some orders whose number is above n
abbrev pub next_above : ℕ → List Order → Option Order
next_above n [] = None
next_above n (o ∷ os) = cond (nat_lt n o.number) (Some o) (next_above n os)

-- the orders of a side, ascending by number
abbrev pub of_side : Side → List Order → List Order
of_side s os = filter (λ o. same_side s o.side) os

-- the lower-numbered of two orders, or the one that is there
abbrev pub lower_numbered : Option Order → Option Order → Option Order
lower_numbered None b = b
lower_numbered (Some x) None = Some x
lower_numbered (Some x) (Some y) = cond (nat_lt y.number x.number) (Some y) (Some x)

-- the order above n with the lowest number, after one more order
abbrev pub nearer_of : ℕ → Option Order → Order → Option Order
nearer_of n best o = cond (nat_lt n o.number) (lower_numbered best (Some o)) best

-- what holds of every book: numbers ascend, contents are in bounds with something left, and the capacity, at most the largest, is kept
pub record Kept {B : Type 0} (orders : B → List Order) (capacity : B → ℕ) : Type 0 where
  pub standing : (b : B) → Standing 0 (orders b) max_number
  pub bounded : (b : B) → AllByRecursion Bounded (orders b)
  pub fitting : (b : B) → length (orders b) ≤ capacity b
  pub limited : (b : B) → capacity b ≤ max_capacity
