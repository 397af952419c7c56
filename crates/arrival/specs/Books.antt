-- What an `ArrivalBook` means, and that it keeps what every book keeps.
use Rattle.std.specs.Prelude.{ℕ, ◌≤◌, List, length}
use Rattle.std.proofs.Math.Logic.{∥∥₁_elim}
use Rattle.std.proofs.Common.{arith, length-take}
use Rattle.model.specs.declared.types.Order.{Order}
use Rattle.book.specs.Meaning.{Kept, max_capacity}
use Rattle.rows.specs.Rows.{Held, held_prop}
use Rattle.arrival.specs.Fronts.{orders_in, room_in}
use Rattle.arrival.specs.declared.arrival.ArrivalBook.{ArrivalBook}

-- the orders that stand
abbrev pub standing_in : ArrivalBook → List Order
standing_in b = orders_in b.front

-- how many orders may stand
abbrev pub capacity_of : ArrivalBook → ℕ
capacity_of b = room_in b.front

-- what the book keeps of its orders
pub held_in : (b : ArrivalBook) → Held (standing_in b)
held_in b = ∥∥₁_elim b.held (held_prop (standing_in b)) (λ h. h)

-- no more orders stand than may
fitting_in : (b : ArrivalBook) → length (standing_in b) ≤ capacity_of b
fitting_in b = omega (arith, length-take b.front.count b.front.rows.now, b.front.fits)

-- and no more may than in any book
limited_in : (b : ArrivalBook) → capacity_of b ≤ max_capacity
limited_in b = omega arith

-- it keeps what every book keeps
pub arrival_kept : Kept standing_in capacity_of
arrival_kept = record { standing = λ b. (held_in b).standing; bounded = λ b. (held_in b).bounded; fitting = fitting_in; limited = limited_in }
