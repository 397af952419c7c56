-- What a course comes to in a session.
use Rattle.std.specs.Prelude.{◌≡◌, ℕ, ◌+◌, ◌<◌, ◌≤◌, true, cond, ◌&&◌, List, [], ◌∷◌, ◌++◌, map, length, Ok, Err, Result, nat_lt}
use Rattle.model.specs.declared.types.Order.{Order}
use Rattle.model.specs.declared.types.Entry.{Entry}
use Rattle.model.specs.declared.types.Refusal.{Refusal}
use Rattle.model.specs.declared.types.TapeRecord.{TapeRecord}
use Rattle.model.specs.declared.types.TapeRecord.TheVariants.{Withdrawal}
use Rattle.model.specs.Numbers.{max_member, max_quantity, max_number, code}
use Rattle.model.specs.State.{State, Outcome, refuse, free}
use Rattle.model.specs.Trading.{Fill, trade_of, after_fills}
use Rattle.model.specs.Entry.{numbered, meeting, accepted, enter}
use Rattle.book.specs.Meaning.{max_capacity, addable}
use Rattle.book.specs.Bounds.{price_in_bounds, in_bounds}
use Rattle.book.specs.Plain.{order_of}
use Rattle.entering.specs.declared.courses.Fate.{Fate}
use Rattle.entering.specs.declared.courses.Fate.TheVariants.{Stands, Withdrawn, Traded}
use Rattle.entering.specs.declared.courses.Course.{Course}
use Rattle.entering.specs.Questions.{records_of}

-- q of the order number n stands by a fate
abbrev pub own_order : ℕ → Entry → ℕ → Fate → List Order
own_order n e q (Stands p) = order_of n e.member e.side p q ∷ []
own_order n e q (Withdrawn r) = []
own_order n e q Traded = []

-- q of the order number n is withdrawn by a fate
abbrev pub own_record : ℕ → ℕ → Fate → List TapeRecord
own_record n q (Stands p) = []
own_record n q (Withdrawn r) = Withdrawal n q r ∷ []
own_record n q Traded = []

-- the fills that are carried out: all that the order meets, or none
abbrev pub some_fills : ℕ → List Fill → List Fill
some_fills n fs = cond (nat_lt 0 n) fs []

-- the fills of a course
abbrev pub fills_in : State → Entry → Course → List Fill
fills_in s e c = some_fills c.fills (meeting s e).fills

-- what a course comes to
abbrev pub outcome_of : State → Entry → Course → Outcome
outcome_of s e c =
    numbered s c.phase (map (trade_of e.side (s.last + 1)) (fills_in s e c) ++ own_record (s.last + 1) c.remaining c.fate)
    (after_fills (fills_in s e c) s.orders ++ own_order (s.last + 1) e c.remaining c.fate)

-- what stands has something left, no more than q, and a price in bounds
abbrev pub Placeable : ℕ → ℕ → Fate → Type 0
Placeable q left (Stands p) = (1 ≤ left) × (left ≤ q) × (price_in_bounds p ≡ true)
Placeable q left (Withdrawn r) = Unit {0}
Placeable q left Traded = Unit {0}

-- the order e, once it is accepted, runs the course c
pub record Runs (s : State) (e : Entry) (c : Course) : Type 0 where
  pub outcome : accepted s e ≡ outcome_of s e c
  pub fills : c.fills ≡ length (fills_in s e c)
  pub few : c.fills ≤ max_capacity
  pub removed : c.removed + length (after_fills (fills_in s e c) s.orders) ≡ length s.orders
  pub placeable : 1 ≤ e.quantity → price_in_bounds e.price ≡ true → 1 ≤ s.reference → Placeable e.quantity c.remaining c.fate

-- the order e is accepted, and runs the course c
pub record Accepted (s : State) (tape : ℕ) (e : Entry) (c : Course) : Type 0 where
  pub outcome : enter s tape e ≡ outcome_of s e c
  pub fills : c.fills ≡ length (fills_in s e c)
  pub number : s.last < max_number
  pub places : records_of c ≤ free s tape
  pub standing : length (outcome_of s e c).state.orders ≤ s.capacity
  pub member : (1 ≤ e.member) × (e.member ≤ max_member)
  pub placeable : 1 ≤ s.reference → Placeable max_quantity c.remaining c.fate

-- an order runs a course, or is refused
abbrev pub Decided : State → ℕ → Entry → Result Course Refusal → Type 0
Decided s tape e (Ok c) = Accepted s tape e c
Decided s tape e (Err why) = enter s tape e ≡ refuse (code why) s

-- a book's orders after it was offered one more
abbrev pub offered : ℕ → List Order → Order → List Order
offered capacity os o = cond (in_bounds o && addable capacity os o) (os ++ o ∷ []) os

-- a book's orders after what remains of the order number n is settled
abbrev pub settled_orders : ℕ → List Order → ℕ → Entry → ℕ → Fate → List Order
settled_orders capacity os n e q (Stands p) = offered capacity os (order_of n e.member e.side p q)
settled_orders capacity os n e q (Withdrawn r) = os
settled_orders capacity os n e q Traded = os
