-- The questions of an order, as its code asks them.
use Rattle.std.specs.Prelude.{◌≡◌, ℕ, ◌+◌, ◌-◌, ◌<◌, ◌≤◌, true, ◌||◌, Ok, Err, Result, nat_lt}
use Rattle.model.specs.declared.types.DayState.{DayState}
use Rattle.model.specs.declared.types.Entry.{Entry}
use Rattle.model.specs.declared.types.Refusal.{Refusal}
use Rattle.model.specs.declared.types.Refusal.TheVariants.{UnknownMember, Quantity, Price, ConditionOutsideTrading, NumbersExhausted}
use Rattle.model.specs.Numbers.{max_member, max_quantity, max_number, in_range, code}
use Rattle.model.specs.Grid.{Settings}
use Rattle.model.specs.State.{ask, is_trading}
use Rattle.model.specs.Entry.{price_allowed, unconditional}
use Rattle.book.specs.Bounds.{price_in_bounds}
use Rattle.entering.specs.declared.courses.Course.{Course}
use Rattle.entering.specs.Courses.{standing_by, records_by}

-- a refusal's number, or else the rest
abbrev pub refusal_or : Result (Unit {0}) Refusal → ℕ → ℕ
refusal_or (Ok u) rest = rest
refusal_or (Err why) rest = code why

-- the questions that an order answers without the book, before the rest
abbrev pub own_questions : Settings → DayState → Entry → ℕ → ℕ
own_questions g d e rest =
    ask (in_range 1 max_member e.member) UnknownMember
    (ask (in_range 1 max_quantity e.quantity) Quantity
    (ask (price_allowed g e.price) Price
    (ask (unconditional e.condition || is_trading d.phase) ConditionOutsideTrading
    (ask (nat_lt d.last max_number) NumbersExhausted rest))))

-- what holds of an order that answered them all yes
pub record InRange (d : DayState) (e : Entry) : Type 0 where
  pub member : (1 ≤ e.member) × (e.member ≤ max_member)
  pub quantity : (1 ≤ e.quantity) × (e.quantity ≤ max_quantity)
  pub price : price_in_bounds e.price ≡ true
  pub number : d.last < max_number

-- how many orders stand after a course, of so many before it
abbrev pub standing_after : ℕ → Course → ℕ
standing_after count c = (count - c.removed) + standing_by c.fate

-- how many records a course writes
abbrev pub records_of : Course → ℕ
records_of c = c.fills + records_by c.fate
