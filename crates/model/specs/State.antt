-- A session as its members see it, its phases, and what a call leaves.
use Rattle.std.specs.Prelude.{ℕ, zero, suc, ◌+◌, ◌-◌, min, Bool, true, false, List, [], length, nat_le}
use Rattle.model.specs.Types.{Order, Phase, PreOpening, Random, Called, Trading, Closed, Refusal, TapeRecord}
use Rattle.model.specs.Numbers.{max_places, code, no_refusal}
use Rattle.model.specs.Grid.{Settings}

-- settings and phase; the reference price, about which the static band lies; the last order number given; how many tape places are used; the standing orders by number; the book's capacity
pub record State : Type 0 where
  pub settings : Settings
  pub phase : Phase
  pub reference : ℕ
  pub last : ℕ
  pub used : ℕ
  pub orders : List Order
  pub capacity : ℕ

-- orders are taken in pre-opening, the random period and trading
abbrev pub takes_orders : Phase → Bool
takes_orders PreOpening = true
takes_orders Random = true
takes_orders (Called p v) = false
takes_orders Trading = true
takes_orders Closed = false

-- withdrawals in pre-opening and trading
abbrev pub takes_withdrawals : Phase → Bool
takes_withdrawals PreOpening = true
takes_withdrawals Random = false
takes_withdrawals (Called p v) = false
takes_withdrawals Trading = true
takes_withdrawals Closed = false

-- a close in all phases but called and closed
abbrev pub takes_close : Phase → Bool
takes_close PreOpening = true
takes_close Random = true
takes_close (Called p v) = false
takes_close Trading = true
takes_close Closed = false

-- the phase is pre-opening
abbrev pub is_pre_opening : Phase → Bool
is_pre_opening PreOpening = true
is_pre_opening Random = false
is_pre_opening (Called p v) = false
is_pre_opening Trading = false
is_pre_opening Closed = false

-- the phase is the random period
abbrev pub is_random : Phase → Bool
is_random PreOpening = false
is_random Random = true
is_random (Called p v) = false
is_random Trading = false
is_random Closed = false

-- the phase is trading
abbrev pub is_trading : Phase → Bool
is_trading PreOpening = false
is_trading Random = false
is_trading (Called p v) = false
is_trading Trading = true
is_trading Closed = false

-- a refusal's number (0 when done), an answer (0 when refused), the records that were written, and the session after the call
pub record Outcome : Type 0 where
  pub refusal : ℕ
  pub answer : ℕ
  pub records : List TapeRecord
  pub state : State

-- a call that is refused leaves the session as it was
abbrev pub refuse : ℕ → State → Outcome
refuse n s = record { refusal = n; answer = 0; records = []; state = s }

-- the session after a call that wrote these records
abbrev pub advance : State → Phase → ℕ → ℕ → List TapeRecord → List Order → State
advance s ph ref last recs os = record { settings = s.settings; phase = ph; reference = ref; last = last; used = s.used + length recs; orders = os; capacity = s.capacity }

-- a call that is done: its answer, its records and the session after it
abbrev pub done : ℕ → List TapeRecord → State → Outcome
done a recs s = record { refusal = no_refusal; answer = a; records = recs; state = s }

-- the first question that is answered no refuses by its number
abbrev pub ask : Bool → Refusal → ℕ → ℕ
ask true r rest = rest
ask false r rest = code r

-- a refusal, or else the outcome
abbrev pub unless : ℕ → State → Outcome → Outcome
unless zero s o = o
unless (suc n) s o = refuse (suc n) s

-- the free places of a tape of this length, of which at most 65,536 are used; none where it has fewer than are used
abbrev pub free : State → ℕ → ℕ
free s tape = min tape max_places - s.used

-- a free place for every record
abbrev pub fits : State → ℕ → List TapeRecord → Bool
fits s tape recs = nat_le (length recs) (free s tape)
