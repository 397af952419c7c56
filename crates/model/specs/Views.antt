-- A session by what its code holds, and how the code shows an outcome.
use Rattle.std.specs.Prelude.{◌≡◌, ℕ, List, Ok, Err, Result}
use Rattle.model.specs.Types.{Order, DayState, Refusal, TapeRecord, Answer}
use Rattle.model.specs.Numbers.{code, no_refusal}
use Rattle.model.specs.Grid.{Settings}
use Rattle.model.specs.Records.{written}
use Rattle.model.specs.State.{State, Outcome}

-- the session of these settings, so far in its day, over a book with these orders and this capacity
abbrev pub view : Settings → DayState → List Order → ℕ → State
view g d os capacity = record { settings = g; phase = d.phase; reference = d.reference; last = d.last; used = d.used; orders = os; capacity = capacity }

-- the refusal's number of a result, 0 where it is done
abbrev pub refusal_of : Result ℕ Refusal → ℕ
refusal_of (Ok a) = no_refusal
refusal_of (Err r) = code r

-- the answer of a result, 0 where it is refused
abbrev pub answer_of : Result ℕ Refusal → ℕ
answer_of (Ok a) = a
answer_of (Err r) = 0

-- a result as a refusal's number and an answer
abbrev pub shown : Result ℕ Refusal → Answer
shown r = record { refusal = refusal_of r; answer = answer_of r }

-- a result without its value: an outcome has the answer 0 where a call shows something else
abbrev pub done_or_refused : {A : Type 0} → Result A Refusal → Result ℕ Refusal
done_or_refused (Ok a) = Ok 0
done_or_refused (Err r) = Err r

-- a call came to the outcome o: its result, the session after it, and the tape before and after it, of which so many places were used
pub record Came (o : Outcome) (r : Result ℕ Refusal) (s : State) (before : List TapeRecord) (used : ℕ) (after : List TapeRecord) : Type 0 where
  pub refusal : refusal_of r ≡ o.refusal
  pub answer : answer_of r ≡ o.answer
  pub state : s ≡ o.state
  pub tape : after ≡ written before used o.records
