-- What a day leaves: of the engine's values, and of the numbers that cross.
use Rattle.std.specs.Prelude.{◌≡◌, ℕ, zero, suc, List, [], map, length}
use Rattle.model.specs.declared.types.Answer.{Answer}
use Rattle.model.specs.declared.types.Call.{Call}
use Rattle.model.specs.declared.types.Point.{Point}
use Rattle.model.specs.declared.types.TapeRecord.{TapeRecord}
use Rattle.model.specs.Rules.{Rule}
use Rattle.model.specs.State.{State, Outcome}
use Rattle.model.specs.Run.{run, after, calls_run, answers_after, tape_after, scratch_run}
use Rattle.crossing.specs.declared.raw.RawAnswer.{RawAnswer}
use Rattle.crossing.specs.declared.raw.RawEnd.{RawEnd}
use Rattle.crossing.specs.declared.raw.RawOrder.{RawOrder}
use Rattle.crossing.specs.declared.raw.RawPoint.{RawPoint}
use Rattle.crossing.specs.declared.raw.RawRecord.{RawRecord}
use Rattle.crossing.specs.Shown.{end_of, orders_shown}
use Rattle.crossing.specs.Turning.{answer_of, raw_answer, record_of, raw_record, point_of, raw_point}

-- the calls that run: none where the session is not made, as this refusal of its making says, or where the list is refused
abbrev pub calls_traded : ℕ → ℕ → List Call → List Call
calls_traded zero places cs = calls_run places cs
calls_traded (suc n) places cs = []

-- the end after a day: that of its session, or as it was where none is made
abbrev pub end_after : ℕ → RawEnd → State → RawEnd
end_after zero end s = end_of s
end_after (suc n) end s = end

-- the places for standing orders after a day: those of its session, or as they were where none is made
abbrev pub standing_after : ℕ → List RawOrder → State → List RawOrder
standing_after zero places s = orders_shown s.orders places
standing_after (suc n) places s = places

-- the outcomes of a day's calls, with so many places for answers, and a tape and a scratch of these lengths
abbrev pub outcomes : Rule → ℕ → State → List Call → ℕ → ℕ → ℕ → List Outcome
outcomes r refusal s cs places tape scratch = run r tape scratch s (calls_traded refusal places cs)

-- a day from the session s, that is made where the refusal is 0: answers, tape, scratch, standing orders and end before it and after it, by the outcomes of its calls
pub record Traded (refusal : ℕ) (s : State) (cs : List Call) (os : List Outcome) (a₀ a : List Answer) (t₀ t : List TapeRecord) (x₀ x : List Point) (o₀ o : List RawOrder) (e₀ e : RawEnd) : Type 0 where
  pub answers : a ≡ answers_after a₀ os
  pub tape : t ≡ tape_after t₀ s os
  pub scratch : x ≡ scratch_run s (calls_traded refusal (length a₀) cs) os x₀
  pub standing : o ≡ standing_after refusal o₀ (after s os)
  pub end : e ≡ end_after refusal e₀ (after s os)

-- the same in plain numbers: all places are given back, also those that the day left as they were
pub record Crossed (refusal : ℕ) (s : State) (cs : List Call) (os : List Outcome) (a₀ a : List RawAnswer) (t₀ t : List RawRecord) (x₀ x : List RawPoint) (o₀ o : List RawOrder) (e₀ e : RawEnd) : Type 0 where
  pub answers : a ≡ map raw_answer (answers_after (map answer_of a₀) os)
  pub tape : t ≡ map raw_record (tape_after (map record_of t₀) s os)
  pub scratch : x ≡ map raw_point (scratch_run s (calls_traded refusal (length a₀) cs) os (map point_of x₀))
  pub standing : o ≡ standing_after refusal o₀ (after s os)
  pub end : e ≡ end_after refusal e₀ (after s os)

-- nothing is written
pub record Unwritten (a₀ a : List RawAnswer) (t₀ t : List RawRecord) (x₀ x : List RawPoint) (o₀ o : List RawOrder) (e₀ e : RawEnd) : Type 0 where
  pub answers : a ≡ a₀
  pub tape : t ≡ t₀
  pub scratch : x ≡ x₀
  pub standing : o ≡ o₀
  pub end : e ≡ e₀
