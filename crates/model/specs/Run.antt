-- A list of calls, run from first to last.
use Rattle.std.specs.Prelude.{◌≡◌, ℕ, cond, List, [], ◌∷◌, ◌++◌, map, length, drop, nat_le}
use Rattle.model.specs.Types.{Point, AnswersTooShort, TapeRecord, Call, Enter, Withdraw, BeginRandom, Auction, Close, Answer}
use Rattle.model.specs.Numbers.{no_refusal}
use Rattle.model.specs.Rules.{Rule}
use Rattle.model.specs.Records.{written}
use Rattle.model.specs.State.{State, Outcome, ask}
use Rattle.model.specs.Entry.{enter}
use Rattle.model.specs.Calls.{withdraw, begin_random, close, scratch_after, auction}

-- one call of a list, with a tape and a scratch of these lengths
abbrev pub step : Rule → ℕ → ℕ → State → Call → Outcome
step r tape scratch s (Enter e) = enter s tape e
step r tape scratch s (Withdraw m n) = withdraw s tape m n
step r tape scratch s BeginRandom = begin_random s
step r tape scratch s Auction = auction r s tape scratch
step r tape scratch s Close = close s tape

-- the outcome of each call, every one finding what the earlier ones left
abbrev pub run : Rule → ℕ → ℕ → State → List Call → List Outcome
run r tape scratch s [] = []
run r tape scratch s (c ∷ cs) = let o : Outcome = step r tape scratch s c in o ∷ run r tape scratch o.state cs

-- the session after some outcomes
abbrev pub after : State → List Outcome → State
after s [] = s
after s (o ∷ os) = after o.state os

-- the records of some outcomes, in the order in which they were written
abbrev pub records : List Outcome → List TapeRecord
records [] = []
records (o ∷ os) = o.records ++ records os

-- a list is refused before any call runs where there are fewer places for answers than calls
abbrev pub list_refusal : ℕ → List Call → ℕ
list_refusal places cs = ask (nat_le (length cs) places) AnswersTooShort no_refusal

-- the calls that run: all, or none where the list is refused
abbrev pub calls_run : ℕ → List Call → List Call
calls_run places cs = cond (nat_le (length cs) places) cs []

-- the answer that a list writes for an outcome
abbrev pub written_answer : Outcome → Answer
written_answer o = record { refusal = o.refusal; answer = o.answer }

-- the answers after a list: one for each call that ran, and the places beyond as they were
abbrev pub answers_after : List Answer → List Outcome → List Answer
answers_after places os = map written_answer os ++ drop (length os) places

-- the tape after a list
abbrev pub tape_after : List TapeRecord → State → List Outcome → List TapeRecord
tape_after tape s os = written tape s.used (records os)

-- the scratch after one call
abbrev pub scratch_step : State → Call → List Point → List Point
scratch_step s (Enter e) scratch = scratch
scratch_step s (Withdraw m n) scratch = scratch
scratch_step s BeginRandom scratch = scratch
scratch_step s Auction scratch = scratch_after s scratch
scratch_step s Close scratch = scratch

-- the scratch after a list
abbrev pub scratch_run : State → List Call → List Outcome → List Point → List Point
scratch_run s [] os scratch = scratch
scratch_run s (c ∷ cs) [] scratch = scratch
scratch_run s (c ∷ cs) (o ∷ os) scratch = scratch_run o.state cs os (scratch_step s c scratch)

-- a list of calls ran from one session to another: the state, the answers, the tape and the scratch before it and after it; T and X are the lengths of tape and scratch
pub record Ran (r : Rule) (T X : ℕ) (before s : State) (cs : List Call) (a₀ a : List Answer) (t₀ t : List TapeRecord) (x₀ x : List Point) : Type 0 where
  pub state : s ≡ after before (run r T X before cs)
  pub answers : a ≡ answers_after a₀ (run r T X before cs)
  pub tape : t ≡ tape_after t₀ before (run r T X before cs)
  pub scratch : x ≡ scratch_run before cs (run r T X before cs) x₀
