-- What the numbers of refusals and of reasons name.
use Rattle.std.specs.Prelude.{◌≡◌, ℕ, ◌<◌, Result, Ok, Err, MatchResult}
use Rattle.model.specs.declared.codes.UnknownNumber.{UnknownNumber}
use Rattle.model.specs.Types.{Refusal, Reason, Answer}
use Rattle.model.specs.Numbers.{code, reason_code}

-- the refusal with this number, or the number where no refusal has it
abbrev pub NamesRefusal : ℕ → Result Refusal UnknownNumber → Type 0
NamesRefusal n r = MatchResult r (λ refusal. code refusal ≡ n) (λ e. (e.0 ≡ n) × ((refusal : Refusal) → code refusal ≡ n → ⊥))

-- the reason with this number, or the number where no reason has it
abbrev pub NamesReason : ℕ → Result Reason UnknownNumber → Type 0
NamesReason n r = MatchResult r (λ reason. reason_code reason ≡ n) (λ e. (e.0 ≡ n) × ((reason : Reason) → reason_code reason ≡ n → ⊥))

-- a call's result from what is shown of it: done where the number is 0, and else the refusal with that number
abbrev pub Shows : Answer → Result (Result ℕ Refusal) UnknownNumber → Type 0
Shows a (Ok (Ok n)) = (a.refusal ≡ 0) × (n ≡ a.answer)
Shows a (Ok (Err refusal)) = code refusal ≡ a.refusal
Shows a (Err e) = (e.0 ≡ a.refusal) × (0 < a.refusal) × ((refusal : Refusal) → code refusal ≡ a.refusal → ⊥)
