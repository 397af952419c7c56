-- By which number a day is refused.
use Rattle.std.specs.Prelude.{ℕ, [], nat_le}
use Rattle.model.specs.declared.types.Refusal.TheVariants.{AnswersTooShort}
use Rattle.model.specs.Numbers.{no_refusal}
use Rattle.model.specs.Grid.{Settings}
use Rattle.model.specs.State.{ask}
use Rattle.model.specs.Making.{make_refusal}
use Rattle.desk.specs.Days.{first_refusal}

-- the first question answered no, of those of making over an empty book and then of a list of so many calls and so many places for answers; 0 where none is
abbrev pub refused : Settings → ℕ → ℕ → ℕ → ℕ
refused g last calls places = first_refusal (make_refusal g last []) (ask (nat_le calls places) AnswersTooShort no_refusal)
