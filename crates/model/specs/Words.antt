-- The words for refusals, for reasons, for phases and for a number that names none, as bytes.
use Rattle.std.specs.Prelude.{ℕ, List, ◌++◌, codes, decimal}
use Rattle.model.specs.declared.codes.UnknownNumber.{UnknownNumber}
use Rattle.model.specs.Types.{Refusal, SettingsOutOfRange, IndicativePrice, BookNotEmpty, WrongPhase, UnknownMember, Quantity, Price, ConditionOutsideTrading, NumbersExhausted, CapacityReached, TapeFull, UnknownOrder, ForeignCalledPrice, ScratchTooShort, AnswersTooShort, Reason, ByMember, AfterAuction, ConditionUnmet, NothingOpposite, AtClose, Phase, PreOpening, Random, Called, Trading, Closed}

-- the words for each refusal
abbrev pub refusal_words : Refusal → List ℕ
refusal_words SettingsOutOfRange = codes "settings out of range"
refusal_words IndicativePrice = codes "no lawful indicative price"
refusal_words BookNotEmpty = codes "the book is not empty"
refusal_words WrongPhase = codes "not in this phase"
refusal_words UnknownMember = codes "no such member"
refusal_words Quantity = codes "quantity out of range"
refusal_words Price = codes "price out of range or off the tick"
refusal_words ConditionOutsideTrading = codes "a condition outside trading"
refusal_words NumbersExhausted = codes "no order number is left"
refusal_words CapacityReached = codes "the book is full"
refusal_words TapeFull = codes "the tape is full"
refusal_words UnknownOrder = codes "no such order of this member"
refusal_words ForeignCalledPrice = codes "not the called price"
refusal_words ScratchTooShort = codes "the scratch is too short"
refusal_words AnswersTooShort = codes "too few places for answers"

-- the words for each reason
abbrev pub reason_words : Reason → List ℕ
reason_words ByMember = codes "by its member"
reason_words AfterAuction = codes "after the auction"
reason_words ConditionUnmet = codes "condition unmet"
reason_words NothingOpposite = codes "nothing opposite"
reason_words AtClose = codes "at the close"

-- the words for each phase
abbrev pub phase_words : Phase → List ℕ
phase_words PreOpening = codes "pre-opening"
phase_words Random = codes "random period"
phase_words (Called p v) = codes "called"
phase_words Trading = codes "trading"
phase_words Closed = codes "closed"

-- the words for a number that names no refusal, or no reason
abbrev pub unknown_words : UnknownNumber → List ℕ
unknown_words e = codes "no meaning for the number " ++ decimal e.0
