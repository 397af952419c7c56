-- The bounds of the market's numbers, and the numbers of its refusals and of its reasons for a withdrawal.
use Rattle.std.specs.Prelude.{ℕ, Bool, ◌&&◌, nat_le}
use Rattle.model.specs.Types.{Refusal, SettingsOutOfRange, IndicativePrice, BookNotEmpty, WrongPhase, UnknownMember, Quantity, Price, ConditionOutsideTrading, NumbersExhausted, CapacityReached, TapeFull, UnknownOrder, ForeignCalledPrice, ScratchTooShort, AnswersTooShort, Reason, ByMember, AfterAuction, ConditionUnmet, NothingOpposite, AtClose}

-- the largest tick
abbrev pub max_tick : ℕ
max_tick = 1000

-- the highest price
abbrev pub max_price : ℕ
max_price = 99999

-- the widest band, in percent
abbrev pub max_band : ℕ
max_band = 99

-- the highest member number
abbrev pub max_member : ℕ
max_member = 999

-- the largest quantity of an order
abbrev pub max_quantity : ℕ
max_quantity = 1000000000

-- the highest number that an order can have
abbrev pub max_number : ℕ
max_number = 999999999

-- the most places of a tape that are used
abbrev pub max_places : ℕ
max_places = 65536

-- the most prices that a grid can have
abbrev pub max_count : ℕ
max_count = 99497

-- n is from low to high
abbrev pub in_range : ℕ → ℕ → ℕ → Bool
in_range low high n = nat_le low n && nat_le n high

-- the number of each refusal
abbrev pub code : Refusal → ℕ
code SettingsOutOfRange = 1
code IndicativePrice = 2
code BookNotEmpty = 3
code WrongPhase = 4
code UnknownMember = 5
code Quantity = 6
code Price = 7
code ConditionOutsideTrading = 8
code NumbersExhausted = 9
code CapacityReached = 10
code TapeFull = 11
code UnknownOrder = 12
code ForeignCalledPrice = 13
code ScratchTooShort = 14
code AnswersTooShort = 15

-- the number of a call that is not refused
abbrev pub no_refusal : ℕ
no_refusal = 0

-- the number of each reason for a withdrawal
abbrev pub reason_code : Reason → ℕ
reason_code ByMember = 1
reason_code AfterAuction = 2
reason_code ConditionUnmet = 3
reason_code NothingOpposite = 4
reason_code AtClose = 5
