-- What the plain numbers of C stand for, and the numbers that the engine's values are shown by.
use Rattle.std.specs.Prelude.{ℕ, ◌%◌, if◌then◌else◌, ◌==◌}
use Rattle.model.specs.declared.types.Side.{Side}
use Rattle.model.specs.declared.types.Side.TheVariants.{Buy, Sell}
use Rattle.model.specs.declared.types.OrderPrice.{OrderPrice}
use Rattle.model.specs.declared.types.OrderPrice.TheVariants.{Market, Limit}
use Rattle.model.specs.declared.types.Condition.{Condition}
use Rattle.model.specs.declared.types.Condition.TheVariants.{Plain, FillOrKill, ImmediateOrCancel}
use Rattle.model.specs.declared.types.Entry.{Entry}
use Rattle.model.specs.declared.types.Order.{Order}
use Rattle.model.specs.declared.types.Point.{Point}
use Rattle.model.specs.declared.types.Phase.{Phase}
use Rattle.model.specs.declared.types.Phase.TheVariants.{PreOpening, Random, Called, Trading, Closed}
use Rattle.model.specs.declared.types.Reason.{Reason}
use Rattle.model.specs.declared.types.Reason.TheVariants.{ByMember, AfterAuction, ConditionUnmet, NothingOpposite, AtClose}
use Rattle.model.specs.declared.types.TapeRecord.{TapeRecord}
use Rattle.model.specs.declared.types.TapeRecord.TheVariants.{Trade, Withdrawal}
use Rattle.model.specs.declared.types.Call.{Call}
use Rattle.model.specs.declared.types.Call.TheVariants.{Enter, Withdraw, BeginRandom, Auction, Close}
use Rattle.model.specs.declared.types.Answer.{Answer}
use Rattle.model.specs.Numbers.{reason_code}
use Rattle.choices.specs.declared.rules.Rule.{Rule}
use Rattle.choices.specs.declared.rules.Rule.TheVariants.{Nearest, Balanced}
use Rattle.choices.specs.declared.table.Table.{Table}
use Rattle.choices.specs.declared.table.Table.TheVariants.{Arrival, Ranked}
use Rattle.crossing.specs.declared.raw.RawAnswer.{RawAnswer}
use Rattle.crossing.specs.declared.raw.RawCall.{RawCall}
use Rattle.crossing.specs.declared.raw.RawOrder.{RawOrder}
use Rattle.crossing.specs.declared.raw.RawPoint.{RawPoint}
use Rattle.crossing.specs.declared.raw.RawRecord.{RawRecord}

-- 0 is a buy, any other number a sell
abbrev pub side_of : ℕ → Side
side_of n = if n == 0 then Buy else Sell

-- mark 0 is a limit order at the price, any other mark a market order
abbrev pub order_price_of : ℕ → ℕ → OrderPrice
order_price_of mark price = if mark == 0 then Limit price else Market

-- 0 is none, 1 all of it now or nothing, any other number what can trade now
abbrev pub condition_of : ℕ → Condition
condition_of n = if n == 0 then Plain else (if n == 1 then FillOrKill else ImmediateOrCancel)

-- the order that a call enters
abbrev pub entry_of : RawCall → Entry
entry_of raw = record { member = raw.member; side = side_of raw.side; price = order_price_of raw.market raw.price; quantity = raw.quantity; condition = condition_of raw.condition }

-- the call of a kind: 0 an order, 1 a withdrawal, 2 the random period, 3 an auction, any other number a close
abbrev pub call_of : RawCall → Call
call_of raw = if raw.kind == 0 then Enter (entry_of raw) else (if raw.kind == 1 then Withdraw raw.member raw.number else (if raw.kind == 2 then BeginRandom else (if raw.kind == 3 then Auction else Close)))

-- an answer, its refusal the lowest byte of the number
abbrev pub answer_of : RawAnswer → Answer
answer_of raw = record { refusal = raw.refusal % 256; answer = raw.answer }

-- the numbers of an answer
abbrev pub raw_answer : Answer → RawAnswer
raw_answer a = record { refusal = a.refusal; answer = a.answer }

-- a price, the lower half of the number
abbrev pub price_of : ℕ → ℕ
price_of n = n % 4294967296

-- the reason that a number names; a number that names none is read as the close
abbrev pub reason_of : ℕ → Reason
reason_of n = if n == 1 then ByMember else (if n == 2 then AfterAuction else (if n == 3 then ConditionUnmet else (if n == 4 then NothingOpposite else AtClose)))

-- kind 0 is a trade, any other number a withdrawal
abbrev pub record_of : RawRecord → TapeRecord
record_of raw = if raw.kind == 0 then Trade raw.first raw.second (price_of raw.price) raw.quantity else Withdrawal raw.first raw.quantity (reason_of raw.second)

-- the numbers of a record
abbrev pub raw_record : TapeRecord → RawRecord
raw_record (Trade buy sell price quantity) = record { kind = 0; first = buy; second = sell; price = price; quantity = quantity }
raw_record (Withdrawal number quantity reason) = record { kind = 1; first = number; second = reason_code reason; price = 0; quantity = quantity }

-- a point, its price the lower half of the number
abbrev pub point_of : RawPoint → Point
point_of raw = record { price = price_of raw.price; demand = raw.demand; supply = raw.supply }

-- the numbers of a point
abbrev pub raw_point : Point → RawPoint
raw_point p = record { price = p.price; demand = p.demand; supply = p.supply }

-- the number of a side
abbrev pub side_number : Side → ℕ
side_number Buy = 0
side_number Sell = 1

-- a limit price, and 0 for a market order
abbrev pub price_number : OrderPrice → ℕ
price_number Market = 0
price_number (Limit p) = p

-- the numbers of an order that stands
abbrev pub raw_order : Order → RawOrder
raw_order o = record { number = o.number; member = o.member; side = side_number o.side; price = price_number o.price; left = o.left }

-- the number of a phase
abbrev pub phase_number : Phase → ℕ
phase_number PreOpening = 0
phase_number Random = 1
phase_number (Called p v) = 2
phase_number Trading = 3
phase_number Closed = 4

-- 0 is the table of arrival, any other number the ranked one
abbrev pub table_of : ℕ → Table
table_of n = if n == 0 then Arrival else Ranked

-- 0 is the nearest price, any other number least surplus over the middle
abbrev pub rule_of : ℕ → Rule
rule_of n = if n == 0 then Nearest else Balanced
