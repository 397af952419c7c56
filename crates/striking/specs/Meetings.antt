-- Two orders that meet in a strike, and the orders that traded last.
use Rattle.std.specs.Prelude.{◌≡◌, ℕ, ◌-◌, ◌≤◌, true, List, [], ◌∷◌, Some, None, Option}
use Rattle.model.specs.declared.types.Side.{Side}
use Rattle.model.specs.declared.types.Side.TheVariants.{Buy, Sell}
use Rattle.model.specs.declared.types.Order.{Order}
use Rattle.model.specs.declared.types.TapeRecord.{TapeRecord}
use Rattle.model.specs.declared.types.TapeRecord.TheVariants.{Trade, Withdrawal}
use Rattle.model.specs.Grid.{Settings}
use Rattle.model.specs.Orders.{find, lower}
use Rattle.model.specs.Auction.{trades_at, apply_trade}
use Rattle.book.specs.Meaning.{can_take}
use Rattle.striking.specs.declared.meetings.Meeting.{Meeting}
use Rattle.striking.specs.Parties.{Passed}

-- the place of a side that the last meeting reached, and the first where none met
abbrev pub reached : Side → Option Meeting → ℕ
reached s None = 0
reached Buy (Some m) = m.buy.place
reached Sell (Some m) = m.sell.place

-- the trade of a meeting at p
abbrev pub trade_record : ℕ → Meeting → TapeRecord
trade_record p m = Trade m.buy.order.number m.sell.order.number p m.quantity

-- m is the next meeting at p: both orders can be lowered by its quantity, its trade is the first, and no active order stands before its places once it has traded
pub record Meets (g : Settings) (p v : ℕ) (os : List Order) (m : Meeting) : Type 0 where
  pub some : 1 ≤ m.quantity
  pub limited : m.quantity ≤ v
  pub can_buy : can_take m.quantity (find m.buy.order.number os) ≡ true
  pub can_sell : can_take m.quantity (find m.sell.order.number (lower m.buy.order.number m.quantity os)) ≡ true
  pub trades : trades_at g p v os ≡ trade_record p m ∷ trades_at g p (v - m.quantity) (apply_trade (trade_record p m) os)
  pub buys : Passed g Buy (apply_trade (trade_record p m) os) m.buy.place
  pub sells : Passed g Sell (apply_trade (trade_record p m) os) m.sell.place

-- the next meeting, or none where nothing trades
abbrev pub NextMeeting : Settings → ℕ → ℕ → List Order → Option Meeting → Type 0
NextMeeting g p v os None = trades_at g p v os ≡ []
NextMeeting g p v os (Some m) = Meets g p v os m

-- the number of the order that a trade has on a side, and n where there is no trade
abbrev pub party : Side → ℕ → TapeRecord → ℕ
party Buy n (Trade b s p q) = b
party Buy n (Withdrawal m q r) = n
party Sell n (Trade b s p q) = s
party Sell n (Withdrawal m q r) = n

-- the number of the last order of a side that traded, and n where none did
abbrev pub last_party : Side → ℕ → List TapeRecord → ℕ
last_party s n [] = n
last_party s n (t ∷ ts) = last_party s (party s n t) ts

-- the meeting of the last of some trades, or none where there is no trade
abbrev pub IsLast : List TapeRecord → Option Meeting → Type 0
IsLast ts None = ts ≡ []
IsLast ts (Some m) = (m.buy.order.number ≡ last_party Buy 0 ts) × (m.sell.order.number ≡ last_party Sell 0 ts)
