-- An order that is entered: when it is refused, and what becomes of it.
use Rattle.std.specs.Prelude.{ℕ, zero, suc, ◌+◌, ◌%◌, Bool, true, false, cond, ◌&&◌, ◌||◌, List, [], ◌∷◌, ◌++◌, map, length, ◌==◌, nat_le, nat_lt}
use Rattle.model.specs.Types.{OrderPrice, Market, Limit, Condition, Plain, FillOrKill, ImmediateOrCancel, Entry, Order, Phase, PreOpening, Trading, WrongPhase, UnknownMember, Quantity, Price, ConditionOutsideTrading, NumbersExhausted, CapacityReached, TapeFull, Reason, ConditionUnmet, TapeRecord, Withdrawal}
use Rattle.model.specs.Numbers.{max_price, max_member, max_quantity, max_number, in_range, no_refusal}
use Rattle.model.specs.Grid.{Settings, within, active}
use Rattle.model.specs.Rank.{opposite}
use Rattle.model.specs.State.{State, takes_orders, is_trading, Outcome, advance, done, ask, unless, fits}
use Rattle.model.specs.Trading.{Met, meet, active_in_rank, trade_of, after_fills, Disposition, disposition, Disposition.stands, Disposition.goes}

-- q of the order stands at price p
abbrev pub stands_as : State → Entry → OrderPrice → ℕ → Order
stands_as s e p q = record { number = s.last + 1; member = e.member; side = e.side; price = p; left = q }

-- q of the order is withdrawn
abbrev pub gone : State → ℕ → Reason → TapeRecord
gone s q reason = Withdrawal (s.last + 1) q reason

-- the order answers its number, the last used plus 1
abbrev pub numbered : State → Phase → List TapeRecord → List Order → Outcome
numbered s ph recs os = done (s.last + 1) recs (advance s ph s.reference (s.last + 1) recs os)

-- after its trades what remains stands or is withdrawn
abbrev pub settle_remaining : State → Entry → Phase → List TapeRecord → List Order → ℕ → Disposition → Outcome
settle_remaining s e ph ts os zero r = numbered s ph ts os
settle_remaining s e ph ts os (suc q) (stands p) = numbered s ph ts (os ++ stands_as s e p (suc q) ∷ [])
settle_remaining s e ph ts os (suc q) (goes reason) = numbered s ph (ts ++ gone s (suc q) reason ∷ []) os

-- an interruption returns to pre-opening
abbrev pub phase_after : Bool → Phase
phase_after true = PreOpening
phase_after false = Trading

-- what the order meets: the active orders of the other side, at prices within the static band about the reference price
abbrev pub meeting : State → Entry → Met
meeting s e = meet (within s.settings.static s.reference) e.side e.price e.quantity (active_in_rank s.settings (opposite e.side) s.orders)

-- the order trades what it met, and what remains stands or is withdrawn
abbrev pub filled : State → Entry → Met → Outcome
filled s e m = settle_remaining s e (phase_after m.interrupted) (map (trade_of e.side (s.last + 1)) m.fills) (after_fills m.fills s.orders) m.remaining (disposition e.condition e.price m)

-- the order is withdrawn whole for its condition
abbrev pub withdrawn_whole : State → Entry → Outcome
withdrawn_whole s e = numbered s Trading (gone s e.quantity ConditionUnmet ∷ []) s.orders

-- the order stands as it was entered
abbrev pub stood : State → Entry → Outcome
stood s e = numbered s s.phase [] (s.orders ++ stands_as s e e.price e.quantity ∷ [])

-- an inactive order stands, or is withdrawn if it has a condition
abbrev pub entered_inactive : State → Entry → Condition → Outcome
entered_inactive s e Plain = stood s e
entered_inactive s e FillOrKill = withdrawn_whole s e
entered_inactive s e ImmediateOrCancel = withdrawn_whole s e

-- an active order is filled; fill-or-kill, only if all of it is
abbrev pub entered_active : State → Entry → Condition → Met → Outcome
entered_active s e Plain m = filled s e m
entered_active s e FillOrKill m = cond (m.remaining == 0) (filled s e m) (withdrawn_whole s e)
entered_active s e ImmediateOrCancel m = filled s e m

-- while trading runs an active order meets the other side; else it stands
abbrev pub accepted : State → Entry → Outcome
accepted s e =
    cond (is_trading s.phase)
    (cond (active s.settings e.price) (entered_active s e e.condition (meeting s e)) (entered_inactive s e e.condition))
    (stood s e)

-- a limit price is in range and a multiple of the tick
abbrev pub price_allowed : Settings → OrderPrice → Bool
price_allowed g Market = true
price_allowed g (Limit p) = in_range 1 max_price p && p % g.tick == 0

-- the order has no condition
abbrev pub unconditional : Condition → Bool
unconditional Plain = true
unconditional FillOrKill = false
unconditional ImmediateOrCancel = false

-- the questions of an order, in their order
abbrev pub enter : State → ℕ → Entry → Outcome
enter s tape e =
    let o : Outcome = accepted s e in
    unless
    (ask (takes_orders s.phase) WrongPhase
    (ask (in_range 1 max_member e.member) UnknownMember
    (ask (in_range 1 max_quantity e.quantity) Quantity
    (ask (price_allowed s.settings e.price) Price
    (ask (unconditional e.condition || is_trading s.phase) ConditionOutsideTrading
    (ask (nat_lt s.last max_number) NumbersExhausted
    (ask (nat_le (length o.state.orders) s.capacity) CapacityReached
    (ask (fits s tape o.records) TapeFull no_refusal)))))))) s o
