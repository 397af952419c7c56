-- No order is both the buy and the sell of a trade.
use Rattle.std.proofs.Common.{ℕ, zero, suc, ◌+◌, ◌<◌, ◌≤◌, Bool, eqb, List, [], ◌∷◌, map, filter, arith}
use Rattle.std.specs.List.{AllByRecursion}
use Rattle.std.proofs.ByRecursion.{All-append, all_kept_by, All-weaker}
use Rattle.std.proofs.lemmas.Bool.{cond_both}
use Rattle.model.specs.Types.{Side, Condition, Plain, FillOrKill, ImmediateOrCancel, Entry, Order, Phase, AfterAuction, AtClose, TapeRecord, Call, Enter, Withdraw, BeginRandom, Auction, Close}
use Rattle.model.specs.Grid.{within, active}
use Rattle.model.specs.Rank.{opposite}
use Rattle.model.specs.Curve.{traded}
use Rattle.model.specs.Rules.{Rule}
use Rattle.model.specs.Orders.{withdrawal}
use Rattle.model.specs.State.{State, is_trading, Outcome}
use Rattle.model.specs.Trading.{Met, active_in_rank, trade_of, Disposition, disposition, Disposition.stands, Disposition.goes}
use Rattle.model.specs.Entry.{gone, settle_remaining, phase_after, meeting, filled, withdrawn_whole, entered_inactive, entered_active, enter}
use Rattle.model.specs.Auction.{trades_at, idle}
use Rattle.model.specs.Calls.{withdrawn, begun, closed, is_market_order}
use Rattle.model.specs.Run.{step}
use Rattle.model.specs.Laws.{TwoParties}
use Rattle.model.proofs.Ranking.{of_side, all_ranked}
use Rattle.model.proofs.Standing.{standing_upto, standing_distinct}
use Rattle.model.proofs.Records.{withdrawals_apart}
use Rattle.model.proofs.Trades.{trades_apart}
use Rattle.model.proofs.Fills.{meet_against, fills_apart}
use Rattle.model.proofs.Sound.{unless_both, enter_cases, auction_cases, Sound}

-- the records of an outcome
abbrev Apart : Outcome → Type 0
Apart o = AllByRecursion TwoParties o.records

module _ (s : State) (h : Sound s) (e : Entry) where
  settle_apart : (ph : Phase) (ts : List TapeRecord) (os : List Order) (q : ℕ) (r : Disposition) → AllByRecursion TwoParties ts → Apart (settle_remaining s e ph ts os q r)
  settle_apart ph ts os zero r k = k
  settle_apart ph ts os (suc q) (stands p) k = k
  settle_apart ph ts os (suc q) (goes reason) k = All-append TwoParties ts (gone s (suc q) reason ∷ []) k (tt, tt)

  -- an order that is entered meets orders of lower numbers
  meeting_apart : Apart (filled s e (meeting s e))
  meeting_apart =
      let m : Met = meeting s e in
      let side : Side = opposite e.side in
      let act : Order → Bool = λ o. active s.settings o.price in
      let lower : Order → Type 0 = λ o. o.number < s.last + 1 in
      let below = All-weaker (λ o. o.number ≤ s.last) lower (λ o k. omega arith) s.orders (standing_upto 0 s.last s.orders h.standing) in
      let here = all_ranked lower side (filter act s.orders) (all_kept_by (of_side side) lower (filter act s.orders) (all_kept_by act lower s.orders below)) in
      settle_apart (phase_after m.interrupted) (map (trade_of e.side (s.last + 1)) m.fills) _ m.remaining (disposition e.condition e.price m)
      (fills_apart e.side (s.last + 1) m.fills
      (meet_against (λ n. n < s.last + 1) (within s.settings.static s.reference) e.side e.price e.quantity (active_in_rank s.settings side s.orders) here))

  active_apart : (c : Condition) → Apart (entered_active s e c (meeting s e))
  active_apart Plain = meeting_apart
  active_apart FillOrKill = cond_both (eqb (meeting s e).remaining 0) (filled s e (meeting s e)) (withdrawn_whole s e) Apart (λ _. meeting_apart) (λ _. (tt, tt))
  active_apart ImmediateOrCancel = meeting_apart

  inactive_apart : (c : Condition) → Apart (entered_inactive s e c)
  inactive_apart Plain = tt
  inactive_apart FillOrKill = (tt, tt)
  inactive_apart ImmediateOrCancel = (tt, tt)

  enter_apart : (tape : ℕ) → Apart (enter s tape e)
  enter_apart tape =
      enter_cases s e tape Apart (λ _. tt)
      (λ _. cond_both (is_trading s.phase) _ _ Apart
      (λ _. cond_both (active s.settings e.price) _ _ Apart (λ _. active_apart e.condition) (λ _. inactive_apart e.condition))
      (λ _. tt))

-- so of every call
pub step_apart : (r : Rule) (tape scratch : ℕ) (s : State) → Sound s → (c : Call) → AllByRecursion TwoParties (step r tape scratch s c).records
step_apart r tape scratch s h (Enter e) = enter_apart s h e tape
step_apart r tape scratch s h (Withdraw m n) = unless_both Apart _ s (withdrawn s n) (λ _. tt) (λ _. (tt, tt))
step_apart r tape scratch s h BeginRandom = unless_both Apart _ s (begun s) (λ _. tt) (λ _. tt)
step_apart r tape scratch s h Auction =
    auction_cases r s tape scratch Apart (λ _. tt)
    (λ _ _ _. withdrawals_apart AfterAuction (filter is_market_order s.orders))
    (λ _ x _ _.
    let ts : List TapeRecord = trades_at s.settings x.price (traded x) s.orders in
    All-append TwoParties ts (map (withdrawal AfterAuction) (filter (idle ts) s.orders)) (trades_apart s.settings x.price (traded x) s.orders (standing_distinct 0 s.last s.orders h.standing)) (withdrawals_apart AfterAuction (filter (idle ts) s.orders)))
step_apart r tape scratch s h Close = unless_both Apart _ s (closed s) (λ _. tt) (λ _. withdrawals_apart AtClose s.orders)
