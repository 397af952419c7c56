-- Every call keeps the law of trading; what remains of an order is short of every active order of the other side.
use Rattle.std.proofs.Common.{◌≡◌, ℕ, zero, suc, ◌+◌, ◌<◌, ◌≤◌, Bool, true, false, eqb, ◌⊎◌, List, [], ◌∷◌, map, filter, sym, refl, ap, subst, inl, inr, arith}
use Rattle.std.specs.List.{ContainsAt as Has, AllByRecursion}
use Rattle.std.proofs.ByRecursion.{all-has, all_kept_by}
use Rattle.std.proofs.lemmas.Bool.{both_ways, cases_Bool, cond_both, leb-false}
use Rattle.model.specs.Types.{Side, Buy, Sell, OrderPrice, Market, Limit, Condition, Plain, FillOrKill, ImmediateOrCancel, Entry, Order, PreOpening, Trading, TapeRecord, Call, Enter, Withdraw, BeginRandom, Auction, Close}
use Rattle.model.specs.Grid.{Settings, within, active}
use Rattle.model.specs.Rank.{opposite}
use Rattle.model.specs.Curve.{allows, traded}
use Rattle.model.specs.Rules.{Rule}
use Rattle.model.specs.Orders.{Standing, is_market, find, left_of}
use Rattle.model.specs.State.{State, is_trading, done}
use Rattle.model.specs.Trading.{limit, Fill, met, active_in_rank, trade_of, after_fills, last_price, Disposition, disposition, Disposition.stands, Disposition.goes}
use Rattle.model.specs.Entry.{stands_as, settle_remaining, meeting, filled, withdrawn_whole, stood, entered_inactive, entered_active, accepted, enter}
use Rattle.model.specs.Calls.{withdrawn, withdraw, begun, closed, auction}
use Rattle.model.specs.Run.{step}
use Rattle.model.specs.Lawful.{Lawful}
use Rattle.model.specs.Laws.{Uncrossed, while_trading}
use Rattle.model.specs.Allocations.{FirstPrice, Found}
use Rattle.model.proofs.Lists.{has_kept}
use Rattle.model.proofs.Ranking.{of_side, all_ranked, has_ranked, ranked_wider, same_side_refl}
use Rattle.model.proofs.Standing.{standing_alive}
use Rattle.model.proofs.Choice.{call_price_found}
use Rattle.model.proofs.Fills.{filled_of, fills_standing, Done, meet_done}
use Rattle.model.proofs.Sound.{unless_both, enter_cases, auction_cases, Sound}
use Rattle.model.proofs.Uncrossing.{Left, fills_leave, uncrossed_left, uncrossed_lower, UncrossedAfter, ShortOf, uncrossed_push, not_trading, uncrossed_in_trading, trading_when_uncrossed}
use Rattle.model.proofs.Striking.{struck_uncrossed, unpriced_uncrossed}
use Rattle.model.proofs.Course.{trading_is}

-- where something remains and nothing interrupts, what stands active of the other side after the fills is not allowed
not_allowed : (g : Settings) (lo hi : ℕ) (s : Side) (p : OrderPrice) (fs : List Fill) (os : List Order) → Standing lo os hi
    → AllByRecursion (Done s p fs) (active_in_rank g (opposite s) os) → (y : Order) → Has (after_fills fs os) y → y.side ≡ opposite s → active g y.price ≡ true
    → allows s p (limit y.price) ≡ false
not_allowed g lo hi s p fs os st done y m sy ay = rw k.price (go (all-has (Done s p fs) (active_in_rank g (opposite s) os) k.was done ranks))
  where
    act : Order → Bool
    act o = active g o.price

    k : Left os (λ n. filled_of n fs) y
    k = all-has (Left os (λ n. filled_of n fs)) (after_fills fs os) y (fills_leave lo hi fs os st) m

    some : 1 ≤ y.left
    some = all-has (λ o. 1 ≤ o.left) (after_fills fs os) y (standing_alive lo hi (after_fills fs os) (fills_standing hi lo fs os st)) m

    ranks : Has (active_in_rank g (opposite s) os) k.was
    ranks = has_ranked (opposite s) (filter act os) k.was (has_kept (of_side (opposite s)) (filter act os) k.was (has_kept act os k.was k.stood (rw k.price at ay)) (rw (← k.side, sy) (same_side_refl (opposite s))))

    go : Done s p fs k.was → allows s p (limit k.was.price) ≡ false
    go (inl l) = absurd (omega (arith, k.left, some))
    go (inr e) = e

-- an order is short of what its price does not allow
short_of_not_allowed : (s : Side) (p c : OrderPrice) → allows s p (limit c) ≡ false → ShortOf s p c
short_of_not_allowed s Market c h = absurd (both_ways true h refl)
short_of_not_allowed Buy (Limit l) c h = leb-false (limit c) l h
short_of_not_allowed Sell (Limit l) c h = leb-false l (limit c) h

last_is_limit : (p : ℕ) (fs : List Fill) → is_market (last_price (Limit p) fs) ≡ false
last_is_limit p [] = refl
last_is_limit p (f ∷ fs) = last_is_limit f.price fs

-- where what remains stands, it is no market order, and is short of what the order's price does not allow
remaining_short : (c : Condition) (s : Side) (p : OrderPrice) (fs : List Fill) (remaining : ℕ) (q : OrderPrice) → disposition c p (met fs remaining false) ≡ stands q
    → (is_market q ≡ false) × ((y : OrderPrice) → allows s p (limit y) ≡ false → ShortOf s q y)
remaining_short Plain s Market [] remaining q e = let z : ◌≡◌ {A = ℕ} 0 1 = cc in absurd (omega arith)
remaining_short Plain s Market (f ∷ fs) remaining q e =
    let k : last_price (Limit f.price) fs ≡ q = cc in
    (rw k at (last_is_limit f.price fs), λ y n. absurd (both_ways true n refl))
remaining_short Plain s (Limit p) fs remaining q e =
    let k : Limit p ≡ q = cc in
    (rw (← k) refl, λ y n. rw k at (short_of_not_allowed s (Limit p) y n))
remaining_short FillOrKill s p fs remaining q e = let z : ◌≡◌ {A = ℕ} 0 1 = cc in absurd (omega arith)
remaining_short ImmediateOrCancel s p fs remaining q e = let z : ◌≡◌ {A = ℕ} 0 1 = cc in absurd (omega arith)

inactive_limit : (g : Settings) (p : OrderPrice) → active g p ≡ false → is_market p ≡ false
inactive_limit g Market h = absurd (both_ways true h refl)
inactive_limit g (Limit p) h = refl

module _ (s : State) (e : Entry) (sound : Sound s) where
  settle_stopped : (ts : List TapeRecord) (ms : List Order) (q : ℕ) (r : Disposition) → UncrossedAfter (settle_remaining s e PreOpening ts ms q r)
  settle_stopped ts ms zero r = tt
  settle_stopped ts ms (suc q) (stands p) = tt
  settle_stopped ts ms (suc q) (goes reason) = tt

  settle_trading : (ts : List TapeRecord) (ms : List Order) (q : ℕ) (r : Disposition) → Uncrossed s.settings ms
      → ((p : OrderPrice) → 0 < q → r ≡ stands p → (is_market p ≡ false) × ((y : Order) → Has ms y → y.side ≡ opposite e.side → active s.settings y.price ≡ true → ShortOf e.side p y.price))
      → UncrossedAfter (settle_remaining s e Trading ts ms q r)
  settle_trading ts ms zero r clear short = clear
  settle_trading ts ms (suc q) (stands p) clear short =
      let k = short p (omega arith) refl in
      uncrossed_push s.settings ms (stands_as s e p (suc q)) k.0 (λ a. k.1) clear
  settle_trading ts ms (suc q) (goes reason) clear short = clear

  filled_uncrossed : (fs : List Fill) (remaining : ℕ) (i : Bool) → Uncrossed s.settings s.orders
      → (i ≡ false → 0 < remaining → AllByRecursion (Done e.side e.price fs) (active_in_rank s.settings (opposite e.side) s.orders))
      → UncrossedAfter (filled s e (met fs remaining i))
  filled_uncrossed fs remaining true clear done = settle_stopped (map (trade_of e.side (s.last + 1)) fs) (after_fills fs s.orders) remaining (disposition e.condition e.price (met fs remaining true))
  filled_uncrossed fs remaining false clear done =
      settle_trading (map (trade_of e.side (s.last + 1)) fs) (after_fills fs s.orders) remaining (disposition e.condition e.price (met fs remaining false))
      (uncrossed_left s.settings s.orders (after_fills fs s.orders) (λ n. filled_of n fs) clear (fills_leave 0 s.last fs s.orders sound.standing))
      (λ p l r. let k = remaining_short e.condition e.side e.price fs remaining p r in
      (k.0, λ y m sy ay. k.1 y.price (not_allowed s.settings 0 s.last e.side e.price fs s.orders sound.standing (done refl l) y m sy ay)))

  meeting_uncrossed : Uncrossed s.settings s.orders → UncrossedAfter (filled s e (meeting s e))
  meeting_uncrossed clear =
      let act : Order → Bool = λ o. active s.settings o.price in
      let t : Side = opposite e.side in
      let limits : Order → Type 0 = λ r. is_market r.price ≡ false in
      filled_uncrossed (meeting s e).fills (meeting s e).remaining (meeting s e).interrupted clear
      (meet_done (within s.settings.static s.reference) e.side e.price e.quantity (active_in_rank s.settings t s.orders)
      (all_ranked limits t (filter act s.orders) (all_kept_by (of_side t) limits (filter act s.orders) (all_kept_by act limits s.orders clear.no_market)))
      (ranked_wider t (filter act s.orders)))

  withdrawn_uncrossed : Uncrossed s.settings s.orders → UncrossedAfter (withdrawn_whole s e)
  withdrawn_uncrossed clear = clear

  inactive_uncrossed : (c : Condition) → s.phase ≡ Trading → Uncrossed s.settings s.orders → active s.settings e.price ≡ false
      → UncrossedAfter (entered_inactive s e c)
  inactive_uncrossed Plain ph clear na =
      trading_when_uncrossed s.phase (stood s e).state ph
      (uncrossed_push s.settings s.orders (stands_as s e e.price e.quantity) (inactive_limit s.settings e.price na) (λ a. absurd (both_ways (active s.settings e.price) na a)) clear)
  inactive_uncrossed FillOrKill ph clear na = withdrawn_uncrossed clear
  inactive_uncrossed ImmediateOrCancel ph clear na = withdrawn_uncrossed clear

  active_uncrossed : (c : Condition) → Uncrossed s.settings s.orders → UncrossedAfter (entered_active s e c (meeting s e))
  active_uncrossed Plain clear = meeting_uncrossed clear
  active_uncrossed FillOrKill clear = cond_both (eqb (meeting s e).remaining 0) _ _ UncrossedAfter (λ t. meeting_uncrossed clear) (λ t. withdrawn_uncrossed clear)
  active_uncrossed ImmediateOrCancel clear = meeting_uncrossed clear

  -- an accepted order keeps the law of trading
  accepted_uncrossed : while_trading s.phase s → UncrossedAfter (accepted s e)
  accepted_uncrossed law =
      cond_both (is_trading s.phase) _ _ UncrossedAfter
      (λ t. let ph = trading_is s.phase t in
      let clear = uncrossed_in_trading s.phase s ph law in
      cond_both (active s.settings e.price) _ _ UncrossedAfter (λ a. active_uncrossed e.condition clear) (λ a. inactive_uncrossed e.condition ph clear a))
      (λ t. not_trading s.phase (stood s e).state t)

  enter_uncrossed : (tape : ℕ) → while_trading s.phase s → UncrossedAfter (enter s tape e)
  enter_uncrossed tape law = enter_cases s e tape UncrossedAfter (λ n. law) (λ _. accepted_uncrossed law)

module _ (s : State) (h : Sound s) (law : while_trading s.phase s) where
  withdraw_uncrossed : (tape m n : ℕ) → UncrossedAfter (withdraw s tape m n)
  withdraw_uncrossed tape m n = unless_both UncrossedAfter _ s (withdrawn s n) (λ k. law) (λ _. go (cases_Bool (is_trading s.phase)))
    where
      go : (is_trading s.phase ≡ true) ⊎ (is_trading s.phase ≡ false) → while_trading s.phase (withdrawn s n).state
      go (inl t) =
          let ph = trading_is s.phase t in
          trading_when_uncrossed s.phase (withdrawn s n).state ph (uncrossed_lower s.settings n (left_of (find n s.orders)) 0 s.last s.orders h.standing (uncrossed_in_trading s.phase s ph law))
      go (inr f) = not_trading s.phase (withdrawn s n).state f

  auction_uncrossed : (r : Rule) → Lawful r → (tape scratch : ℕ) → UncrossedAfter (auction r s tape scratch)
  auction_uncrossed r lawful tape scratch =
      let found = call_price_found r lawful s.settings h.valid s.orders in
      auction_cases r s tape scratch UncrossedAfter (λ k. law)
      (λ _ e _. unpriced_uncrossed s.settings s.orders 0 s.last h.standing (subst (Found r s.settings s.orders) e found))
      (λ _ x e _. let b : FirstPrice r s.settings s.orders x = subst (Found r s.settings s.orders) e found in
      struck_uncrossed s.settings s.orders 0 s.last x.price (traded x) h.standing (sym (ap traded b.is)) b.most)

  pub step_uncrossed : (r : Rule) → Lawful r → (tape scratch : ℕ) (c : Call) → UncrossedAfter (step r tape scratch s c)
  step_uncrossed r lawful tape scratch (Enter e) = enter_uncrossed s e h tape law
  step_uncrossed r lawful tape scratch (Withdraw m n) = withdraw_uncrossed tape m n
  step_uncrossed r lawful tape scratch BeginRandom = unless_both UncrossedAfter _ s (begun s) (λ k. law) (λ _. tt)
  step_uncrossed r lawful tape scratch Auction = auction_uncrossed r lawful tape scratch
  step_uncrossed r lawful tape scratch Close = unless_both UncrossedAfter _ s (closed s) (λ k. law) (λ _. tt)
