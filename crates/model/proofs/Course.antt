-- Refused calls change nothing, and calls that are done follow the day's course.
use Rattle.std.proofs.Common.{◌≡◌, ℕ, zero, suc, Bool, true, false, eqb, ◌⊎◌, List, sym, refl, inl, inr, arith}
use Rattle.std.proofs.lemmas.Bool.{cond_both, false≢true}
use Rattle.model.specs.Types.{Condition, Plain, FillOrKill, ImmediateOrCancel, Entry, Order, Phase, PreOpening, Random, Called, Trading, Closed, WrongPhase, UnknownOrder, TapeFull, TapeRecord, Call, Enter, Withdraw, BeginRandom, Auction, Close}
use Rattle.model.specs.Numbers.{no_refusal}
use Rattle.model.specs.Grid.{active}
use Rattle.model.specs.Rules.{Rule}
use Rattle.model.specs.Orders.{find}
use Rattle.model.specs.State.{State, takes_withdrawals, takes_close, is_pre_opening, is_random, is_trading, Outcome, ask, fits}
use Rattle.model.specs.Trading.{Disposition, disposition, Disposition.stands, Disposition.goes}
use Rattle.model.specs.Entry.{settle_remaining, phase_after, meeting, filled, withdrawn_whole, entered_inactive, entered_active, accepted}
use Rattle.model.specs.Calls.{withdrawn, stands_for, begun, closed}
use Rattle.model.specs.Run.{step}
use Rattle.model.specs.Laws.{unchanged, in_course}
use Rattle.model.proofs.Sound.{unless_both, ask_yes, enter_cases, auction_cases}

-- the phases by their tests
pre_opening_is : (ph : Phase) → is_pre_opening ph ≡ true → ph ≡ PreOpening
pre_opening_is PreOpening e = refl
pre_opening_is Random e = absurd (false≢true e)
pre_opening_is (Called p v) e = absurd (false≢true e)
pre_opening_is Trading e = absurd (false≢true e)
pre_opening_is Closed e = absurd (false≢true e)

pub random_is : (ph : Phase) → is_random ph ≡ true → ph ≡ Random
random_is PreOpening e = absurd (false≢true e)
random_is Random e = refl
random_is (Called p v) e = absurd (false≢true e)
random_is Trading e = absurd (false≢true e)
random_is Closed e = absurd (false≢true e)

pub trading_is : (ph : Phase) → is_trading ph ≡ true → ph ≡ Trading
trading_is PreOpening e = absurd (false≢true e)
trading_is Random e = absurd (false≢true e)
trading_is (Called p v) e = absurd (false≢true e)
trading_is Trading e = refl
trading_is Closed e = absurd (false≢true e)

-- an order that is accepted is done, and stays in its phase or interrupts trading
pub record Entered (s : State) (o : Outcome) : Type 0 where
  pub refusal : o.refusal ≡ no_refusal
  pub phase : (o.state.phase ≡ s.phase) ⊎ ((s.phase ≡ Trading) × (o.state.phase ≡ PreOpening))

module _ (s : State) (e : Entry) where
  -- in trading, as long as it is not interrupted
  settled : s.phase ≡ Trading → (b : Bool) (ts : List TapeRecord) (os : List Order) (q : ℕ) (d : Disposition) → Entered s (settle_remaining s e (phase_after b) ts os q d)
  settled t true ts os zero d = record { refusal = refl; phase = inr (t, refl) }
  settled t true ts os (suc q) (stands p) = record { refusal = refl; phase = inr (t, refl) }
  settled t true ts os (suc q) (goes reason) = record { refusal = refl; phase = inr (t, refl) }
  settled t false ts os zero d = record { refusal = refl; phase = inl (sym t) }
  settled t false ts os (suc q) (stands p) = record { refusal = refl; phase = inl (sym t) }
  settled t false ts os (suc q) (goes reason) = record { refusal = refl; phase = inl (sym t) }

  whole : s.phase ≡ Trading → Entered s (withdrawn_whole s e)
  whole t = record { refusal = refl; phase = inl (sym t) }

  met : s.phase ≡ Trading → Entered s (filled s e (meeting s e))
  met t = settled t (meeting s e).interrupted _ _ (meeting s e).remaining (disposition e.condition e.price (meeting s e))

  of_active : s.phase ≡ Trading → (c : Condition) → Entered s (entered_active s e c (meeting s e))
  of_active t Plain = met t
  of_active t FillOrKill = cond_both (eqb (meeting s e).remaining 0) (filled s e (meeting s e)) (withdrawn_whole s e) (Entered s) (λ _. met t) (λ _. whole t)
  of_active t ImmediateOrCancel = met t

  of_inactive : s.phase ≡ Trading → (c : Condition) → Entered s (entered_inactive s e c)
  of_inactive t Plain = record { refusal = refl; phase = inl refl }
  of_inactive t FillOrKill = whole t
  of_inactive t ImmediateOrCancel = whole t

  pub accepted_entered : Entered s (accepted s e)
  accepted_entered =
      cond_both (is_trading s.phase) _ _ (Entered s)
      (λ t.
      let u = trading_is s.phase t in
      cond_both (active s.settings e.price) _ _ (Entered s) (λ _. of_active u e.condition) (λ _. of_inactive u e.condition))
      (λ _. record { refusal = refl; phase = inl refl })

module _ (r : Rule) (tape scratch : ℕ) (s : State) where
  -- a call that is refused changes nothing
  pub step_unchanged : (c : Call) → unchanged s c (step r tape scratch s c)
  step_unchanged (Enter e) = enter_cases s e tape (unchanged s (Enter e)) (λ _ _. (refl, refl, refl)) (λ _ h. absurd (h (accepted_entered s e).refusal))
  step_unchanged (Withdraw m n) = unless_both (unchanged s (Withdraw m n)) _ s (withdrawn s n) (λ _ _. (refl, refl, refl)) (λ _ h. absurd (h refl))
  step_unchanged BeginRandom = unless_both (unchanged s BeginRandom) _ s (begun s) (λ _ _. (refl, refl, refl)) (λ _ h. absurd (h refl))
  step_unchanged Auction = auction_cases r s tape scratch (unchanged s Auction) (λ _ _. (refl, refl, refl)) (λ _ _ _ h. absurd (h refl)) (λ _ _ _ _ h. absurd (h refl))
  step_unchanged Close = unless_both (unchanged s Close) _ s (closed s) (λ _ _. (refl, refl, refl)) (λ _ h. absurd (h refl))

  -- one that is done follows the day's course
  pub step_in_course : (c : Call) → in_course s c (step r tape scratch s c)
  step_in_course (Enter e) = enter_cases s e tape (in_course s (Enter e)) (λ n z. absurd (omega arith)) (λ a _. (a.phase, (accepted_entered s e).phase))
  step_in_course (Withdraw m n) =
      unless_both (in_course s (Withdraw m n)) _ s (withdrawn s n) (λ k z. absurd (omega arith))
      (λ z _. ((ask_yes (takes_withdrawals s.phase) WrongPhase (ask (stands_for m (find n s.orders)) UnknownOrder (ask (fits s tape (withdrawn s n).records) TapeFull no_refusal)) (omega arith) z).0, refl))
  step_in_course BeginRandom =
      unless_both (in_course s BeginRandom) _ s (begun s) (λ k z. absurd (omega arith))
      (λ z _. (pre_opening_is s.phase (ask_yes (is_pre_opening s.phase) WrongPhase no_refusal (omega arith) z).0, refl))
  step_in_course Auction =
      auction_cases r s tape scratch (in_course s Auction) (λ n z. absurd (omega arith))
      (λ b _ _ _. (random_is s.phase b, refl))
      (λ b _ _ _ _. (random_is s.phase b, refl))
  step_in_course Close =
      unless_both (in_course s Close) _ s (closed s) (λ k z. absurd (omega arith))
      (λ z _. ((ask_yes (takes_close s.phase) WrongPhase (ask (fits s tape (closed s).records) TapeFull no_refusal) (omega arith) z).0, refl))
