-- What every call and every list of calls conserve: quantity entered is traded, withdrawn or stands.
use Rattle.std.proofs.Common.{◌≡◌, ℕ, ◌+◌, ◌<◌, ◌≤◌, cond, eqb, ◌⊎◌, List, [], ◌∷◌, refl, inl, inr, arith}
use Rattle.std.proofs.lemmas.Bool.{cond_both, cond-true, eq-eqb, eqb-true}
use Rattle.model.specs.Types.{Entry, Order, TapeRecord, Call, Enter, Withdraw, BeginRandom, Auction, Close}
use Rattle.model.specs.Rules.{Rule}
use Rattle.model.specs.Orders.{left_in}
use Rattle.model.specs.State.{State, Outcome}
use Rattle.model.specs.Entry.{enter}
use Rattle.model.specs.Run.{step, run, after, records}
use Rattle.model.specs.Making.{New}
use Rattle.model.specs.Laws.{each_call, accounted_for, accounted}
use Rattle.model.proofs.Standing.{counts, counts_not, left_above}
use Rattle.model.proofs.Records.{traded_append, withdrawn_append}
use Rattle.model.proofs.Sound.{admitted_some, enter_cases, Sound, new_sound, Keeps, keeps_sound, begin_random_keeps, close_keeps, withdraw_keeps, auction_keeps}
use Rattle.model.proofs.Accepting.{entered_under, accepted_accepts, enter_keeps}

-- the quantity that a call enters under a number
abbrev pub entered_by : Call → Outcome → ℕ → ℕ
entered_by (Enter e) o n = entered_under o e.quantity n
entered_by (Withdraw m k) o n = 0
entered_by BeginRandom o n = 0
entered_by Auction o n = 0
entered_by Close o n = 0

module _ (r : Rule) (tape scratch : ℕ) where
  -- every call keeps a session sound, and conserves under every number
  step_keeps : (s : State) → Sound s → (c : Call) → Keeps s (entered_by c (step r tape scratch s c)) (step r tape scratch s c)
  step_keeps s h (Enter e) = enter_keeps s h e tape
  step_keeps s h (Withdraw m k) = withdraw_keeps s h tape m k
  step_keeps s h BeginRandom = begin_random_keeps s h
  step_keeps s h Auction = auction_keeps s h r tape scratch
  step_keeps s h Close = close_keeps s h tape

  pub step_sound : (s : State) → Sound s → (c : Call) → Sound (step r tape scratch s c).state
  step_sound s h c = keeps_sound s (entered_by c (step r tape scratch s c)) (step r tape scratch s c) h (step_keeps s h c)

  -- an order is accepted under the next number, which is then the last
  enter_numbers : (s : State) → Sound s → (e : Entry) → (enter s tape e).refusal ≡ 0 → ((enter s tape e).answer ≡ s.last + 1) × ((enter s tape e).state.last ≡ s.last + 1)
  enter_numbers s h e =
      enter_cases s e tape (λ o. o.refusal ≡ 0 → (o.answer ≡ s.last + 1) × (o.state.last ≡ s.last + 1))
      (λ n z. absurd (omega arith))
      (λ a z. let k = accepted_accepts s h e (admitted_some s tape e a) in (k.answer, k.last))

  -- so a call enters nothing under a number that was given before it, or that is given after it
  entered_new : (s : State) → Sound s → (c : Call) (n : ℕ) → (n ≤ s.last) ⊎ ((step r tape scratch s c).state.last < n) → entered_by c (step r tape scratch s c) n ≡ 0
  entered_new s h (Enter e) n k =
      let o : Outcome = enter s tape e in
      cond_both (eqb o.refusal 0) _ _ (λ x. x ≡ 0)
      (λ t.
      let i = enter_numbers s h e (eqb-true o.refusal 0 t) in
      counts_not o.answer n e.quantity (λ f. omega (arith, i)))
      (λ _. refl)
  entered_new s h (Withdraw m k') n k = refl
  entered_new s h BeginRandom n k = refl
  entered_new s h Auction n k = refl
  entered_new s h Close n k = refl

  -- what a list of calls enters under a number
  unfoldable pub entered_in : State → List Call → ℕ → ℕ
  entered_in s [] n = 0
  entered_in s (c ∷ cs) n = entered_by c (step r tape scratch s c) n + entered_in (step r tape scratch s c).state cs n

  -- a list conserves, under every number
  run_conserves : (s : State) → Sound s → (cs : List Call) (n : ℕ)
      → left_in s.orders n + entered_in s cs n ≡ accounted_for (records (run r tape scratch s cs)) (after s (run r tape scratch s cs)).orders n
  unfolding entered_in
  run_conserves s h [] n = omega arith
  run_conserves s h (c ∷ cs) n =
      let o : Outcome = step r tape scratch s c in
      let rest : List TapeRecord = records (run r tape scratch o.state cs) in
      omega (arith, (step_keeps s h c).conserved n, run_conserves o.state (step_sound s h c) cs n, traded_append n o.records rest, withdrawn_append n o.records rest)

  entered_later : (s : State) → Sound s → (cs : List Call) (n : ℕ) → n ≤ s.last → entered_in s cs n ≡ 0
  unfolding entered_in
  entered_later s h [] n k = refl
  entered_later s h (c ∷ cs) n k =
      let o : Outcome = step r tape scratch s c in
      let l = (step_keeps s h c).later in
      omega (arith, entered_new s h c n (inl k), entered_later o.state (step_sound s h c) cs n (omega arith))

  -- records and orders that account for all that a list enters under new numbers account for each of its orders
  module _ (rs : List TapeRecord) (final : List Order) where
    accounts_first : (s : State) → Sound s → (c : Call) (cs : List Call) → ((n : ℕ) → s.last < n → entered_in s (c ∷ cs) n ≡ accounted_for rs final n)
        → accounted rs final s c (step r tape scratch s c)
    unfolding entered_in
    accounts_first s h (Enter e) cs k = λ z.
        let o : Outcome = enter s tape e in
        let i = enter_numbers s h e z in
        let a : o.answer ≡ s.last + 1 = i.0 in
        let l : o.state.last ≡ s.last + 1 = i.1 in
        let c₁ = cond-true (eqb o.refusal 0) (cond (eqb o.answer o.answer) e.quantity 0) 0 (eq-eqb o.refusal 0 z) in
        let c₂ = counts o.answer o.answer e.quantity refl in
        let none = entered_later o.state (step_sound s h (Enter e)) cs o.answer (omega arith) in
        let all = k o.answer (omega arith) in
        omega arith
    accounts_first s h (Withdraw m n) cs k = tt
    accounts_first s h BeginRandom cs k = tt
    accounts_first s h Auction cs k = tt
    accounts_first s h Close cs k = tt

    accounts : (s : State) → Sound s → (cs : List Call) → ((n : ℕ) → s.last < n → entered_in s cs n ≡ accounted_for rs final n)
        → each_call (accounted rs final) s cs (run r tape scratch s cs)
    unfolding entered_in
    accounts s h [] k = tt
    accounts s h (c ∷ cs) k = (
      accounts_first s h c cs k,
      accounts (step r tape scratch s c).state (step_sound s h c) cs
          (λ n l. omega (arith, k n (omega (arith, (step_keeps s h c).later)), entered_new s h c n (inr l))),
    )

  -- the law: in a run of a new session every accepted order's quantity is traded, withdrawn or stands
  pub run_accounted : (s : State) → New s → (cs : List Call)
      → each_call (accounted (records (run r tape scratch s cs)) (after s (run r tape scratch s cs)).orders) s cs (run r tape scratch s cs)
  run_accounted s new cs =
      let h = new_sound s new in
      accounts (records (run r tape scratch s cs)) (after s (run r tape scratch s cs)).orders s h cs
      (λ n l. omega (arith, run_conserves s h cs n, left_above 0 s.last n s.orders h.standing l))
