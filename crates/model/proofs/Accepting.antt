-- An order that is entered: it is refused, or takes the next number and is filled, stands or is withdrawn.
use Rattle.std.proofs.Common.{◌≡◌, ℕ, zero, suc, ◌+◌, ◌≤◌, Bool, true, false, cond, eqb, List, [], ◌∷◌, ◌++◌, map, sym, refl, ap, subst, ⊎_elim, arith}
use Rattle.std.proofs.lemmas.Bool.{cases_eq, cond_both, cond-false, cond-true, eq-eqb, ne_eqb}
use Rattle.model.specs.Types.{Condition, Plain, FillOrKill, ImmediateOrCancel, Entry, Order, Phase, Trading, ConditionUnmet, TapeRecord}
use Rattle.model.specs.Grid.{within, active}
use Rattle.model.specs.Rank.{opposite}
use Rattle.model.specs.Orders.{Standing, left_in}
use Rattle.model.specs.Records.{total_traded}
use Rattle.model.specs.State.{State, is_trading, Outcome, refuse}
use Rattle.model.specs.Trading.{Met, active_in_rank, trade_of, after_fills, Disposition, disposition, Disposition.stands, Disposition.goes}
use Rattle.model.specs.Entry.{stands_as, gone, numbered, settle_remaining, phase_after, meeting, filled, withdrawn_whole, stood, entered_inactive, entered_active, accepted, enter}
use Rattle.model.specs.Laws.{accounted_for}
use Rattle.model.proofs.Standing.{counts, counts_not, standing_wider, left_above, left_append, standing_push}
use Rattle.model.proofs.Records.{traded_append, withdrawn_append}
use Rattle.model.proofs.Fills.{filled_of, filled_quantity, meet_limited, meet_whole, left_active_in_rank, fills_standing, fills_left, traded_fills_own, traded_fills_other, withdrawn_fills}
use Rattle.model.proofs.Sound.{admitted_some, enter_cases, Sound, Keeps, refuse_keeps}

-- an order that is accepted, under the next number
pub record Accepts (s : State) (q : ℕ) (o : Outcome) : Type 0 where
  pub refusal : o.refusal ≡ 0
  pub answer : o.answer ≡ s.last + 1
  pub last : o.state.last ≡ s.last + 1
  pub settings : o.state.settings ≡ s.settings
  pub standing : Standing 0 o.state.orders (s.last + 1)
  pub conserved : (n : ℕ) → left_in s.orders n + cond (eqb (s.last + 1) n) q 0 ≡ accounted_for o.records o.state.orders n

-- what an outcome shows entered under a number
abbrev pub entered_under : Outcome → ℕ → ℕ → ℕ
entered_under o q n = cond (eqb o.refusal 0) (cond (eqb o.answer n) q 0) 0

none_of : (b : Bool) → ◌≡◌ {A = ℕ} (cond b 0 0) 0
none_of true = refl
none_of false = refl

module _ (s : State) (h : Sound s) (e : Entry) where
  abbrev next : ℕ
  next = s.last + 1

  stands_wider : (os : List Order) → Standing 0 os s.last → Standing 0 os next
  stands_wider os k = standing_wider 0 0 s.last next os (omega arith) (omega arith) k

  accepts : (ph : Phase) (recs : List TapeRecord) (os : List Order) → Standing 0 os next
      → ((n : ℕ) → left_in s.orders n + cond (eqb next n) e.quantity 0 ≡ accounted_for recs os n) → Accepts s e.quantity (numbered s ph recs os)
  accepts ph recs os st c = record { refusal = refl; answer = refl; last = refl; settings = refl; standing = st; conserved = c }

  stood_accepts : 1 ≤ e.quantity → Accepts s e.quantity (stood s e)
  stood_accepts k =
      accepts s.phase [] (s.orders ++ stands_as s e e.price e.quantity ∷ [])
      (standing_push 0 s.last s.orders (stands_as s e e.price e.quantity) h.standing (omega arith) k)
      (λ n. omega (arith, left_append s.orders (stands_as s e e.price e.quantity ∷ []) n))

  withdrawn_accepts : Accepts s e.quantity (withdrawn_whole s e)
  withdrawn_accepts = accepts Trading (gone s e.quantity ConditionUnmet ∷ []) s.orders (stands_wider s.orders h.standing) (λ n. omega arith)

  -- all but what remains is accounted for, and what remains stands or is withdrawn
  settle_accepts : (ph : Phase) (ts : List TapeRecord) (os : List Order) (q : ℕ) (r : Disposition) → Standing 0 os s.last
      → ((n : ℕ) → left_in s.orders n + cond (eqb next n) e.quantity 0 ≡ (accounted_for ts os n) + cond (eqb next n) q 0)
      → Accepts s e.quantity (settle_remaining s e ph ts os q r)
  settle_accepts ph ts os zero r st c = accepts ph ts os (stands_wider os st) (λ n. omega (arith, c n, none_of (eqb next n)))
  settle_accepts ph ts os (suc q) (stands p) st c =
      accepts ph ts (os ++ stands_as s e p (suc q) ∷ [])
      (standing_push 0 s.last os (stands_as s e p (suc q)) st (omega arith) (omega arith))
      (λ n. omega (arith, c n, left_append os (stands_as s e p (suc q) ∷ []) n))
  settle_accepts ph ts os (suc q) (goes reason) st c =
      accepts ph (ts ++ gone s (suc q) reason ∷ []) os (stands_wider os st)
      (λ n. omega (arith, c n, traded_append n ts (gone s (suc q) reason ∷ []), withdrawn_append n ts (gone s (suc q) reason ∷ [])))

  -- fills within what is left of the standing orders and of the order
  filled_accepts : (m : Met) → ((n : ℕ) → filled_of n m.fills ≤ left_in s.orders n) → filled_quantity m.fills + m.remaining ≡ e.quantity
      → Accepts s e.quantity (filled s e m)
  filled_accepts m lim whole =
      settle_accepts (phase_after m.interrupted) ts os m.remaining (disposition e.condition e.price m)
      (fills_standing s.last 0 m.fills s.orders h.standing)
      (λ n.
      let f = fills_left s.last 0 m.fills s.orders h.standing lim n in
      let w = withdrawn_fills e.side next n m.fills in
      ⊎_elim
      (λ i.
      let a = left_above 0 s.last n s.orders h.standing (omega arith) in
      let t : total_traded n ts ≡ filled_quantity m.fills = subst (λ k. total_traded k ts ≡ filled_quantity m.fills) i (traded_fills_own e.side next m.fills) in
      omega (arith, counts next n e.quantity i, counts next n m.remaining i))
      (λ i. omega (arith, counts_not next n e.quantity i, counts_not next n m.remaining i, traded_fills_other e.side next n m.fills i))
      (cases_eq next n))
    where
      ts : List TapeRecord
      ts = map (trade_of e.side next) m.fills

      os : List Order
      os = after_fills m.fills s.orders

  meeting_accepts : Accepts s e.quantity (filled s e (meeting s e))
  meeting_accepts =
      filled_accepts (meeting s e)
      (λ n. omega (arith, meet_limited n (within s.settings.static s.reference) e.side e.price e.quantity (active_in_rank s.settings (opposite e.side) s.orders), left_active_in_rank s.settings (opposite e.side) n s.orders))
      (meet_whole (within s.settings.static s.reference) e.side e.price e.quantity (active_in_rank s.settings (opposite e.side) s.orders))

  inactive_accepts : (c : Condition) → 1 ≤ e.quantity → Accepts s e.quantity (entered_inactive s e c)
  inactive_accepts Plain k = stood_accepts k
  inactive_accepts FillOrKill k = withdrawn_accepts
  inactive_accepts ImmediateOrCancel k = withdrawn_accepts

  active_accepts : (c : Condition) → Accepts s e.quantity (entered_active s e c (meeting s e))
  active_accepts Plain = meeting_accepts
  active_accepts FillOrKill = cond_both (eqb (meeting s e).remaining 0) (filled s e (meeting s e)) (withdrawn_whole s e) (Accepts s e.quantity) (λ _. meeting_accepts) (λ _. withdrawn_accepts)
  active_accepts ImmediateOrCancel = meeting_accepts

  pub accepted_accepts : 1 ≤ e.quantity → Accepts s e.quantity (accepted s e)
  accepted_accepts k =
      cond_both (is_trading s.phase) _ _ (Accepts s e.quantity)
      (λ _. cond_both (active s.settings e.price) _ _ (Accepts s e.quantity) (λ _. active_accepts e.condition) (λ _. inactive_accepts e.condition k))
      (λ _. stood_accepts k)

  accepts_keeps : (o : Outcome) → Accepts s e.quantity o → Keeps s (entered_under o e.quantity) o
  accepts_keeps o a = record {
    settings = a.settings;
    standing = subst (Standing 0 o.state.orders) (sym a.last) a.standing;
    later = omega arith;
    conserved = λ n.
        let c = a.conserved n in
        let d = cond-true (eqb o.refusal 0) (cond (eqb o.answer n) e.quantity 0) 0 (eq-eqb o.refusal 0 a.refusal) in
        let f = ap (λ k. cond (eqb k n) e.quantity 0) a.answer in
        omega arith;
  }

  pub enter_keeps : (tape : ℕ) → Keeps s (entered_under (enter s tape e) e.quantity) (enter s tape e)
  enter_keeps tape =
      enter_cases s e tape (λ o. Keeps s (entered_under o e.quantity) o)
      (λ k. refuse_keeps s h (suc k) (entered_under (refuse (suc k) s) e.quantity) (λ n. cond-false (eqb (suc k) 0) (cond (eqb 0 n) e.quantity 0) 0 (ne_eqb (suc k) 0 (omega arith))))
      (λ a. accepts_keeps (accepted s e) (accepted_accepts (admitted_some s tape e a)))
