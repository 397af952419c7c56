-- The records of a list find places on the tape, one after another.
use Rattle.std.proofs.Common.{◌≡◌, ℕ, zero, suc, ◌+◌, ◌≤◌, min, eqb, List, [], ◌∷◌, ◌++◌, length, take, drop, set, refl, ap, ◌∙◌, append_assoc, zero-add, add-one, arith, length-append}
use lib.Seq.{sets, sets-eq}
use Rattle.std.proofs.lemmas.Bool.{cond_both, leb-true}
use Rattle.model.specs.Types.{Condition, Plain, FillOrKill, ImmediateOrCancel, Entry, Order, Phase, WrongPhase, UnknownOrder, TapeFull, TapeRecord, Call, Enter, Withdraw, BeginRandom, Auction, Close}
use Rattle.model.specs.Numbers.{max_places, no_refusal}
use Rattle.model.specs.Grid.{active}
use Rattle.model.specs.Rules.{Rule}
use Rattle.model.specs.Orders.{find}
use Rattle.model.specs.Records.{written}
use Rattle.model.specs.State.{State, takes_withdrawals, takes_close, is_trading, Outcome, refuse, ask, free, fits}
use Rattle.model.specs.Trading.{Disposition, disposition, Disposition.stands, Disposition.goes}
use Rattle.model.specs.Entry.{settle_remaining, phase_after, meeting, filled, withdrawn_whole, entered_inactive, entered_active, accepted}
use Rattle.model.specs.Calls.{withdrawn, stands_for, withdraw, begun, closed, close, unpriced, priced}
use Rattle.model.specs.Making.{New}
use Rattle.model.specs.Run.{step, run, after, records}
use Rattle.model.specs.Laws.{OnTape}
use Rattle.model.proofs.Sound.{unless_both, ask_yes, enter_cases, struck_at, auction_cases}

written_sets : (tape : List TapeRecord) (used : ℕ) (rs : List TapeRecord) → written tape used rs ≡ sets tape used rs
written_sets tape used [] = refl
written_sets tape used (r ∷ rs) = written_sets (set tape used r) (used + 1) rs ∙ ap (λ n. sets (set tape used r) n rs) (add-one used)

-- where they fit, records take the places from the first free one on, and no others
pub written_places : (tape : List TapeRecord) (used : ℕ) (rs : List TapeRecord) → used + length rs ≤ length tape → written tape used rs ≡ take used tape ++ (rs ++ drop (used + length rs) tape)
written_places tape used rs h = written_sets tape used rs ∙ sets-eq rs tape used h ∙ append_assoc (take used tape) rs (drop (used + length rs) tape)

-- a session counts the places that an outcome used
abbrev pub Counted : State → Outcome → Type 0
Counted s o = o.state.used ≡ s.used + length o.records

module _ (s : State) (e : Entry) where
  settled : (ph : Phase) (ts : List TapeRecord) (os : List Order) (q : ℕ) (d : Disposition) → Counted s (settle_remaining s e ph ts os q d)
  settled ph ts os zero d = refl
  settled ph ts os (suc q) (stands p) = refl
  settled ph ts os (suc q) (goes reason) = refl

  met : Counted s (filled s e (meeting s e))
  met = settled (phase_after (meeting s e).interrupted) _ _ (meeting s e).remaining (disposition e.condition e.price (meeting s e))

  of_active : (c : Condition) → Counted s (entered_active s e c (meeting s e))
  of_active Plain = met
  of_active FillOrKill = cond_both (eqb (meeting s e).remaining 0) (filled s e (meeting s e)) (withdrawn_whole s e) (Counted s) (λ _. met) (λ _. refl)
  of_active ImmediateOrCancel = met

  of_inactive : (c : Condition) → Counted s (entered_inactive s e c)
  of_inactive Plain = refl
  of_inactive FillOrKill = refl
  of_inactive ImmediateOrCancel = refl

  accepted_counted : Counted s (accepted s e)
  accepted_counted =
      cond_both (is_trading s.phase) _ _ (Counted s)
      (λ _. cond_both (active s.settings e.price) _ _ (Counted s) (λ _. of_active e.condition) (λ _. of_inactive e.condition))
      (λ _. refl)

-- every call counts its records, which find free places
pub record Placed (tape : ℕ) (s : State) (o : Outcome) : Type 0 where
  pub counted : Counted s o
  pub free : length o.records ≤ free s tape

module _ (tape : ℕ) (s : State) where
  refused : (n : ℕ) → Placed tape s (refuse (suc n) s)
  refused n = record { counted = omega arith; free = omega arith }

  -- the last question, whether every record finds a place
  abbrev places : Outcome → ℕ
  places o = ask (fits s tape o.records) TapeFull no_refusal

  last_asked : (o : Outcome) → places o ≡ 0 → length o.records ≤ free s tape
  last_asked o z = leb-true (length o.records) (free s tape) (ask_yes (fits s tape o.records) TapeFull no_refusal (omega arith) z).0

  withdraw_placed : (m n : ℕ) → Placed tape s (withdraw s tape m n)
  withdraw_placed m n =
      unless_both (Placed tape s) _ s (withdrawn s n) refused
      (λ z.
      let a = ask_yes (takes_withdrawals s.phase) WrongPhase (ask (stands_for m (find n s.orders)) UnknownOrder (places (withdrawn s n))) (omega arith) z in
      let b = ask_yes (stands_for m (find n s.orders)) UnknownOrder (places (withdrawn s n)) (omega arith) a.1 in
      record { counted = refl; free = last_asked (withdrawn s n) b.1 })

  close_placed : Placed tape s (close s tape)
  close_placed =
      unless_both (Placed tape s) _ s (closed s) refused
      (λ z. record { counted = refl; free = last_asked (closed s) (ask_yes (takes_close s.phase) WrongPhase (places (closed s)) (omega arith) z).1 })

module _ (r : Rule) (tape scratch : ℕ) where
  pub step_placed : (s : State) (c : Call) → Placed tape s (step r tape scratch s c)
  step_placed s (Enter e) =
      enter_cases s e tape (Placed tape s) (refused tape s)
      (λ a. record { counted = accepted_counted s e; free = leb-true (length (accepted s e).records) (free s tape) a.places })
  step_placed s (Withdraw m n) = withdraw_placed tape s m n
  step_placed s BeginRandom = unless_both (Placed tape s) _ s (begun s) (refused tape s) (λ _. record { counted = refl; free = omega arith })
  step_placed s Auction =
      auction_cases r s tape scratch (Placed tape s) (refused tape s)
      (λ _ _ f. record { counted = refl; free = leb-true (length (unpriced s).records) (free s tape) f })
      (λ _ x _ f. record { counted = omega arith; free = omega (arith, leb-true (length (struck_at s x).records) (free (priced s x).state tape) f) })
  step_placed s Close = close_placed tape s

  run_counted : (s : State) (cs : List Call) → (after s (run r tape scratch s cs)).used ≡ s.used + length (records (run r tape scratch s cs))
  run_counted s [] = omega arith
  run_counted s (c ∷ cs) =
      let o : Outcome = step r tape scratch s c in
      omega (arith, (step_placed s c).counted, run_counted o.state cs, length-append o.records (records (run r tape scratch o.state cs)))

  run_room : (s : State) (cs : List Call) → length (records (run r tape scratch s cs)) ≤ free s tape
  run_room s [] = omega arith
  run_room s (c ∷ cs) =
      let o : Outcome = step r tape scratch s c in
      omega (arith, (step_placed s c).counted, (step_placed s c).free, run_room o.state cs, length-append o.records (records (run r tape scratch o.state cs)))

  -- the law: the records of a run of a new session stand on the tape from its first place on
  pub run_on_tape : (s : State) → New s → (cs : List Call) → OnTape tape s (run r tape scratch s cs)
  run_on_tape s new cs =
      let rs : List TapeRecord = records (run r tape scratch s cs) in
      let room : length rs ≤ min tape max_places = omega (arith, run_room s cs, new.unwritten) in
      record {
        counted = omega (arith, run_counted s cs, new.unwritten);
        room = room;
        written = λ places e.
            ap (λ n. written places n rs) new.unwritten
            ∙ written_places places 0 rs (omega arith)
            ∙ ap (λ n. rs ++ drop n places) (zero-add (length rs));
      }
