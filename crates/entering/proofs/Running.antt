-- The course of an order says what becomes of it.
use Rattle.std.proofs.Common.{◌≡◌, ℕ, zero, suc, ◌+◌, ◌≤◌, Bool, true, false, cond, eqb, ltb, List, [], ◌∷◌, ◌++◌, map, length, sym, refl, ap, ◌∙◌, subst, append-nil, Some, None, Option, arith}
use Rattle.std.specs.List.{AllByRecursion}
use Rattle.std.proofs.lemmas.Bool.{cond_both, cond-true, cond-false, ne_eqb, eqb-false, lt-ltb}
use Rattle.model.specs.declared.types.Order.{Order}
use Rattle.model.specs.declared.types.OrderPrice.{OrderPrice}
use Rattle.model.specs.declared.types.OrderPrice.TheVariants.{Market, Limit}
use Rattle.model.specs.declared.types.Condition.{Condition}
use Rattle.model.specs.declared.types.Condition.TheVariants.{Plain, FillOrKill, ImmediateOrCancel}
use Rattle.model.specs.declared.types.Entry.{Entry}
use Rattle.model.specs.declared.types.Phase.{Phase}
use Rattle.model.specs.declared.types.Phase.TheVariants.{Trading}
use Rattle.model.specs.declared.types.TapeRecord.{TapeRecord}
use Rattle.model.specs.Grid.{within, active}
use Rattle.model.specs.Rank.{opposite}
use Rattle.model.specs.State.{State, Outcome, is_trading}
use Rattle.model.specs.Trading.{Fill, Met, active_in_rank, trade_of, after_fills, last_price, Disposition, Disposition.stands, Disposition.goes, market_disposition, disposition}
use Rattle.model.specs.Entry.{numbered, settle_remaining, phase_after, meeting, filled, withdrawn_whole, stood, entered_inactive, entered_active, accepted}
use Rattle.model.proofs.Lists.{cond_pair}
use Rattle.model.proofs.Fills.{meet_whole}
use Rattle.book.specs.Bounds.{Bounded, price_in_bounds}
use Rattle.book.specs.Meaning.{max_capacity}
use Rattle.meeting.specs.declared.plans.Plan.{Plan}
use Rattle.meeting.specs.Plans.{last_price_or, Planned}
use Rattle.entering.specs.declared.courses.Fate.{Fate}
use Rattle.entering.specs.declared.courses.Fate.TheVariants.{Stands, Withdrawn, Traded}
use Rattle.entering.specs.declared.courses.Course.{Course}
use Rattle.entering.specs.Courses.{stands_whole, goes_whole, market_fate, remaining_fate, fate_of, filled_by, inactive_course, active_course}
use Rattle.entering.specs.Accepted.{own_order, own_record, some_fills, outcome_of, Placeable, Runs}
use Rattle.entering.proofs.Opposite.{length_active, length_fills, FillInBounds, last_price_in_bounds}

-- a disposition as a fate
abbrev as_fate : Disposition → Fate
as_fate (stands p) = Stands p
as_fate (goes r) = Withdrawn r

stands_at_last : (x : ℕ) (fs : List Fill) (b : Bool) → market_fate (last_price_or (Some x) fs) b ≡ Stands (last_price (Limit x) fs)
stands_at_last x [] b = refl
stands_at_last x (f ∷ fs) b = stands_at_last f.price fs b

market_same : (fs : List Fill) (b : Bool) → market_fate (last_price_or None fs) b ≡ as_fate (market_disposition fs b)
market_same [] false = refl
market_same [] true = refl
market_same (f ∷ fs) b = stands_at_last f.price fs b

fate_same : (c : Condition) (p : OrderPrice) (t : Plan) (m : Met) → t.interrupted ≡ m.interrupted → t.last_price ≡ last_price_or None m.fills → remaining_fate c p t ≡ as_fate (disposition c p m)
fate_same Plain Market t m i l = ap (λ q. market_fate q t.interrupted) l ∙ ap (market_fate (last_price_or None m.fills)) i ∙ market_same m.fills m.interrupted
fate_same Plain (Limit p) t m i l = refl
fate_same FillOrKill p t m i l = refl
fate_same ImmediateOrCancel p t m i l = refl

all_fills : (n : ℕ) (fs : List Fill) → n ≡ length fs → some_fills n fs ≡ fs
all_fills n [] h = cond_both (ltb 0 n) [] [] (λ l. l ≡ []) (λ _. refl) (λ _. refl)
all_fills n (f ∷ fs) h = cond-true (ltb 0 n) (f ∷ fs) [] (lt-ltb 0 n (omega arith))

-- something remains, at a price in bounds
market_placeable : (p : Option ℕ) (b : Bool) (left q : ℕ) → 1 ≤ left → left ≤ q → FillInBounds p → Placeable q left (market_fate p b)
market_placeable (Some x) b left q l h k = (l, h, k)
market_placeable None true left q l h k = (l, h, refl)
market_placeable None false left q l h k = tt

remaining_placeable : (c : Condition) (p : OrderPrice) (t : Plan) (q : ℕ) → 1 ≤ t.remaining → t.remaining ≤ q → price_in_bounds p ≡ true → FillInBounds t.last_price → Placeable q t.remaining (remaining_fate c p t)
remaining_placeable Plain Market t q l h a b = market_placeable t.last_price t.interrupted t.remaining q l h b
remaining_placeable Plain (Limit p) t q l h a b = (l, h, a)
remaining_placeable FillOrKill p t q l h a b = tt
remaining_placeable ImmediateOrCancel p t q l h a b = tt

module _ (s : State) (e : Entry) where
  stands_runs : accepted s e ≡ stood s e → Runs s e (stands_whole s.phase e)
  stands_runs h = record { outcome = h; fills = refl; few = omega arith; removed = omega arith; placeable = λ q p r. (q, omega arith, p) }

  goes_runs : accepted s e ≡ withdrawn_whole s e → Runs s e (goes_whole e)
  goes_runs h = record { outcome = h ∙ ap (numbered s _ _) (sym (append-nil s.orders)); fills = refl; few = omega arith; removed = omega arith; placeable = λ q p r. tt }

  abbrev number : ℕ
  number = s.last + 1

  -- what remains is settled by its fate
  settles : (ph : Phase) (ts : List TapeRecord) (os : List Order) (q : ℕ) (d : Disposition)
      → settle_remaining s e ph ts os q d ≡ numbered s ph (ts ++ own_record number q (cond (eqb q 0) Traded (as_fate d))) (os ++ own_order number e q (cond (eqb q 0) Traded (as_fate d)))
  settles ph ts os zero d = ap (λ l. numbered s ph l os) (sym (append-nil ts)) ∙ ap (numbered s ph (ts ++ [])) (sym (append-nil os))
  settles ph ts os (suc q) (stands p) =
      subst (λ v. settle_remaining s e ph ts os (suc q) (stands p) ≡ numbered s ph (ts ++ own_record number (suc q) (cond v Traded (Stands p))) (os ++ own_order number e (suc q) (cond v Traded (Stands p)))) (sym (ne_eqb (suc q) 0 (λ z. omega arith)))
      (ap (λ l. numbered s ph l (os ++ own_order number e (suc q) (Stands p))) (sym (append-nil ts)))
  settles ph ts os (suc q) (goes r) =
      subst (λ v. settle_remaining s e ph ts os (suc q) (goes r) ≡ numbered s ph (ts ++ own_record number (suc q) (cond v Traded (Withdrawn r))) (os ++ own_order number e (suc q) (cond v Traded (Withdrawn r)))) (sym (ne_eqb (suc q) 0 (λ z. omega arith)))
      (ap (numbered s ph (ts ++ own_record number (suc q) (Withdrawn r))) (sym (append-nil os)))

  module _ (w : s.settings.static ≤ 99) (bounded : AllByRecursion Bounded s.orders) (count : length s.orders ≤ max_capacity) (t : Plan) (plan : Planned s.orders (meeting s e) t) where
    abbrev came_to : List Fill → Bool → ℕ → Fate → Outcome
    came_to fs b q f = numbered s (phase_after b) (map (trade_of e.side number) fs ++ own_record number q f) (after_fills fs s.orders ++ own_order number e q f)

    same_fills : some_fills t.fills (meeting s e).fills ≡ (meeting s e).fills
    same_fills = all_fills t.fills (meeting s e).fills plan.fills

    same_fate : fate_of e t ≡ cond (eqb (meeting s e).remaining 0) Traded (as_fate (disposition e.condition e.price (meeting s e)))
    same_fate =
        ap (λ f. cond (eqb t.remaining 0) Traded f) (fate_same e.condition e.price t (meeting s e) plan.interrupted plan.last)
        ∙ ap (λ q. cond (eqb q 0) Traded (as_fate (disposition e.condition e.price (meeting s e)))) plan.remaining

    same_outcome : outcome_of s e (filled_by e t) ≡ filled s e (meeting s e)
    same_outcome =
        let m : Met = meeting s e in
        let d : Disposition = disposition e.condition e.price m in
        ap (λ fs. came_to fs t.interrupted t.remaining (fate_of e t)) same_fills
        ∙ ap (λ b. came_to m.fills b t.remaining (fate_of e t)) plan.interrupted
        ∙ ap (λ q. came_to m.fills m.interrupted q (fate_of e t)) plan.remaining
        ∙ ap (came_to m.fills m.interrupted m.remaining) same_fate
        ∙ sym (settles (phase_after m.interrupted) (map (trade_of e.side number) m.fills) (after_fills m.fills s.orders) m.remaining d)

    filled_placeable : price_in_bounds e.price ≡ true → 1 ≤ s.reference → Placeable e.quantity t.remaining (fate_of e t)
    filled_placeable p r =
        let whole = meet_whole (within s.settings.static s.reference) e.side e.price e.quantity (active_in_rank s.settings (opposite e.side) s.orders) in
        let last = last_price_in_bounds s.settings s.reference e.side (opposite e.side) e.price e.quantity s.orders w r bounded in
        cond_both (eqb t.remaining 0) Traded (remaining_fate e.condition e.price t) (Placeable e.quantity t.remaining)
        (λ _. tt)
        (λ h. remaining_placeable e.condition e.price t e.quantity (omega (arith, eqb-false t.remaining 0 h)) (omega (arith, plan.remaining)) p (subst FillInBounds (sym plan.last) last))

    filled_runs : accepted s e ≡ filled s e (meeting s e) → Runs s e (filled_by e t)
    filled_runs h = record {
      outcome = h ∙ sym same_outcome;
      fills = plan.fills ∙ sym (ap length same_fills);
      few = omega (arith, plan.fills, length_fills (within s.settings.static s.reference) e.side e.price e.quantity (active_in_rank s.settings (opposite e.side) s.orders), length_active s.settings (opposite e.side) s.orders);
      removed = ap (λ fs. t.removed + length (after_fills fs s.orders)) same_fills ∙ plan.removed;
      placeable = λ q p r. filled_placeable p r;
    }

    by_plan : (c : Condition) → accepted s e ≡ entered_active s e c (meeting s e) → Runs s e (active_course e c t)
    by_plan Plain h = filled_runs h
    by_plan FillOrKill h =
        let P : Outcome → Course → Type 0 = λ o c. accepted s e ≡ o → Runs s e c in
        subst (λ q. Runs s e (cond (eqb q 0) (filled_by e t) (goes_whole e))) (sym plan.remaining)
        (cond_pair (eqb (meeting s e).remaining 0) (filled s e (meeting s e)) (withdrawn_whole s e) (filled_by e t) (goes_whole e) P (λ _ k. filled_runs k) (λ _ k. goes_runs k) h)
    by_plan ImmediateOrCancel h = filled_runs h

    -- an active order in trading
    pub active_runs : s.phase ≡ Trading → true ≡ active s.settings e.price → (r : Course) → r ≡ active_course e e.condition t → Runs s e r
    active_runs h k r er =
        subst (Runs s e) (sym er)
        (by_plan e.condition (cond-true (is_trading s.phase) _ _ (ap is_trading h) ∙ cond-true (active s.settings e.price) _ _ (sym k)))

  by_condition : s.phase ≡ Trading → (c : Condition) → accepted s e ≡ entered_inactive s e c → Runs s e (inactive_course e c)
  by_condition h Plain k = subst (λ ph. Runs s e (stands_whole ph e)) h (stands_runs k)
  by_condition h FillOrKill k = goes_runs k
  by_condition h ImmediateOrCancel k = goes_runs k

  -- an inactive order in trading
  pub inactive_runs : s.phase ≡ Trading → false ≡ active s.settings e.price → (r : Course) → r ≡ inactive_course e e.condition → Runs s e r
  inactive_runs h k r er =
      subst (Runs s e) (sym er)
      (by_condition h e.condition (cond-true (is_trading s.phase) _ _ (ap is_trading h) ∙ cond-false (active s.settings e.price) _ _ (sym k)))
