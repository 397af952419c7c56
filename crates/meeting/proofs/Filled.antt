-- One fill carried out leaves the other fills of an order as they were.
use Rattle.std.proofs.Common.{◌≡◌, ℕ, ◌+◌, ◌-◌, ◌<◌, ◌≤◌, min, Bool, true, false, cond, eqb, leb, List, [], ◌∷◌, map, length, drop, sym, refl, ap, ◌∙◌, subst, arith}
use Rattle.std.specs.List.{ContainsAt as Has, AllByRecursion}
use Rattle.std.proofs.ByRecursion.{all-has}
use Rattle.std.proofs.lemmas.Bool.{cond_both, cond-true, eq-eqb, leb-false}
use Rattle.std.proofs.lemmas.Bool.Decides.{nat_tests}
use Rattle.model.specs.declared.types.Order.{Order}
use Rattle.model.specs.declared.types.OrderPrice.{OrderPrice}
use Rattle.model.specs.declared.types.Side.{Side}
use Rattle.model.specs.declared.types.TapeRecord.{TapeRecord}
use Rattle.model.specs.Grid.{Settings, active, within}
use Rattle.model.specs.Numbers.{max_number}
use Rattle.model.specs.Rank.{ranked, opposite}
use Rattle.model.specs.Orders.{Standing, find, lower, with_left}
use Rattle.model.specs.Trading.{Fill, met, add_fill, meet, after_fills}
use Rattle.model.proofs.Lists.{has_here}
use Rattle.model.proofs.Ranking.{Distinct, distinct_ranked}
use Rattle.model.proofs.Commuting.{kept_lower, kept_ranked, ranked_lower, drop_lower, distinct_drop}
use Rattle.model.proofs.Standing.{standing_distinct, standing_alive}
use Rattle.model.proofs.Volumes.{find_has}
use Rattle.tape.specs.declared.tapes.Tape.{Tape}
use Rattle.tape.specs.Tapes.{room, Recorded}
use Rattle.tape.proofs.Recording.{recorded_none, recorded_more, room_after}
use Rattle.book.specs.Meaning.{can_take}
use Rattle.walking.specs.declared.placed.Placed.{Placed}
use Rattle.walking.specs.Walks.{actives}
use Rattle.meeting.specs.Plans.{meeting_of}
use Rattle.meeting.specs.Fills.{fill_at, fill_of}
use Rattle.meeting.specs.declared.next.Next.{Next}
use Rattle.meeting.specs.declared.next.Next.TheVariants.{Trade, Interruption, Nothing}
use Rattle.meeting.specs.Meetings.{rest_of, Trades, Meets}
use Rattle.meeting.proofs.Done.{meet_done}
use Rattle.meeting.proofs.Lowered.{actives_has}

-- a filter by price does not look at what is left
actives_lower : (g : Settings) (n q : ℕ) (os : List Order) → Distinct os → actives g (lower n q os) ≡ lower n q (actives g os)
actives_lower g = kept_lower (λ o. active g o.price) (λ o q. refl)

-- what a fill left of its order is not met again
meet_after : (in_band : ℕ → Bool) (s : Side) (p : OrderPrice) (q : ℕ) (o : Order) (ys : List Order) → meet in_band s p (q - min q o.left) (lower o.number (min q o.left) (o ∷ ys)) ≡ meet in_band s p (q - min q o.left) ys
meet_after in_band s p q o ys =
    let f : ℕ = min q o.left in
    ap (meet in_band s p (q - f)) (cond-true (eqb o.number o.number) _ _ (eq-eqb o.number o.number refl))
    ∙ cond_both (leb o.left f) ys (with_left o (o.left - f) ∷ ys) (λ l. meet in_band s p (q - f) l ≡ meet in_band s p (q - f) ys)
    (λ _. refl)
    (λ w. let z : q - f ≡ 0 = omega (arith, leb-false o.left f w) in meet_done in_band s p (q - f) (with_left o (o.left - f) ∷ ys) z ∙ sym (meet_done in_band s p (q - f) ys z))

-- a fill's quantity can be taken
takes_place : (lo hi q : ℕ) (os : List Order) (o : Order) → Standing lo os hi → Has os o → 0 < q → can_take (min q o.left) (find o.number os) ≡ true
takes_place lo hi q os o st h l =
    let alive : 1 ≤ o.left = all-has (λ x. 1 ≤ x.left) os o (standing_alive lo hi os st) h in
    ap (can_take (min q o.left)) (find_has os (standing_distinct lo hi os st) o h) ∙ grind (arith, nat_tests)

-- q of an order at price p is still to carry out: that gives what all that it asked gives on the orders and the tape at the start
pub record Left (g : Settings) (reference : ℕ) (s : Side) (p : OrderPrice) (f : Fill → TapeRecord) (asked : ℕ) (first : List Order) (start : Tape) (q : ℕ) (os : List Order) (tape : Tape) (from : ℕ) : Type 0 where
  pub orders : after_fills (meeting_of g reference s p q os).fills os ≡ after_fills (meeting_of g reference s p asked first).fills first
  pub records : (t : Tape) → Recorded tape t (map f (meeting_of g reference s p q os).fills) → Recorded start t (map f (meeting_of g reference s p asked first).fills)
  pub room : length (meeting_of g reference s p q os).fills ≤ room tape
  pub passed : actives g (drop from (ranked (opposite s) os)) ≡ actives g (ranked (opposite s) os)

module _ {g : Settings} {reference : ℕ} {s : Side} {p : OrderPrice} {f : Fill → TapeRecord} {asked : ℕ} {first : List Order} {start : Tape} {q : ℕ} {os : List Order} {tape : Tape} {from : ℕ} (h : Left g reference s p f asked first start q os tape from) where
  -- the whole meeting is met from that place on
  walked : meeting_of g reference s p q os ≡ rest_of g reference s p q (ranked (opposite s) os) from
  walked = ap (meet (within g.static reference) s p q) (sym (h.passed ∙ kept_ranked (λ o. active g o.price) (opposite s) os))

  over : (b : Bool) → rest_of g reference s p q (ranked (opposite s) os) from ≡ met [] q b → (os ≡ after_fills (meeting_of g reference s p asked first).fills first) × Recorded start tape (map f (meeting_of g reference s p asked first).fills)
  over b e =
      let none : (meeting_of g reference s p q os).fills ≡ [] = ap (λ m. m.fills) (walked ∙ e) in
      (sym (ap (λ fs. after_fills fs os) none) ∙ h.orders, h.records tape (subst (λ fs. Recorded tape tape (map f fs)) (sym none) (recorded_none tape)))

  -- all is carried out where no fill is met
  pub ends : (n : Next) → Meets g reference s p q (ranked (opposite s) os) from n → ((t : Placed) → n ≡ Trade t → ⊥) → (os ≡ after_fills (meeting_of g reference s p asked first).fills first) × Recorded start tape (map f (meeting_of g reference s p asked first).fills)
  ends (Trade t) e other = absurd (other t refl)
  ends Interruption e other = over true e
  ends Nothing e other = over false e

  module _ {k : ℕ} {o : Order} (n : Trades g reference s p q (ranked (opposite s) os) from k o) (st : Standing 0 os max_number) where
    abbrev taken : ℕ
    taken = min q o.left

    abbrev lowered : List Order
    lowered = lower o.number taken os

    abbrev xs : List Order
    xs = ranked (opposite s) os

    distinct : Distinct os
    distinct = standing_distinct 0 max_number os st

    here : actives g xs ≡ o ∷ actives g (drop (k + 1) xs)
    here = sym h.passed ∙ n.found.onward

    has : Has os o
    has = (subst (AllByRecursion (Has os)) here (actives_has g (opposite s) os)).0

    -- the orders in rank once that order was lowered
    ranks : ranked (opposite s) lowered ≡ lower o.number taken xs
    ranks = ranked_lower (opposite s) o.number taken os distinct

    -- no active order stands before its place
    then_passed : actives g (drop k (ranked (opposite s) lowered)) ≡ actives g (ranked (opposite s) lowered)
    then_passed =
        let dx : Distinct xs = distinct_ranked (opposite s) os distinct in
        let there : Has (drop k xs) o = subst (λ l. Has l o) (sym n.found.here) (has_here o (drop (k + 1) xs)) in
        ap (λ l. actives g (drop k l)) ranks
        ∙ ap (actives g) (drop_lower taken k xs o dx there)
        ∙ actives_lower g o.number taken (drop k xs) (distinct_drop k xs dx)
        ∙ ap (lower o.number taken) (sym n.found.none_between ∙ h.passed)
        ∙ sym (actives_lower g o.number taken xs dx)
        ∙ sym (ap (actives g) ranks)

    -- and what it met behind that order is met now
    then_met : rest_of g reference s p (q - taken) xs (k + 1) ≡ meeting_of g reference s p (q - taken) lowered
    then_met =
        let in_band : ℕ → Bool = within g.static reference in
        sym
        (ap (meet in_band s p (q - taken))
        (sym (kept_ranked (λ o. active g o.price) (opposite s) lowered)
        ∙ ap (actives g) ranks
        ∙ actives_lower g o.number taken xs (distinct_ranked (opposite s) os distinct)
        ∙ ap (lower o.number taken) here)
        ∙ meet_after in_band s p q o (actives g (drop (k + 1) xs)))

    next : (meeting_of g reference s p q os).fills ≡ fill_of q o ∷ (meeting_of g reference s p (q - taken) lowered).fills
    next = ap (λ m. m.fills) (walked ∙ n.fill ∙ ap (add_fill (fill_of q o)) then_met)

    pub has_room : 0 < room tape
    has_room = omega (arith, h.room, ap length next)

    pub less : (r : ℕ) → r ≡ taken → q - r < q
    less r er =
        let alive : 1 ≤ o.left = all-has (λ x. 1 ≤ x.left) os o (standing_alive 0 max_number os st) has in
        omega (arith, n.some)

    -- the code's steps: it takes r of that order, and writes the trade x
    pub left_after : (r : ℕ) → r ≡ taken → (b : Bool) → b ≡ can_take r (find o.number os) → (os' : List Order) → os' ≡ cond b (lower o.number r os) os → (x : TapeRecord) → x ≡ f (fill_at o r) → (tape' : Tape) → Recorded tape tape' (x ∷ [])
        → Left g reference s p f asked first start (q - r) os' tape' k
    left_after r er b eb os' eo x ex tape' w =
        let to : lowered ≡ os' = sym (eo ∙ cond-true b (lower o.number r os) os (eb ∙ ap (λ j. can_take j (find o.number os)) er ∙ takes_place 0 max_number q os o st has n.some) ∙ ap (λ j. lower o.number j os) er) in
        let wrote : Recorded tape tape' (f (fill_of q o) ∷ []) = subst (λ y. Recorded tape tape' (y ∷ [])) (ex ∙ ap (λ j. f (fill_at o j)) er) w in
        subst (λ j. Left g reference s p f asked first start (q - j) os' tape' k) (sym er)
        (subst (λ zs. Left g reference s p f asked first start (q - taken) zs tape' k) to
        (record {
          orders = sym (ap (λ fs. after_fills fs os) next) ∙ h.orders;
          records = λ t i. h.records t (subst (λ fs. Recorded tape t (map f fs)) (sym next) (recorded_more tape tape' t (f (fill_of q o) ∷ []) (map f (meeting_of g reference s p (q - taken) lowered).fills) wrote i));
          room = omega (arith, h.room, ap length next, room_after tape tape' (f (fill_of q o) ∷ []) wrote);
          passed = then_passed;
        }))
