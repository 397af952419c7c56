-- What remains of an accepted order stands, and the order comes to what the session says.
use Rattle.std.proofs.Common.{◌≡◌, ℕ, ◌+◌, ◌-◌, ◌<◌, ◌≤◌, true, ◌&&◌, ltb, leb, List, [], ◌∷◌, ◌++◌, map, length, Ok, sym, refl, ap, ◌∙◌, subst, append-nil, arith}
use Rattle.std.specs.List.{AllByRecursion}
use Rattle.std.proofs.lemmas.List.{length_push, length-map}
use Rattle.std.proofs.lemmas.Bool.{cond_both, cond-true, cond-false, le-ltb, ltb-true, ltb-false, and_from, lt-ltb, le-leb}
use Rattle.model.specs.declared.types.Order.{Order}
use Rattle.model.specs.declared.types.Entry.{Entry}
use Rattle.model.specs.declared.types.TapeRecord.{TapeRecord}
use Rattle.model.specs.Numbers.{max_member, max_quantity, max_number, in_range}
use Rattle.model.specs.Orders.{Standing}
use Rattle.model.specs.Records.{written}
use Rattle.model.specs.State.{State}
use Rattle.model.specs.Trading.{Fill, after_fills, trade_of}
use Rattle.model.specs.Entry.{enter}
use Rattle.model.specs.Views.{Came}
use Rattle.model.proofs.Standing.{standing_upto}
use Rattle.model.proofs.Fills.{fills_standing}
use Rattle.tape.specs.declared.tapes.Tape.{Tape}
use Rattle.tape.specs.Tapes.{room, Recorded}
use Rattle.tape.proofs.Recording.{recorded_none, room_after}
use Rattle.book.specs.Meaning.{all_below, addable}
use Rattle.book.specs.Bounds.{price_in_bounds, in_bounds}
use Rattle.book.specs.Plain.{order_of}
use Rattle.entering.specs.declared.courses.Fate.{Fate}
use Rattle.entering.specs.declared.courses.Fate.TheVariants.{Stands, Withdrawn, Traded}
use Rattle.entering.specs.declared.courses.Course.{Course}
use Rattle.entering.specs.Accepted.{own_order, own_record, some_fills, fills_in, outcome_of, Placeable, Accepted, settled_orders}

-- the trades of a course that has fills, and of one that has none
module _ (rec : Fill → TapeRecord) (n : ℕ) (fs : List Fill) (a b : Tape) where
  pub some_recorded : 0 < n → (t : Tape) → Recorded a t (map rec fs) → b ≡ t → Recorded a b (map rec (some_fills n fs))
  some_recorded l t w e = subst (λ gs. Recorded a b (map rec gs)) (sym (cond-true (ltb 0 n) fs [] (lt-ltb 0 n l))) (subst (λ x. Recorded a x (map rec fs)) (sym e) w)

  pub none_recorded : n ≤ 0 → b ≡ a → Recorded a b (map rec (some_fills n fs))
  none_recorded l e = subst (λ gs. Recorded a b (map rec gs)) (sym (cond-false (ltb 0 n) fs [] (le-ltb 0 n l))) (subst (λ x. Recorded a x []) (sym e) (recorded_none a))

  -- they take as many places as it counts
  pub room_left : (0 < n → n ≡ length fs) → Recorded a b (map rec (some_fills n fs)) → room b ≡ room a - n
  room_left h w = omega (arith, room_after a b (map rec (some_fills n fs)) w, length-map (some_fills n fs) rec, length_some)
    where
      length_some : length (some_fills n fs) ≡ n
      length_some = cond_both (ltb 0 n) fs [] (λ l. length l ≡ n) (λ e. sym (h (ltb-true 0 n e))) (λ e. omega (arith, ltb-false 0 n e))

below : (os : List Order) (n : ℕ) → AllByRecursion (λ o. o.number ≤ n) os → all_below os (n + 1) ≡ true
below [] n h = refl
below (o ∷ os) n h = and_from (ltb o.number (n + 1)) (all_below os (n + 1)) (lt-ltb o.number (n + 1) (omega arith)) (below os n h.1)

-- an order in bounds whose number is above all others stands, where there is room for it
module _ (capacity last : ℕ) (os : List Order) (e : Entry) (q : ℕ) (number : last < max_number) (member : (1 ≤ e.member) × (e.member ≤ max_member)) (st : Standing 0 os last) where
  placed : (f : Fate) → Placeable max_quantity q f → length (os ++ own_order (last + 1) e q f) ≤ capacity → settled_orders capacity os (last + 1) e q f ≡ os ++ own_order (last + 1) e q f
  placed (Stands p) h k =
      cond-true (in_bounds o && addable capacity os o) (os ++ o ∷ []) os
      (and_from (in_bounds o) (addable capacity os o) contents
      (and_from (ltb (length os) capacity) (ltb 0 q && all_below os (last + 1)) (lt-ltb (length os) capacity (omega (arith, length_push os o)))
      (and_from (ltb 0 q) (all_below os (last + 1)) (lt-ltb 0 q (omega arith)) (below os last (standing_upto 0 last os st)))))
    where
      o : Order
      o = order_of (last + 1) e.member e.side p q

      range : (low high n : ℕ) → low ≤ n → n ≤ high → in_range low high n ≡ true
      range low high n a b = and_from (leb low n) (leb n high) (le-leb low n a) (le-leb n high b)

      contents : in_bounds (order_of (last + 1) e.member e.side p q) ≡ true
      contents =
          and_from (in_range 1 max_number (last + 1)) (in_range 1 max_member e.member && (price_in_bounds p && leb q max_quantity)) (range 1 max_number (last + 1) (omega arith) (omega arith))
          (and_from (in_range 1 max_member e.member) (price_in_bounds p && leb q max_quantity) (range 1 max_member e.member member.0 member.1)
          (and_from (price_in_bounds p) (leb q max_quantity) h.2 (le-leb q max_quantity h.1)))
  placed (Withdrawn r) h k = sym (append-nil os)
  placed Traded h k = sym (append-nil os)

-- the order's end, by what its code leaves
module _ (s : State) (tape : List TapeRecord) (e : Entry) (c : Course) (a : Accepted s (length tape) e c) (st : Standing 0 s.orders s.last) (reference : 1 ≤ s.reference) where
  abbrev records : List TapeRecord
  records = map (trade_of e.side (s.last + 1)) (fills_in s e c) ++ own_record (s.last + 1) c.remaining c.fate

  abbrev ending : ℕ → List Order → ℕ → State
  ending u os k = record { settings = s.settings; phase = c.phase; reference = s.reference; last = s.last + 1; used = u; orders = os; capacity = k }

  pub came_done : (os : List Order) → os ≡ settled_orders s.capacity (after_fills (fills_in s e c) s.orders) (s.last + 1) e c.remaining c.fate → (k : ℕ) → k ≡ s.capacity
      → (u : ℕ) → u ≡ s.used + length records → (t : List TapeRecord) → t ≡ written tape s.used records
      → Came (enter s (length tape) e) (Ok (s.last + 1)) (ending u os k) tape s.used t
  came_done os eos k ek u eu t et =
      let used : ℕ = s.used + length records in
      let end : List Order = (outcome_of s e c).state.orders in
      let books : os ≡ end =
      eos ∙ placed s.capacity s.last (after_fills (fills_in s e c) s.orders) e c.remaining a.number a.member (fills_standing s.last 0 (fills_in s e c) s.orders st) c.fate (a.placeable reference) a.standing
      in
      subst (λ o. Came o (Ok (s.last + 1)) (ending u os k) tape s.used t) (sym a.outcome)
      (record {
        refusal = refl;
        answer = refl;
        state = ap (λ n. ending n os k) eu ∙ ap (λ x. ending used x k) books ∙ ap (ending used end) ek;
        tape = et;
      })
