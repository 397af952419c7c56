-- The orders and the records of a strike, from its trades and the orders that traded last.
use Rattle.std.proofs.Common.{◌≡◌, ℕ, ◌+◌, ◌-◌, ◌*◌, ◌<◌, ◌≤◌, Bool, true, false, cond, ◌&&◌, ◌||◌, eqb, leb, ◌⊎◌, List, [], ◌∷◌, map, length, Some, None, filter, Option, sym, refl, ap, ◌∙◌, subst, ap₂, inl, inr, ⊎_elim, arith, length-append}
use native.Mathlib.Nat.{one-le-mul}
use Rattle.std.specs.List.{AllByRecursion}
use Rattle.std.proofs.ByRecursion.{all-has}
use Rattle.std.proofs.lemmas.List.{length-map}
use Rattle.std.proofs.lemmas.Bool.Decides.{nat_tests}
use Rattle.std.proofs.lemmas.Bool.{and_from, and_parts, cases_eq, cases_lt, cond_both, eq-eqb, le-leb, leb-true, ne_eqb, not_from_false, not_from_true, or_from, or_left, or_right}
use Rattle.model.specs.declared.types.Side.{Side}
use Rattle.model.specs.declared.types.Side.TheVariants.{Buy, Sell}
use Rattle.model.specs.declared.types.Order.{Order}
use Rattle.model.specs.declared.types.TapeRecord.{TapeRecord}
use Rattle.model.specs.declared.types.Reason.TheVariants.{AfterAuction}
use Rattle.model.specs.Numbers.{max_price, in_range}
use Rattle.model.specs.Grid.{Settings, on_grid, within}
use Rattle.model.specs.Curve.{takes_part}
use Rattle.model.specs.Orders.{Standing, find, turn, left_in, withdrawal}
use Rattle.model.specs.Records.{total_traded}
use Rattle.model.specs.Calls.{is_market_order}
use Rattle.model.specs.Auction.{at_price, trades_at, apply_trades, idle, struck_orders, struck_records}
use Rattle.model.proofs.Lists.{all_from_has}
use Rattle.model.proofs.Ranking.{Distinct}
use Rattle.model.proofs.Standing.{SameOrder, map_standing, standing_above, standing_alive, standing_distinct}
use Rattle.model.proofs.Taken.{left_in_has, left_in_missing, taken_le}
use Rattle.model.proofs.Records.{bought_le_traded, sold_le_traded, traded_le_both}
use Rattle.model.proofs.Pairing.{Alive, volume_of, pair_pairs}
use Rattle.model.proofs.AtPrice.{all_at_price, distinct_at_price, left_in_at_price}
use Rattle.model.proofs.Trades.{trades_limited, trades_apart}
use Rattle.model.proofs.Struck.{trades_standing, trades_left}
use Rattle.book.specs.Meaning.{can_turn}
use Rattle.striking.specs.declared.meetings.Meeting.{Meeting}
use Rattle.striking.specs.Meetings.{last_party, IsLast}
use Rattle.striking.specs.Settled.{turned, turned_last}
use Rattle.striking.proofs.Lasting.{Positive, share, Lasts, pair_positive, pair_lasts, last_trades}
use Rattle.striking.proofs.Settling.{settle, turned_map, Told, no_market, settled_kept, idle_kept, idle_trades}

-- a grid price is a price
pub grid_price : (g : Settings) (p : ℕ) → 1 ≤ g.indicative → g.absolute ≤ 99 → on_grid g p ≡ true → in_range 1 max_price p ≡ true
grid_price g p i a h =
    let k = and_parts (eqb _ 0) (leb p max_price && within g.absolute g.indicative p) h in
    let w = and_parts (leb p max_price) (within g.absolute g.indicative p) k.1 in
    let low = and_parts (leb (g.indicative * (100 - g.absolute)) (100 * p)) (leb (100 * p) (g.indicative * (100 + g.absolute))) w.1 in
    let some : 1 ≤ g.indicative * (100 - g.absolute) = one-le-mul i (omega arith) in
    and_from (leb 1 p) (leb p max_price) (le-leb 1 p (omega (arith, leb-true (g.indicative * (100 - g.absolute)) (100 * p) low.0))) w.0

-- a filter keeps all that is left under a number, or nothing
kept_left : (f : Order → Bool) (n : ℕ) (os : List Order) → Distinct os → (left_in (filter f os) n ≡ 0) ⊎ (left_in (filter f os) n ≡ left_in os n)
kept_left f n [] d = inl refl
kept_left f n (o ∷ os) d =
    let gone : o.number ≡ n → left_in os n ≡ 0 = λ e. left_in_missing os n (subst (λ m. AllByRecursion (λ x. m ≡ x.number → ⊥) os) e d.0) in
    grind (arith, nat_tests, gone, kept_left f n os d.1)

-- without trades the number is 0, and no order has it
turned_missing : (n p : ℕ) (os : List Order) → n ≡ 0 → AllByRecursion (λ o. 0 < o.number) os → turned n p os ≡ os
turned_missing n p os e h = ap (λ r. cond (can_turn p r) (turn n p os) os) (missing os h)
  where
    missing : (xs : List Order) → AllByRecursion (λ o. 0 < o.number) xs → find n xs ≡ None
    missing [] k = refl
    missing (x ∷ xs) k = grind (arith, nat_tests, k.0, missing xs k.1)

module _ (g : Settings) (p v hi : ℕ) (os : List Order) (st : Standing 0 os hi) where
  abbrev ts : List TapeRecord
  ts = trades_at g p v os

  abbrev ended : List Order
  ended = apply_trades ts os

  abbrev last : Side → ℕ
  last s = last_party s 0 ts

  alive_at : (s : Side) → Alive (at_price g s p os)
  alive_at s = all_at_price g s p os (λ o. 1 ≤ o.left) (standing_alive 0 hi os st)

  pub trades_positive : AllByRecursion Positive ts
  trades_positive = pair_positive p (at_price g Buy p os) (at_price g Sell p os) v (alive_at Buy) (alive_at Sell)

  lasts : (s : Side) → Lasts s (at_price g s p os) ts
  lasts Buy = (pair_lasts p (at_price g Buy p os) (at_price g Sell p os) v (alive_at Buy) (alive_at Sell)).0
  lasts Sell = (pair_lasts p (at_price g Buy p os) (at_price g Sell p os) v (alive_at Buy) (alive_at Sell)).1

  share_limited : (s : Side) (n : ℕ) → share s n ts ≤ left_in (at_price g s p os) n
  share_limited Buy n = omega (arith, (pair_pairs p (at_price g Buy p os) (at_price g Sell p os) v (alive_at Sell)).buys n, taken_le (volume_of (at_price g Buy p os) (at_price g Sell p os) v) (at_price g Buy p os) n)
  share_limited Sell n = omega (arith, (pair_pairs p (at_price g Buy p os) (at_price g Sell p os) v (alive_at Sell)).sells n, taken_le (volume_of (at_price g Buy p os) (at_price g Sell p os) v) (at_price g Sell p os) n)

  share_traded : (s : Side) (n : ℕ) → share s n ts ≤ total_traded n ts
  share_traded Buy n = bought_le_traded n ts
  share_traded Sell n = sold_le_traded n ts

  -- an order that trades in part on a side is the last that trades there
  in_part : (s : Side) (n : ℕ) → total_traded n ts < left_in os n → 0 < share s n ts → n ≡ last s
  in_part s n l h =
      let all : left_in (at_price g s p os) n ≡ left_in os n = ⊎_elim (λ z. absurd (omega (arith, share_limited s n, left_in_at_price g s p os n))) (λ z. left_in_at_price g s p os n ∙ z) (kept_left (takes_part g s p) n os (standing_distinct 0 hi os st)) in
      sym ((lasts s).last (distinct_at_price g s p os (standing_distinct 0 hi os st)) 0 n h (omega (arith, share_traded s n)))

  trades_some : (n : ℕ) → (total_traded n ts ≡ 0 → ⊥) → (0 < share Buy n ts) ⊎ (0 < share Sell n ts)
  trades_some n z = ⊎_elim (λ l. inl l) (λ l. inr (omega (arith, traded_le_both n ts))) (cases_lt 0 (share Buy n ts))

  standing_ended : Standing 0 ended hi
  standing_ended = trades_standing 0 hi ts os st

  told_one : (o : Order) → 0 < o.number → total_traded o.number ts < left_in os o.number → Told ts (last Buy) (last Sell) o
  told_one o low l =
      let n : ℕ = o.number in
      ⊎_elim
      (λ z. eq-eqb (total_traded n ts) 0 z ∙ sym (not_from_false (eqb n (last Buy) || eqb n (last Sell)) (or_from (eqb n (last Buy)) (eqb n (last Sell)) (apart Buy n low z) (apart Sell n low z))))
      (λ z. ne_eqb (total_traded n ts) 0 z ∙ sym (not_from_true (eqb n (last Buy) || eqb n (last Sell)) (⊎_elim
      (λ h. or_left (eqb n (last Buy)) (eqb n (last Sell)) (eq-eqb n (last Buy) (in_part Buy n l h)))
      (λ h. or_right (eqb n (last Buy)) (eqb n (last Sell)) (eq-eqb n (last Sell) (in_part Sell n l h)))
      (trades_some n z))))
      (cases_eq (total_traded n ts) 0)
    where
      apart : (s : Side) (n : ℕ) → 0 < n → total_traded n ts ≡ 0 → eqb n (last s) ≡ false
      apart s n low z = ne_eqb n (last s) (λ e. omega (arith, last_trades s ts trades_positive 0 n (sym e) z))

  told : AllByRecursion (Told ts (last Buy) (last Sell)) ended
  told = all_from_has (Told ts (last Buy) (last Sell)) ended (λ o h.
      told_one o (all-has (λ x. 0 < x.number) ended o (standing_above 0 hi ended standing_ended) h)
      (omega (
        arith,
        all-has (λ x. 1 ≤ x.left) ended o (standing_alive 0 hi ended standing_ended) h,
        all-has (λ x. left_in ended x.number ≡ x.left) ended o (left_in_has ended (standing_distinct 0 hi ended standing_ended)) h,
        trades_left 0 hi ts os st (trades_apart g p v os (standing_distinct 0 hi os st)) (trades_limited g p v os (standing_alive 0 hi os st)) o.number,
      )))

  settle_same : (n : ℕ) → SameOrder (settle n p)
  settle_same n o = cond_both (eqb o.number n && is_market_order o) _ _ (λ (x : Order). (x.number ≡ o.number) × (x.left ≡ o.left)) (λ _. (refl, refl)) (λ _. (refl, refl))

  module _ (range : in_range 1 max_price p ≡ true) where
    -- the orders that traded last are turned
    turned_both : turned (last Sell) p (turned (last Buy) p ended) ≡ map (settle (last Sell) p) (map (settle (last Buy) p) ended)
    turned_both =
        ap (turned (last Sell) p) (turned_map (last Buy) p ended range (standing_distinct 0 hi ended standing_ended))
        ∙ turned_map (last Sell) p (map (settle (last Buy) p) ended) range (standing_distinct 0 hi (map (settle (last Buy) p) ended) (map_standing (settle (last Buy) p) (settle_same (last Buy)) 0 hi ended standing_ended))

    -- without market orders these are the orders that are left
    turned_orders : filter no_market (turned (last Sell) p (turned (last Buy) p ended)) ≡ struck_orders p ts os
    turned_orders = ap (filter no_market) turned_both ∙ settled_kept ts p (last Buy) (last Sell) ended told

    -- and the market orders among them are the idle ones
    turned_idle : filter is_market_order (turned (last Sell) p (turned (last Buy) p ended)) ≡ filter (idle ts) os
    turned_idle = ap (filter is_market_order) turned_both ∙ idle_kept ts p (last Buy) (last Sell) ended told ∙ idle_trades ts ts os trades_positive (λ n. omega arith)

    -- the same for what a book answers
    both_turned : (final : Option Meeting) → IsLast ts final → turned_last final p ended ≡ turned (last Sell) p (turned (last Buy) p ended)
    both_turned None l =
        let above : AllByRecursion (λ o. 0 < o.number) ended = standing_above 0 hi ended standing_ended in
        sym (ap (turned (last Sell) p) (turned_missing (last Buy) p ended (ap (last_party Buy 0) l) above) ∙ turned_missing (last Sell) p ended (ap (last_party Sell 0) l) above)
    both_turned (Some m) l = ap₂ (λ b s. turned s p (turned b p ended)) l.0 l.1

    pub after_turning : (final : Option Meeting) (xs ys : List Order) → IsLast ts final → xs ≡ ended → ys ≡ turned_last final p xs
        → (filter no_market ys ≡ struck_orders p ts os) × (filter is_market_order ys ≡ filter (idle ts) os)
    after_turning final xs ys l ex ey =
        let e : ys ≡ turned (last Sell) p (turned (last Buy) p ended) = ey ∙ ap (turned_last final p) ex ∙ both_turned final l in
        (ap (filter no_market) e ∙ turned_orders, ap (filter is_market_order) e ∙ turned_idle)

-- how many records a strike writes
pub length_struck : (ts : List TapeRecord) (os : List Order) → length (struck_records ts os) ≡ length ts + length (filter (idle ts) os)
length_struck ts os = length-append ts (map (withdrawal AfterAuction) (filter (idle ts) os)) ∙ ap (λ n. length ts + n) (length-map (filter (idle ts) os) (withdrawal AfterAuction))
