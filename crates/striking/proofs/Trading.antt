-- One trade between the first parties of both sides: what it leaves in rank, and of the trades.
use Rattle.std.proofs.Common.{◌≡◌, ℕ, ◌+◌, ◌-◌, ◌≤◌, min, Bool, true, eqb, ltb, leb, List, [], ◌∷◌, drop, Some, filter, sym, refl, ap, ◌∙◌, subst, ap₂, arith}
use Rattle.std.specs.List.{ContainsAt as Has}
use Rattle.std.proofs.lemmas.Bool.{cond_both, and_from, le-leb, lt-ltb}
use Rattle.model.specs.declared.types.Order.{Order}
use Rattle.model.specs.declared.types.Side.{Side}
use Rattle.model.specs.declared.types.Side.TheVariants.{Buy, Sell}
use Rattle.model.specs.declared.types.TapeRecord.TheVariants.{Trade}
use Rattle.model.specs.Grid.{Settings, active}
use Rattle.model.specs.Curve.{takes_part}
use Rattle.model.specs.Rank.{ranked}
use Rattle.model.specs.Orders.{Standing, find, lower}
use Rattle.model.specs.Auction.{at_price, trades_at, apply_trade, pair}
use Rattle.model.proofs.Lists.{all_from_has, has_here}
use Rattle.model.proofs.Ranking.{Distinct, distinct_ranked, of_side, same_order}
use Rattle.model.proofs.Standing.{lower_standing, standing_distinct}
use Rattle.model.proofs.Volumes.{find_has}
use Rattle.book.specs.Plain.{plain}
use Rattle.book.specs.Meaning.{can_take}
use Rattle.walking.specs.declared.placed.Placed.{Placed}
use Rattle.walking.specs.Walks.{actives}
use Rattle.striking.specs.Parties.{willing, parties, Passed, Leads}
use Rattle.striking.specs.Meetings.{Meets}
use Rattle.model.proofs.Commuting.{rest_of, lower_first, Lacks, lower_missing, kept_lower, ranked_lower, drop_lower, distinct_drop, has_lower, kept_ranked}
use Rattle.striking.proofs.Walked.{at_price_parties, has_at_place, ranked_stands}
use Rattle.striking.proofs.Stepping.{pair_step, pair_no_sells}
use Rattle.model.proofs.AtPrice.{one_side}

lacks_lower : (m n q : ℕ) (xs : List Order) → Lacks m xs → Lacks m (lower n q xs)
lacks_lower m n q [] h = h
lacks_lower m n q (x ∷ xs) h =
    cond_both (eqb x.number n) _ _ (Lacks m)
    (λ _. cond_both (leb x.left q) _ _ (Lacks m) (λ _. h.1) (λ _. h))
    (λ _. (h.0, lacks_lower m n q xs h.1))

module _ (os : List Order) (d : Distinct os) where
  pub sides_apart : (b s : Order) → Has (ranked Buy os) b → Has (ranked Sell os) s → b.number ≡ s.number → ⊥
  sides_apart b s h k e =
      let i = ranked_stands Buy os b h in
      let j = ranked_stands Sell os s k in
      one_side b.side i.1 (subst (λ o. of_side Sell o ≡ true) (sym (same_order os d b s i.0 j.0 e)) j.1)

  pub sell_not_bought : (s : Order) → Has (ranked Sell os) s → Lacks s.number (ranked Buy os)
  sell_not_bought s k = all_from_has (λ b. s.number ≡ b.number → ⊥) (ranked Buy os) (λ b h e. sides_apart b s h k (sym e))

  pub buy_not_sold : (b : Order) → Has (ranked Buy os) b → Lacks b.number (ranked Sell os)
  buy_not_sold b h = all_from_has (λ s. b.number ≡ s.number → ⊥) (ranked Sell os) (λ s k e. sides_apart b s h k e)

-- the first party of a side
module _ (g : Settings) (s : Side) (p : ℕ) (os : List Order) (d : Distinct os) (from k : ℕ) (o : Order) (passed : Passed g s os from) (f : Leads g s p os from k o) where
  pub leads_at_price : at_price g s p os ≡ o ∷ parties g s p (k + 1) os
  leads_at_price = at_price_parties g s p os ∙ sym (ap (willing s p) passed) ∙ f.first

  -- lowered by q, and whatever becomes of the other side
  module _ (q : ℕ) (os' : List Order) (same : ranked s os' ≡ ranked s (lower o.number q os)) where
    pub lowered_at_price : at_price g s p os' ≡ rest_of o q (parties g s p (k + 1) os)
    lowered_at_price =
        sym (kept_ranked (takes_part g s p) s os')
        ∙ ap (filter (takes_part g s p)) (same ∙ ranked_lower s o.number q os d)
        ∙ kept_lower (takes_part g s p) (λ x r. refl) o.number q (ranked s os) (distinct_ranked s os d)
        ∙ ap (lower o.number q) (kept_ranked (takes_part g s p) s os ∙ leads_at_price)
        ∙ lower_first q o (parties g s p (k + 1) os)

    pub lowered_passed : Passed g s os' k
    lowered_passed =
        let n : ℕ = o.number in
        let xs : List Order = ranked s os in
        let dx : Distinct xs = distinct_ranked s os d in
        let e : ranked s os' ≡ lower n q xs = same ∙ ranked_lower s n q os d in
        let h : Has (drop k xs) o = subst (λ l. Has l o) (sym f.here) (has_here o (drop (k + 1) xs)) in
        let act : Order → Bool = λ x. active g x.price in
        ap (λ l. actives g (drop k l)) e
        ∙ ap (actives g) (drop_lower q k xs o dx h)
        ∙ kept_lower act (λ x r. refl) n q (drop k xs) (distinct_drop k xs dx)
        ∙ ap (lower n q) (sym f.none_between ∙ passed)
        ∙ sym (kept_lower act (λ x r. refl) n q xs dx)
        ∙ sym (ap (actives g) e)

-- the first parties of both sides trade
module _ (g : Settings) (p v hi : ℕ) (os : List Order) (st : Standing 0 os hi) (from_b from_s : ℕ) (buy sell : Placed) (passed_b : Passed g Buy os from_b) (passed_s : Passed g Sell os from_s) (fb : Leads g Buy p os from_b buy.place (plain buy.order)) (fs : Leads g Sell p os from_s sell.place (plain sell.order))
    (some : 1 ≤ v) (t : ℕ) (is : t ≡ min (min buy.order.left sell.order.left) v) where
  abbrev kb : ℕ
  kb = buy.place

  abbrev ks : ℕ
  ks = sell.place

  abbrev b : Order
  b = plain buy.order

  abbrev s : Order
  s = plain sell.order

  abbrev bought : List Order
  bought = lower b.number t os

  abbrev after : List Order
  after = apply_trade (Trade b.number s.number p t) os

  distinct : Distinct os
  distinct = standing_distinct 0 hi os st

  distinct_bought : Distinct bought
  distinct_bought = standing_distinct 0 hi bought (lower_standing 0 hi b.number t os st)

  has_b : Has (ranked Buy os) b
  has_b = has_at_place Buy os kb b _ fb.here

  has_s : Has (ranked Sell os) s
  has_s = has_at_place Sell os ks s _ fs.here

  same_buys : ranked Buy after ≡ ranked Buy bought
  same_buys = ranked_lower Buy s.number t bought distinct_bought ∙ lower_missing s.number t (ranked Buy bought) (subst (Lacks s.number) (sym (ranked_lower Buy b.number t os distinct)) (lacks_lower s.number b.number t (ranked Buy os) (sell_not_bought os distinct s has_s)))

  same_sells : ranked Sell after ≡ ranked Sell (lower s.number t os)
  same_sells = ranked_lower Sell s.number t bought distinct_bought ∙ ap (lower s.number t) (ranked_lower Sell b.number t os distinct ∙ lower_missing b.number t (ranked Sell os) (buy_not_sold os distinct b has_b)) ∙ sym (ranked_lower Sell s.number t os distinct)

  traded_buys : Passed g Buy after kb
  traded_buys = lowered_passed g Buy p os distinct from_b kb b passed_b fb t after same_buys

  traded_sells : Passed g Sell after ks
  traded_sells = lowered_passed g Sell p os distinct from_s ks s passed_s fs t after same_sells

  -- the trade is the first, and the others are those of what remains
  first_of_trades : trades_at g p v os ≡ Trade b.number s.number p t ∷ trades_at g p (v - t) after
  first_of_trades =
      ap₂ (λ bs ss. pair p bs ss v) (leads_at_price g Buy p os distinct from_b kb b passed_b fb) (leads_at_price g Sell p os distinct from_s ks s passed_s fs)
      ∙ pair_step p b (parties g Buy p (kb + 1) os) s (parties g Sell p (ks + 1) os) v fb.some fs.some some t is
      ∙ ap (λ l. Trade b.number s.number p t ∷ l) (sym (ap₂ (λ bs ss. pair p bs ss (v - t)) (lowered_at_price g Buy p os distinct from_b kb b passed_b fb t after same_buys) (lowered_at_price g Sell p os distinct from_s ks s passed_s fs t after same_sells)))

  -- both orders can be lowered
  takeable : (o : Order) → t ≤ o.left → can_take t (Some o) ≡ true
  takeable o l = and_from (ltb 0 t) (leb t o.left) (lt-ltb 0 t (omega (arith, fb.some, fs.some))) (le-leb t o.left l)

  can_buy : can_take t (find b.number os) ≡ true
  can_buy = ap (can_take t) (find_has os distinct b (ranked_stands Buy os b has_b).0) ∙ takeable b (omega arith)

  can_sell : can_take t (find s.number bought) ≡ true
  can_sell = ap (can_take t) (find_has bought distinct_bought s (has_lower b.number t os s (ranked_stands Sell os s has_s).0 (λ e. sides_apart os distinct b s has_b has_s e))) ∙ takeable s (omega arith)

  pub met : Meets g p v os (record { buy = buy; sell = sell; quantity = t })
  met = record {
    some = omega (arith, fb.some, fs.some);
    limited = omega arith;
    can_buy = can_buy;
    can_sell = can_sell;
    trades = first_of_trades;
    buys = traded_buys;
    sells = traded_sells;
  }

-- a side without parties
module _ (g : Settings) (p v : ℕ) (os : List Order) (from : ℕ) where
  none_at_price : (s : Side) → Passed g s os from → parties g s p from os ≡ [] → at_price g s p os ≡ []
  none_at_price s passed e = at_price_parties g s p os ∙ sym (ap (willing s p) passed) ∙ e

  pub no_trades : (s : Side) → Passed g s os from → parties g s p from os ≡ [] → trades_at g p v os ≡ []
  no_trades Buy passed e = ap (λ l. pair p l (at_price g Sell p os) v) (none_at_price Buy passed e)
  no_trades Sell passed e = ap (λ l. pair p (at_price g Buy p os) l v) (none_at_price Sell passed e) ∙ pair_no_sells p (at_price g Buy p os) v
