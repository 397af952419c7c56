-- A count of the trades of a strike, one trade after another.
use Rattle.std.proofs.Common.{◌≡◌, ℕ, ◌+◌, ◌-◌, ◌<◌, ◌≤◌, Bool, true, false, cond, ◌&&◌, eqb, leb, List, [], ◌∷◌, length, drop, filter, sym, refl, ap, ◌∙◌, subst, ap₂, inl, inr, ⊎_elim, arith}
use Rattle.std.specs.List.{AllByRecursion}
use Rattle.std.proofs.ByRecursion.{All-drop, all_kept_by}
use Rattle.std.proofs.lemmas.Bool.Decides.{nat_tests}
use Rattle.std.proofs.lemmas.Bool.{and_left, cases_eq, cond_both, cond-false, cond-true, eq-eqb, eqb-true, eqb-false, le-leb, lt-leb, ne_eqb}
use Rattle.model.specs.declared.types.Side.{Side}
use Rattle.model.specs.declared.types.Side.TheVariants.{Buy, Sell}
use Rattle.model.specs.declared.types.OrderPrice.{OrderPrice}
use Rattle.model.specs.declared.types.OrderPrice.TheVariants.{Market, Limit}
use Rattle.model.specs.declared.types.Order.{Order}
use Rattle.model.specs.declared.types.TapeRecord.{TapeRecord}
use Rattle.model.specs.declared.types.TapeRecord.TheVariants.{Trade}
use Rattle.model.specs.Grid.{Settings, active}
use Rattle.model.specs.Rank.{ranked}
use Rattle.model.specs.Orders.{Standing, is_market, with_left}
use Rattle.model.specs.Records.{traded_of}
use Rattle.model.specs.Calls.{is_market_order}
use Rattle.model.specs.Auction.{pair, trades_at, idle}
use Rattle.model.proofs.Ranking.{Distinct, distinct_kept, distinct_ranked}
use Rattle.model.proofs.Standing.{standing_distinct}
use Rattle.model.proofs.Commuting.{rest_of, Lacks, distinct_drop}
use Rattle.model.proofs.Lengths.{length_ranked, kept_sides, length_kept_le}
use Rattle.walking.specs.Walks.{actives}
use Rattle.striking.specs.declared.sizes.Progress.{Progress}
use Rattle.striking.specs.declared.sizes.Tally.{Tally}
use Rattle.striking.specs.Parties.{willing, parties, Leads}
use Rattle.striking.specs.Counts.{spend, first_left, fresh, progress, start, advanced, next_quantity, one_more, open_parties, open_trades, SideCounted, Counts}
use Rattle.striking.proofs.Walked.{at_price_parties, has_at_place}
use Rattle.striking.proofs.Stepping.{pair_step}
use Rattle.striking.proofs.Lasting.{trade_loud}
use Rattle.striking.proofs.Trading.{sell_not_bought, buy_not_sold}

-- a filter that passes only active orders
market_active : (g : Settings) (c : OrderPrice) → is_market c ≡ true → active g c ≡ true
market_active g Market h = refl
market_active g (Limit p) h = absurd cc

kept_active : (g : Settings) (f : Order → Bool) → ((o : Order) → f o ≡ true → is_market_order o ≡ true) → (xs : List Order) → filter f (actives g xs) ≡ filter f xs
kept_active g f w [] = refl
kept_active g f w (x ∷ xs) = grind (arith, market_active g x.price, w x, kept_active g f w xs)

idle_market : (ts : List TapeRecord) (o : Order) → idle ts o ≡ true → is_market_order o ≡ true
idle_market ts o h = grind arith

-- without trades every market order is idle
idle_none : (xs : List Order) → filter (idle []) xs ≡ filter is_market_order xs
idle_none [] = refl
idle_none (x ∷ xs) = grind (arith, idle_none xs)

-- a trade of others leaves the idle orders idle
idle_past : (r : TapeRecord) (us : List TapeRecord) (xs : List Order) → AllByRecursion (λ y. traded_of y.number r ≡ 0) xs → filter (idle (r ∷ us)) xs ≡ filter (idle us) xs
idle_past r us [] h = refl
idle_past r us (x ∷ xs) h = grind (arith, nat_tests, h.0, idle_past r us xs h.1)

-- one side, once its first party o has traded with the order m of the other side
module _ (g : Settings) (s : Side) (p : ℕ) (os : List Order) (d : Distinct os) (ts us : List TapeRecord) (r : TapeRecord) (x : Progress) (k : ℕ) (o : Order) (f : Leads g s p os x.place k o) (h : SideCounted g s p os ts (r ∷ us) x)
    (m t : ℕ) (lacks : Lacks m (ranked s os)) (quiet : (n : ℕ) → (o.number ≡ n → ⊥) → (m ≡ n → ⊥) → traded_of n r ≡ 0) (loud : 1 ≤ traded_of o.number r) (some : 1 ≤ t) (limited : x.spent + t ≤ o.left) where
  abbrev rank : List Order
  rank = ranked s os

  -- the active orders behind the party
  abbrev later : List Order
  later = actives g (drop (k + 1) rank)

  here_active : actives g (drop k rank) ≡ o ∷ later
  here_active = sym f.none_between ∙ f.onward

  -- neither party of the trade is among them
  later_quiet : AllByRecursion (λ y. traded_of y.number r ≡ 0) later
  later_quiet =
      let dx : Distinct (o ∷ later) = subst Distinct here_active (distinct_kept (λ y. active g y.price) (drop k rank) (distinct_drop k rank (distinct_ranked s os d))) in
      go later dx.0 (all_kept_by (λ y. active g y.price) (λ y. m ≡ y.number → ⊥) (drop (k + 1) rank) (All-drop (λ y. m ≡ y.number → ⊥) (k + 1) rank lacks))
    where
      go : (ys : List Order) → AllByRecursion (λ y. o.number ≡ y.number → ⊥) ys → AllByRecursion (λ y. m ≡ y.number → ⊥) ys → AllByRecursion (λ y. traded_of y.number r ≡ 0) ys
      go [] a b = tt
      go (y ∷ ys) a b = (quiet y.number a.0 b.0, go ys a.1 b.1)

  busy : idle (r ∷ us) o ≡ false
  busy = grind (arith, nat_tests, loud)

  -- a filter over the orders that were fresh
  was_fresh : (P : List Order → Type 0) → (x.spent ≡ 0 → P (o ∷ later)) → ((x.spent ≡ 0 → ⊥) → P later) → P (fresh x.spent (actives g (drop x.place rank)))
  was_fresh P a b =
      ⊎_elim
      (λ z. subst P (sym f.onward ∙ sym (cond-true (eqb x.spent 0) _ _ (eq-eqb x.spent 0 z))) (a z))
      (λ z. subst P (ap (drop 1) (sym f.onward) ∙ sym (cond-false (eqb x.spent 0) (actives g (drop x.place rank)) (drop 1 (actives g (drop x.place rank))) (ne_eqb x.spent 0 z))) (b z))
      (cases_eq x.spent 0)

  behind_now : filter (idle ts) rank ≡ filter (idle us) later
  behind_now =
      h.behind
      ∙ was_fresh (λ l. filter (idle (r ∷ us)) l ≡ filter (idle us) later)
      (λ _. cond-false (idle (r ∷ us) o) _ _ busy ∙ idle_past r us later later_quiet)
      (λ _. idle_past r us later later_quiet)

  -- the market orders that were counted, with this one
  abbrev markets : ℕ
  markets = x.markets + cond (eqb x.spent 0 && is_market_order o) 1 0

  counted_now : length (filter is_market_order rank) ≡ markets + length (filter is_market_order later)
  counted_now =
      let ms : List Order = filter is_market_order later in
      h.counted
      ∙ was_fresh (λ l. x.markets + length (filter is_market_order l) ≡ markets + length ms)
      (λ z. one z (is_market_order o) ms)
      (λ z. let none : ◌≡◌ {A = ℕ} (cond (eqb x.spent 0 && is_market_order o) 1 0) 0 = cond-false (eqb x.spent 0 && is_market_order o) 1 0 (and_left (eqb x.spent 0) (is_market_order o) (ne_eqb x.spent 0 z)) in omega arith)
    where
      one : x.spent ≡ 0 → (b : Bool) (ms : List Order) → x.markets + length (cond b (o ∷ ms) ms) ≡ (x.markets + cond (eqb x.spent 0 && b) 1 0) + length ms
      one z b ms =
          ap (λ c. x.markets + c) (elim b as (λ v. length (cond v (o ∷ ms) ms) ≡ cond v 1 0 + length ms) [ true ↦ omega arith | false ↦ omega arith ])
          ∙ ap (λ c. x.markets + (cond (c && b) 1 0 + length ms)) (sym (eq-eqb x.spent 0 z))
          ∙ omega arith

  pub side_more : SideCounted g s p os ts us (advanced x k o t)
  side_more =
      cond_both (eqb (x.spent + t) o.left) (progress (k + 1) 0 markets) (progress k (x.spent + t) markets) (SideCounted g s p os ts us)
      (λ e. record { behind = behind_now; counted = counted_now; limited = omega arith })
      (λ e.
      let past : fresh (x.spent + t) (actives g (drop k rank)) ≡ later = cond-false (eqb (x.spent + t) 0) (actives g (drop k rank)) (drop 1 (actives g (drop k rank))) (ne_eqb (x.spent + t) 0 (omega arith)) ∙ ap (drop 1) here_active in
      let first : first_left (parties g s p k os) ≡ o.left = ap (λ l. first_left (willing s p l)) (sym f.none_between) ∙ ap first_left f.first in
      record {
        behind = behind_now ∙ ap (filter (idle us)) (sym past);
        counted = counted_now ∙ ap (λ l. markets + length (filter is_market_order l)) (sym past);
        limited = omega (arith, eqb-false (x.spent + t) o.left e);
      })

spend_none : (xs : List Order) → spend 0 xs ≡ xs
spend_none [] = refl
spend_none (y ∷ ys) = ap (λ q. with_left y q ∷ ys) (omega arith)

-- what is left to pair of a side, once t of its first party is counted
open_more : (g : Settings) (s : Side) (p : ℕ) (os : List Order) (x : Progress) (k : ℕ) (o : Order) → Leads g s p os x.place k o → (t : ℕ) → x.spent + t ≤ o.left
    → open_parties g s p os (advanced x k o t) ≡ rest_of (with_left o (o.left - x.spent)) t (parties g s p (k + 1) os)
open_more g s p os x k o f t limited =
    let ps : List Order = parties g s p (k + 1) os in
    cond_both (eqb (x.spent + t) o.left) _ _ (λ y. open_parties g s p os y ≡ rest_of (with_left o (o.left - x.spent)) t ps)
    (λ e. spend_none ps ∙ sym (cond-true (leb (o.left - x.spent) t) ps _ (le-leb (o.left - x.spent) t (omega (arith, eqb-true (x.spent + t) o.left e)))))
    (λ e.
    ap (λ l. spend (x.spent + t) (willing s p l)) (sym f.none_between) ∙ ap (spend (x.spent + t)) f.first
    ∙ ap (λ q. with_left o q ∷ ps) (omega arith)
    ∙ sym (cond-false (leb (o.left - x.spent) t) ps (with_left o ((o.left - x.spent) - t) ∷ ps) (lt-leb (o.left - x.spent) t (omega (arith, eqb-false (x.spent + t) o.left e)))))

-- and no other
trade_quiet : (b s p q n : ℕ) → (b ≡ n → ⊥) → (s ≡ n → ⊥) → traded_of n (Trade b s p q) ≡ 0
trade_quiet b s p q n i j = grind (arith, nat_tests)

-- of the first party something is left
pub spent_less : (g : Settings) (s : Side) (p : ℕ) (os : List Order) (ts us : List TapeRecord) (x : Progress) (k : ℕ) (o : Order) → Leads g s p os x.place k o → SideCounted g s p os ts us x → x.spent < o.left
spent_less g s p os ts us x k o f h = omega (arith, h.limited, ap first_left f.first, f.some)

-- one trade on
module _ (g : Settings) (p v hi : ℕ) (os : List Order) (st : Standing 0 os hi) (c : Tally) (kb ks : ℕ) (b s : Order) (fb : Leads g Buy p os c.buys.place kb b) (fs : Leads g Sell p os c.sells.place ks s) (h : Counts g p v os c) (some : 1 ≤ c.remaining) where
  abbrev t : ℕ
  t = next_quantity c b s

  abbrev after : Tally
  after = one_more c kb b ks s

  abbrev traded : TapeRecord
  traded = Trade b.number s.number p t

  distinct : Distinct os
  distinct = standing_distinct 0 hi os st

  less_b : c.buys.spent < b.left
  less_b = spent_less g Buy p os (trades_at g p v os) (open_trades g p os c) c.buys kb b fb h.buys

  less_s : c.sells.spent < s.left
  less_s = spent_less g Sell p os (trades_at g p v os) (open_trades g p os c) c.sells ks s fs h.sells

  some_t : 1 ≤ t
  some_t = omega (arith, less_b, less_s)

  limited_b : c.buys.spent + t ≤ b.left
  limited_b = omega (arith, less_b)

  limited_s : c.sells.spent + t ≤ s.left
  limited_s = omega (arith, less_s)

  opened : open_trades g p os c ≡ traded ∷ open_trades g p os after
  opened =
      ap₂ (λ xs ys. pair p (spend c.buys.spent xs) (spend c.sells.spent ys) c.remaining) fb.first fs.first
      ∙ pair_step p (with_left b (b.left - c.buys.spent)) (parties g Buy p (kb + 1) os) (with_left s (s.left - c.sells.spent)) (parties g Sell p (ks + 1) os) c.remaining (omega (arith, less_b)) (omega (arith, less_s)) some t refl
      ∙ ap (λ l. traded ∷ l) (sym (ap₂ (λ xs ys. pair p xs ys (c.remaining - t)) (open_more g Buy p os c.buys kb b fb t limited_b) (open_more g Sell p os c.sells ks s fs t limited_s)))

  pub counts_more : Counts g p v os after
  counts_more = record {
    trades = omega (arith, h.trades, ap length opened);
    limited = omega (arith, h.limited, some_t);
    buys = side_more g Buy p os distinct (trades_at g p v os) (open_trades g p os after) traded c.buys kb b fb (subst (λ l. SideCounted g Buy p os (trades_at g p v os) l c.buys) opened h.buys) s.number t
        (sell_not_bought os distinct s (has_at_place Sell os ks s _ fs.here))
        (λ n i j. trade_quiet b.number s.number p t n i j) (trade_loud b.number s.number p t b.number some_t (inl refl)) some_t limited_b;
    sells = side_more g Sell p os distinct (trades_at g p v os) (open_trades g p os after) traded c.sells ks s fs (subst (λ l. SideCounted g Sell p os (trades_at g p v os) l c.sells) opened h.sells) b.number t
        (buy_not_sold os distinct b (has_at_place Buy os kb b _ fb.here))
        (λ n i j. trade_quiet b.number s.number p t n j i) (trade_loud b.number s.number p t s.number some_t (inr refl)) some_t limited_s;
  }

  pub remaining_less : after.remaining < c.remaining
  remaining_less = omega (arith, some_t)

-- a count begins with nothing counted
module _ (g : Settings) (p v : ℕ) (os : List Order) where
  open_start : open_trades g p os (start v) ≡ trades_at g p v os
  open_start = ap₂ (λ xs ys. pair p xs ys v) (spend_none (parties g Buy p 0 os) ∙ sym (at_price_parties g Buy p os)) (spend_none (parties g Sell p 0 os) ∙ sym (at_price_parties g Sell p os))

  side_start : (s : Side) → SideCounted g s p os (trades_at g p v os) (open_trades g p os (start v)) (progress 0 0 0)
  side_start s = subst (λ l. SideCounted g s p os (trades_at g p v os) l (progress 0 0 0)) (sym open_start) (record {
    behind = sym (kept_active g (idle (trades_at g p v os)) (idle_market (trades_at g p v os)) (ranked s os));
    counted = sym (omega (arith, ap length (kept_active g is_market_order (λ o e. e) (ranked s os))));
    limited = omega arith;
  })

  pub counts_start : Counts g p v os (start v)
  counts_start = record { trades = omega (arith, ap length open_start); limited = omega arith; buys = side_start Buy; sells = side_start Sell }

-- and ends with the market orders that are not counted
side_idle : (g : Settings) (s : Side) (p : ℕ) (os : List Order) (ts us : List TapeRecord) (x : Progress) → us ≡ [] → SideCounted g s p os ts us x → length (filter (idle ts) (ranked s os)) + x.markets ≡ length (filter is_market_order (ranked s os))
side_idle g s p os ts us x e h =
    let xs : List Order = fresh x.spent (actives g (drop x.place (ranked s os))) in
    omega (arith, h.counted, ap length (h.behind ∙ ap (λ l. filter (idle l) xs) e ∙ idle_none xs))

pub counts_done : (g : Settings) (p v : ℕ) (os : List Order) (c : Tally) → Counts g p v os c → open_trades g p os c ≡ []
    → (c.trades ≡ length (trades_at g p v os)) × (length (filter (idle (trades_at g p v os)) os) + (c.buys.markets + c.sells.markets) ≡ length (filter is_market_order os))
counts_done g p v os c h e =
    let ts : List TapeRecord = trades_at g p v os in (
      omega (arith, h.trades, ap length e),
      omega (
        arith,
        side_idle g Buy p os ts (open_trades g p os c) c.buys e h.buys,
        side_idle g Sell p os ts (open_trades g p os c) c.sells e h.sells,
        kept_sides (idle ts) os,
        kept_sides is_market_order os,
      ),
    )

-- no more market orders are counted on a side than stand
pub markets_fit : (g : Settings) (s : Side) (p : ℕ) (os : List Order) (ts us : List TapeRecord) (x : Progress) → SideCounted g s p os ts us x → x.markets ≤ length os
markets_fit g s p os ts us x h = omega (arith, h.counted, length_kept_le is_market_order (ranked s os), length_ranked s os)
