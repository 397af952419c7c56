-- The trades at a price: their parties, no order beyond what is left of it, and the first in rank first.
use Rattle.std.proofs.Common.{◌≡◌, ℕ, ◌-◌, ◌<◌, ◌≤◌, min, true, eqb, ltb, List, [], ◌∷◌, sym, refl, ◌∙◌, subst, arith}
use Rattle.std.specs.List.{AllByRecursion}
use Rattle.std.proofs.ByRecursion.{All-append, All-weaker}
use Rattle.std.proofs.lemmas.Bool.{cond_both}
use Rattle.model.specs.Types.{Buy, Sell, Order, TapeRecord, Trade, Withdrawal}
use Rattle.model.specs.Grid.{Settings}
use Rattle.model.specs.Curve.{takes_part, point, traded}
use Rattle.model.specs.Orders.{left_in}
use Rattle.model.specs.Records.{total_traded, total_withdrawn}
use Rattle.model.specs.Auction.{at_price, Paired, pair_one, pair, trades_at}
use Rattle.model.specs.Allocations.{total_quantity, deals, all_at}
use Rattle.model.specs.Laws.{TwoParties}
use Rattle.model.proofs.Lists.{Pairwise, pairwise_weaker_on}
use Rattle.model.proofs.Ranking.{Distinct, same_order}
use Rattle.model.proofs.Taken.{taken, taken_missing, taken_in_order}
use Rattle.model.proofs.Records.{traded_le_both, bought_le_traded, sold_le_traded}
use Rattle.model.proofs.Pairing.{Alive, volume_of, pair_pairs, pair_total, pair_limited}
use Rattle.model.proofs.AtPrice.{parts_apart, Party, left_in_parts, lefts_at_price, left_in_at_price, parties_at_price, all_at_price, NoShared}

-- a trade at p between a number with P and a number with Q
abbrev pub Between : ℕ → (ℕ → Type 0) → (ℕ → Type 0) → TapeRecord → Type 0
Between p P Q (Trade b s x q) = (x ≡ p) × P b × Q s
Between p P Q (Withdrawal m q r) = ⊥

-- the numbers of some orders have P
abbrev pub Numbers : (ℕ → Type 0) → List Order → Type 0
Numbers P os = AllByRecursion (λ o. P o.number) os

one_between : (P Q : ℕ → Type 0) (p n q : ℕ) (ss : List Order) (v : ℕ) → P n → Numbers Q ss
    → AllByRecursion (Between p P Q) (pair_one p n q ss v).trades × Numbers Q (pair_one p n q ss v).sells
one_between P Q p n q [] v h k = (tt, tt)
one_between P Q p n q (s ∷ ss) v h k =
    let t : ℕ = min (min q s.left) v in
    cond_both (eqb t 0) _ _ (λ (x : Paired). AllByRecursion (Between p P Q) x.trades × Numbers Q x.sells) (λ e. (tt, k))
    (λ _. cond_both (ltb t s.left) _ _ (λ (x : Paired). AllByRecursion (Between p P Q) x.trades × Numbers Q x.sells)
    (λ _. (((refl, h, k.0), tt), k))
    (λ _. let r = one_between P Q p n (q - t) ss (v - t) h k.1 in (((refl, h, k.0), r.0), r.1)))

pair_between : (P Q : ℕ → Type 0) (p : ℕ) (bs ss : List Order) (v : ℕ) → Numbers P bs → Numbers Q ss → AllByRecursion (Between p P Q) (pair p bs ss v)
pair_between P Q p [] ss v h k = tt
pair_between P Q p (b ∷ bs) ss v h k =
    let x : Paired = pair_one p b.number b.left ss v in
    let r = one_between P Q p b.number b.left ss v h.0 k in
    All-append (Between p P Q) x.trades (pair p bs x.sells x.volume) r.0 (pair_between P Q p bs x.sells x.volume h.1 r.1)

module _ (p : ℕ) (bs ss : List Order) (v : ℕ) (alive : Alive ss) where
  -- what is traded of a number that no sell has, and of one that no buy has
  traded_of_buy : (n : ℕ) → AllByRecursion (λ s. n ≡ s.number → ⊥) ss → total_traded n (pair p bs ss v) ≡ taken (volume_of bs ss v) bs n
  traded_of_buy n h =
      let r = pair_pairs p bs ss v alive in
      omega (arith, traded_le_both n (pair p bs ss v), bought_le_traded n (pair p bs ss v), r.buys n, r.sells n, taken_missing (volume_of bs ss v) ss n h)

  traded_of_sell : (n : ℕ) → AllByRecursion (λ b. n ≡ b.number → ⊥) bs → total_traded n (pair p bs ss v) ≡ taken (volume_of bs ss v) ss n
  traded_of_sell n h =
      let r = pair_pairs p bs ss v alive in
      omega (arith, traded_le_both n (pair p bs ss v), sold_le_traded n (pair p bs ss v), r.buys n, r.sells n, taken_missing (volume_of bs ss v) bs n h)

  -- a buy of which something remains leaves nothing to the later buys
  pub buys_in_order : Distinct bs → NoShared bs ss → Pairwise (λ x y. total_traded x.number (pair p bs ss v) < x.left → total_traded y.number (pair p bs ss v) ≡ 0) bs
  buys_in_order d a =
      pairwise_weaker_on (λ b. AllByRecursion (λ s. b.number ≡ s.number → ⊥) ss) (λ x y. taken (volume_of bs ss v) bs x.number < x.left → taken (volume_of bs ss v) bs y.number ≡ 0) (λ x y. total_traded x.number (pair p bs ss v) < x.left → total_traded y.number (pair p bs ss v) ≡ 0)
      (λ x y j k h l. traded_of_buy y.number k ∙ h (subst (λ z. z < x.left) (traded_of_buy x.number j) l)) bs a (taken_in_order (volume_of bs ss v) bs d)

  -- a sell of which something remains leaves nothing to the later sells
  pub sells_in_order : Distinct ss → NoShared ss bs → Pairwise (λ x y. total_traded x.number (pair p bs ss v) < x.left → total_traded y.number (pair p bs ss v) ≡ 0) ss
  sells_in_order d a =
      pairwise_weaker_on (λ s. AllByRecursion (λ b. s.number ≡ b.number → ⊥) bs) (λ x y. taken (volume_of bs ss v) ss x.number < x.left → taken (volume_of bs ss v) ss y.number ≡ 0) (λ x y. total_traded x.number (pair p bs ss v) < x.left → total_traded y.number (pair p bs ss v) ≡ 0)
      (λ x y j k h l. traded_of_sell y.number k ∙ h (subst (λ z. z < x.left) (traded_of_sell x.number j) l)) ss a (taken_in_order (volume_of bs ss v) ss d)

module _ (g : Settings) (p v : ℕ) (os : List Order) (alive : Alive os) where
  -- no order trades more than is left of it
  pub trades_limited : (n : ℕ) → total_traded n (trades_at g p v os) ≤ left_in os n
  trades_limited n =
      omega (arith, pair_limited p (at_price g Buy p os) (at_price g Sell p os) v (all_at_price g Sell p os (λ o. 1 ≤ o.left) alive) n, left_in_at_price g Buy p os n, left_in_at_price g Sell p os n, left_in_parts (takes_part g Buy p) (takes_part g Sell p) (parts_apart g p) os n)

  -- up to what both sides offer, the volume is traded
  pub trades_total : v ≤ traded (point g os p) → total_quantity (deals (trades_at g p v os)) ≡ v
  trades_total l =
      omega (arith, pair_total p (at_price g Buy p os) (at_price g Sell p os) v (all_at_price g Sell p os (λ o. 1 ≤ o.left) alive), lefts_at_price g Buy p os, lefts_at_price g Sell p os)

-- each trade is at p between a buy and a sell that may trade there
pub trades_parties : (g : Settings) (p v : ℕ) (os : List Order) → AllByRecursion (Between p (Party g Buy p os) (Party g Sell p os)) (trades_at g p v os)
trades_parties g p v os = pair_between (Party g Buy p os) (Party g Sell p os) p (at_price g Buy p os) (at_price g Sell p os) v (parties_at_price g Buy p os) (parties_at_price g Sell p os)

-- trades between parties are at one price, and their deals have parties that may trade
pub between_at : (p : ℕ) (P Q : ℕ → Type 0) (ts : List TapeRecord) → AllByRecursion (Between p P Q) ts → all_at p ts
between_at p P Q [] h = tt
between_at p P Q (Trade b s x q ∷ ts) h = (h.0.0, between_at p P Q ts h.1)
between_at p P Q (Withdrawal n q r ∷ ts) h = absurd h.0

pub between_deals : (p : ℕ) (P Q : ℕ → Type 0) (ts : List TapeRecord) → AllByRecursion (Between p P Q) ts → AllByRecursion (λ d. P d.buy × Q d.sell) (deals ts)
between_deals p P Q [] h = tt
between_deals p P Q (Trade b s x q ∷ ts) h = ((h.0.1, h.0.2), between_deals p P Q ts h.1)
between_deals p P Q (Withdrawal n q r ∷ ts) h = absurd h.0

pub between_withdrawn : (p : ℕ) (P Q : ℕ → Type 0) (n : ℕ) (ts : List TapeRecord) → AllByRecursion (Between p P Q) ts → total_withdrawn n ts ≡ 0
between_withdrawn p P Q n [] h = refl
between_withdrawn p P Q n (Trade b s x q ∷ ts) h = between_withdrawn p P Q n ts h.1
between_withdrawn p P Q n (Withdrawal m q r ∷ ts) h = absurd h.0

-- no order trades with itself
pub trades_apart : (g : Settings) (p v : ℕ) (os : List Order) → Distinct os → AllByRecursion TwoParties (trades_at g p v os)
trades_apart g p v os d =
    All-weaker (Between p (Party g Buy p os) (Party g Sell p os)) TwoParties two (trades_at g p v os) (trades_parties g p v os)
  where
    two : (t : TapeRecord) → Between p (Party g Buy p os) (Party g Sell p os) t → TwoParties t
    two (Trade b s x q) k = λ e.
        let i = k.1 in
        let j = k.2 in
        parts_apart g p i.0 i.2 (subst (λ o. takes_part g Sell p o ≡ true) (sym (same_order os d i.0 j.0 i.1 j.1 (i.3 ∙ e ∙ sym j.3))) j.2)
    two (Withdrawal n q r) k = tt
