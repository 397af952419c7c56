-- Price-time priority: where an order trades in an auction, every active order of its side that ranks before it trades whole.
use Rattle.std.proofs.Common.{◌≡◌, ℕ, ◌<◌, ◌≤◌, true, ◌&&◌, ◌||◌, eqb, ltb, ◌⊎◌, List, [], ◌∷◌, map, filter, sym, refl, subst, inl, inr, ⊎_elim, arith}
use Rattle.std.specs.List.{ContainsAt as Has, AllByRecursion}
use Rattle.std.proofs.ByRecursion.{all-has}
use Rattle.std.proofs.lemmas.Bool.{and_parts, both_ways, cases_Bool, cases_lt, cond-false, eqb-true, false≢true, or_from}
use Rattle.model.specs.Types.{Side, Buy, Sell, Order, AfterAuction, TapeRecord, Trade, Withdrawal, Call, Enter, Withdraw, BeginRandom, Auction, Close}
use Rattle.model.specs.Grid.{Settings, active}
use Rattle.model.specs.Rank.{same_side, before}
use Rattle.model.specs.Curve.{allows, takes_part, traded}
use Rattle.model.specs.Rules.{Rule}
use Rattle.model.specs.Orders.{left_in, withdrawal}
use Rattle.model.specs.Records.{total_traded}
use Rattle.model.specs.State.{State}
use Rattle.model.specs.Auction.{at_price, trades_at, idle, struck_records}
use Rattle.model.specs.Calls.{is_market_order, auction}
use Rattle.model.specs.Run.{step}
use Rattle.model.specs.Laws.{Priority, in_rank}
use Rattle.model.proofs.Lists.{Pairwise, pairwise_both, pairwise_has}
use Rattle.model.proofs.Ranking.{before_asym, Distinct, distinct_kept, same_order, ranked_strictly, first_wider, same_side_refl}
use Rattle.model.proofs.Standing.{standing_alive, standing_distinct}
use Rattle.model.proofs.Taken.{left_in_has}
use Rattle.model.proofs.Records.{traded_append, traded_withdrawals}
use Rattle.model.proofs.Pairing.{Alive}
use Rattle.model.proofs.AtPrice.{part_of_side, Party, has_at_price, all_at_price, distinct_at_price, apart_flip, apart_at_price}
use Rattle.model.proofs.Trades.{Between, buys_in_order, sells_in_order, trades_limited, trades_parties}
use Rattle.model.proofs.Sound.{auction_cases, Sound}

-- of two members, the one that comes before the other stands before it
ranked_pair : (s : Side) (R : Order → Order → Type 0) (xs : List Order) → Pairwise (λ x y. before s x y ≡ true) xs → Pairwise R xs → (x y : Order) → Has xs x
    → Has xs y → before s x y ≡ true → R x y
ranked_pair s R xs h k x y a b e =
    ⊎_elim
    (λ q. absurd (both_ways (before s x x) (before_asym s x x (subst (λ z. before s x z ≡ true) (sym q) e)) (subst (λ z. before s x z ≡ true) (sym q) e)))
    (⊎_elim (λ r. r.1) (λ r. absurd (both_ways (before s y x) (before_asym s x y e) r.0)))
    (pairwise_has (λ u v. (before s u v ≡ true) × R u v) xs (pairwise_both (λ u v. before s u v ≡ true) R xs h k) x y a b)

-- a number that trades is that of a party
traded_party : (p : ℕ) (P Q : ℕ → Type 0) (n : ℕ) (ts : List TapeRecord) → AllByRecursion (Between p P Q) ts → 0 < total_traded n ts → P n ⊎ Q n
traded_party p P Q n [] h l = absurd (omega arith)
traded_party p P Q n (Trade b s x q ∷ ts) h l =
    ⊎_elim (λ e. inl (subst P (eqb-true b n e) h.0.1))
    (λ e. ⊎_elim (λ f. inr (subst Q (eqb-true s n f) h.0.2))
    (λ f. traded_party p P Q n ts h.1 (omega (arith, cond-false (eqb b n || eqb s n) q 0 (or_from (eqb b n) (eqb s n) e f))))
    (cases_Bool (eqb s n)))
    (cases_Bool (eqb b n))
traded_party p P Q n (Withdrawal m q r ∷ ts) h l = absurd h.0

pub same_side_is : (s t : Side) → same_side s t ≡ true → s ≡ t
same_side_is Buy Buy h = refl
same_side_is Buy Sell h = absurd (false≢true h)
same_side_is Sell Buy h = absurd (false≢true h)
same_side_is Sell Sell h = refl

module _ (g : Settings) (p v : ℕ) (os : List Order) (distinct : Distinct os) (alive : Alive os) where
  abbrev ts : List TapeRecord
  ts = trades_at g p v os

  abbrev traded_here : Order → ℕ
  traded_here o = total_traded o.number ts

  in_order : (s : Side) → Pairwise (λ x y. traded_here x < x.left → traded_here y ≡ 0) (at_price g s p os)
  in_order Buy = buys_in_order p (at_price g Buy p os) (at_price g Sell p os) v (all_at_price g Sell p os (λ o. 1 ≤ o.left) alive) (distinct_at_price g Buy p os distinct) (apart_at_price g p os distinct)
  in_order Sell = sells_in_order p (at_price g Buy p os) (at_price g Sell p os) v (all_at_price g Sell p os (λ o. 1 ≤ o.left) alive) (distinct_at_price g Sell p os distinct) (apart_flip (at_price g Buy p os) (at_price g Sell p os) (apart_at_price g p os distinct))

  -- of two orders that take part, one of which something remains leaves nothing to one that it ranks before
  trades_in_rank : (s : Side) (x y : Order) → Has os x → Has os y → takes_part g s p x ≡ true → takes_part g s p y ≡ true → before s x y ≡ true
      → traded_here x < x.left → traded_here y ≡ 0
  trades_in_rank s x y h k i j e =
      ranked_pair s (λ u w. traded_here u < u.left → traded_here w ≡ 0) (at_price g s p os) (ranked_strictly s (filter (takes_part g s p) os) (distinct_kept (takes_part g s p) os distinct)) (in_order s) x y (has_at_price g s p os x h i) (has_at_price g s p os y k j) e

  -- an order that trades takes part on its side
  takes_part_here : (y : Order) → Has os y → 0 < traded_here y → takes_part g y.side p y ≡ true
  takes_part_here y k l = ⊎_elim (on Buy) (on Sell) (traded_party p (Party g Buy p os) (Party g Sell p os) y.number ts (trades_parties g p v os) l)
    where
      on : (s : Side) → Party g s p os y.number → takes_part g y.side p y ≡ true
      on s n =
          let t : takes_part g s p y ≡ true = subst (λ o. takes_part g s p o ≡ true) (same_order os distinct n.0 y n.1 k n.3) n.2 in
          subst (λ z. takes_part g z p y ≡ true) (same_side_is s y.side (part_of_side g s p y t)) t

  -- and so does an active order that ranks before it
  earlier_takes_part : (s : Side) (x y : Order) → x.side ≡ s → active g x.price ≡ true → before s x y ≡ true → takes_part g s p y ≡ true → takes_part g s p x ≡ true
  earlier_takes_part s x y sx ax e j =
      let a = and_parts (same_side s y.side) (active g y.price && allows s y.price p) j in
      let c = and_parts (active g y.price) (allows s y.price p) a.1 in
      let w = first_wider s y.price x.price (ltb y.number x.number) (before_asym s x y e) p c.1 in
      rw (sx, same_side_refl s, ax, w) refl

  trades_priority : Priority g os ts
  trades_priority x y h k sides ax e l =
      let j = takes_part_here y k l in
      let i = earlier_takes_part y.side x y sides ax e j in
      ⊎_elim
      (λ short. absurd (omega (arith, trades_in_rank y.side x y h k i j e short)))
      (λ whole. omega (arith, trades_limited g p v os alive x.number, all-has (λ o. left_in os o.number ≡ o.left) os x (left_in_has os distinct) h))
      (cases_lt (traded_here x) x.left)

  -- the withdrawals of the strike trade nothing
  struck_priority : Priority g os (struck_records ts os)
  struck_priority x y h k sides ax e l =
      let gone : List TapeRecord = map (withdrawal AfterAuction) (filter (idle ts) os) in
      let same = λ (n : ℕ). traded_append n ts gone in
      let none = λ (n : ℕ). traded_withdrawals n AfterAuction (filter (idle ts) os) in
      omega (arith, same x.number, none x.number, trades_priority x y h k sides ax e (omega (arith, same y.number, none y.number)))

module _ (r : Rule) (s : State) (h : Sound s) where
  auction_priority : (tape scratch : ℕ) → (auction r s tape scratch).refusal ≡ 0 → Priority s.settings s.orders (auction r s tape scratch).records
  auction_priority tape scratch =
      auction_cases r s tape scratch (λ o. o.refusal ≡ 0 → Priority s.settings s.orders o.records)
      (λ n z. absurd (omega arith))
      (λ _ _ _ _ x y hx hy sides ax e l. absurd (omega (arith, traded_withdrawals y.number AfterAuction (filter is_market_order s.orders))))
      (λ _ x _ _ _. struck_priority s.settings x.price (traded x) s.orders (standing_distinct 0 s.last s.orders h.standing) (standing_alive 0 s.last s.orders h.standing))

  -- so every call of a list
  pub step_in_rank : (tape scratch : ℕ) (c : Call) → in_rank s c (step r tape scratch s c)
  step_in_rank tape scratch (Enter e) = tt
  step_in_rank tape scratch (Withdraw m n) = tt
  step_in_rank tape scratch BeginRandom = tt
  step_in_rank tape scratch Auction = auction_priority tape scratch
  step_in_rank tape scratch Close = tt
