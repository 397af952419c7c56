-- A strike at a price that trades the most leaves no crossing orders, and neither does a call that finds no price.
use Rattle.std.proofs.Common.{◌≡◌, ℕ, ◌<◌, ◌≤◌, min, Bool, true, false, not, ◌⊎◌, List, filter, refl, ◌∙◌, subst, inl, inr, arith}
use Rattle.std.specs.List.{ContainsAt as Has, AllByRecursion}
use Rattle.std.proofs.ByRecursion.{all-has, all_kept_by, All-map, All-weaker}
use Rattle.std.proofs.lemmas.Bool.{both_ways, cases_Bool, cases_lt, le-leb, not-true}
use Rattle.model.specs.Types.{Side, Buy, Sell, OrderPrice, Market, Limit, Order, TapeRecord}
use Rattle.model.specs.Grid.{Settings, active}
use Rattle.model.specs.Rank.{opposite}
use Rattle.model.specs.Curve.{allows, takes_part, volume, point, traded}
use Rattle.model.specs.Orders.{Standing, is_market}
use Rattle.model.specs.Records.{total_traded}
use Rattle.model.specs.Trading.{limit}
use Rattle.model.specs.Auction.{at_price, trades_at, apply_trades, idle, settled, struck_orders}
use Rattle.model.specs.Laws.{Uncrossed}
use Rattle.model.specs.Allocations.{AtMost}
use Rattle.model.proofs.Lists.{all_from_has, kept_has}
use Rattle.model.proofs.Ranking.{Wider, ranked_wider, same_side_refl}
use Rattle.model.proofs.Standing.{standing_alive}
use Rattle.model.proofs.Taken.{lefts, taken, taken_short}
use Rattle.model.proofs.Records.{bought_le_traded, sold_le_traded}
use Rattle.model.proofs.Pairing.{Pairs, pair_pairs}
use Rattle.model.proofs.AtPrice.{lefts_at_price, has_at_price, all_at_price}
use Rattle.model.proofs.Volumes.{between, allows_buy, allows_sell, lefts_allowed, volume_greater, volume_some}
use Rattle.model.proofs.Struck.{trades_standing}
use Rattle.model.proofs.Uncrossing.{Left, trades_leave}

-- the price of an order after a strike at p
abbrev settled_price : ℕ → OrderPrice → OrderPrice
settled_price p Market = Limit p
settled_price p (Limit l) = Limit l

-- y is left of an order of os that was not traded whole
record Unfilled (p : ℕ) (ts : List TapeRecord) (os : List Order) (y : Order) : Type 0 where
  was : Order
  stood : Has os was
  side : y.side ≡ was.side
  price : y.price ≡ settled_price p was.price
  unfilled : total_traded was.number ts < was.left

settled_is : (p : ℕ) (o : Order) (c : OrderPrice) → o.price ≡ c → ((settled p o).price ≡ settled_price p c) × ((settled p o).side ≡ o.side)
settled_is p o Market e = (rw e, rw e)
settled_is p o (Limit l) e = (rw e, rw e)

settled_limit : (p : ℕ) (c : OrderPrice) → is_market (settled_price p c) ≡ false
settled_limit p Market = refl
settled_limit p (Limit l) = refl

struck_unfilled : (p lo hi : ℕ) (ts : List TapeRecord) (os : List Order) → Standing lo os hi → AllByRecursion (Unfilled p ts os) (struck_orders p ts os)
struck_unfilled p lo hi ts os st =
    All-map (Unfilled p ts os) (settled p) (filter (λ o. not (idle ts o)) ms)
    (all_kept_by (λ o. not (idle ts o)) (λ y. Unfilled p ts os (settled p y)) ms
    (all_from_has (λ y. Unfilled p ts os (settled p y)) ms (λ y m. go y (all-has (Left os (λ n. total_traded n ts)) ms y (trades_leave lo hi ts os st) m) (all-has (λ o. 1 ≤ o.left) ms y (standing_alive lo hi ms (trades_standing lo hi ts os st)) m))))
  where
    ms : List Order
    ms = apply_trades ts os

    go : (y : Order) → Left os (λ n. total_traded n ts) y → 1 ≤ y.left → Unfilled p ts os (settled p y)
    go y k l = record {
      was = k.was;
      stood = k.stood;
      side = (settled_is p y y.price refl).1 ∙ k.side;
      price = (settled_is p y k.was.price k.price).0;
      unfilled = omega (arith, k.left);
    }

module _ (g : Settings) (os : List Order) (lo hi p v : ℕ) (st : Standing lo os hi) (is : v ≡ traded (point g os p)) where
  abbrev ts : List TapeRecord
  ts = trades_at g p v os

  alive : (s : Side) → AllByRecursion (λ o. 1 ≤ o.left) (at_price g s p os)
  alive s = all_at_price g s p os (λ o. 1 ≤ o.left) (standing_alive lo hi os st)

  -- each side gives v to the strike, the first in rank first
  taken_traded : (s : Side) (n : ℕ) → taken v (at_price g s p os) n ≤ total_traded n ts
  taken_traded s n = go s
    where
      whole : min v (min (lefts (at_price g Buy p os)) (lefts (at_price g Sell p os))) ≡ v
      whole = omega (arith, lefts_at_price g Buy p os, lefts_at_price g Sell p os)

      pairs : Pairs (at_price g Buy p os) (at_price g Sell p os) v v ts
      pairs = subst (λ t. Pairs (at_price g Buy p os) (at_price g Sell p os) v t ts) whole (pair_pairs p (at_price g Buy p os) (at_price g Sell p os) v (alive Sell))

      go : (s : Side) → taken v (at_price g s p os) n ≤ total_traded n ts
      go Buy = omega (arith, pairs.buys n, bought_le_traded n ts)
      go Sell = omega (arith, pairs.sells n, sold_le_traded n ts)

  -- an order of a side that is not traded whole
  record Resting (s : Side) (x : Order) : Type 0 where
    stood : Has os x
    side : x.side ≡ s
    rest : total_traded x.number ts < x.left

  -- where an active one took part, more than v is there at every price that it allows
  resting_more : (s : Side) (x : Order) (q : ℕ) → Resting s x → active g x.price ≡ true → allows s x.price p ≡ true → allows s x.price q ≡ true → v < volume g s q os
  resting_more s x q k ax yp yq =
      omega (
        arith,
        lefts_allowed g s p q os,
        taken_short (λ x y. Wider s x.price y.price) (λ o. allows s o.price q) (λ a c w. w q) v (at_price g s p os) (ranked_wider s (filter (takes_part g s p) os)) x
            (has_at_price g s p os x k.stood (rw (k.side, same_side_refl s, ax, yp) refl)) yq (omega (arith, taken_traded s x.number, k.rest)),
      )

  both_more : (s : Side) (q : ℕ) → v < volume g s q os → v < volume g (opposite s) q os → v < traded (point g os q)
  both_more Buy q l r = omega arith
  both_more Sell q l r = omega arith

  -- of a side that is traded whole at p no order remains that allows the limit of one that remains on the other side
  not_crossed : (s : Side) → v ≡ volume g s p os → AtMost g os v → (x y : Order) → Resting s x → Resting (opposite s) y → (X Y : OrderPrice) → x.price ≡ X → y.price ≡ Y
      → active g (settled_price p X) ≡ true → active g (settled_price p Y) ≡ true → allows s (settled_price p X) (limit (settled_price p Y)) ≡ true → ⊥
  not_crossed s full most x y rx ry Market Y ex ey ax ay cross = omega (arith, resting_more s x p rx (rw ex) (rw ex) (rw ex))
  not_crossed s full most x y rx ry (Limit a) Market ex ey ax ay cross = omega (arith, resting_more s x p rx (rw ex ax) (rw ex cross) (rw ex cross))
  not_crossed s full most x y rx ry (Limit a) (Limit q) ex ey ax ay cross = go (cases_Bool (allows s (Limit a) p))
    where
      go : (allows s (Limit a) p ≡ true) ⊎ (allows s (Limit a) p ≡ false) → ⊥
      go (inl yes_p) = omega (arith, resting_more s x p rx (rw ex ax) (rw ex yes_p) (rw ex yes_p))
      go (inr not_p) =
          let k = between s a p q not_p cross in
          let more : v < volume g s q os = omega (arith, volume_greater g s p q os k.2 x rx.stood (rw rx.side (same_side_refl s)) (rw ex ax) (rw ex not_p) (rw ex cross) (omega (arith, rx.rest))) in
          let other : v < volume g (opposite s) q os = resting_more (opposite s) y q ry (rw ey ay) (rw ey k.0) (rw ey k.1) in
          omega (arith, both_more s q more other, most q ay)

  lesser : (v ≡ volume g Buy p os) ⊎ (v ≡ volume g Sell p os)
  lesser = elim (cases_lt (volume g Buy p os) (volume g Sell p os)) [ inl l ↦ inl (omega arith) | inr l ↦ inr (omega arith) ]

  -- a strike at p, where no grid price trades more, leaves orders that do not cross
  pub struck_uncrossed : AtMost g os v → Uncrossed g (struck_orders p ts os)
  struck_uncrossed most = record {
    no_market = All-weaker (Unfilled p ts os) (λ o. is_market o.price ≡ false) (λ y k. rw k.price (settled_limit p k.was.price)) (struck_orders p ts os) left;
    apart = λ x y mx my sx sy ax ay.
        let k : Unfilled p ts os x = all-has (Unfilled p ts os) (struck_orders p ts os) x left mx in
        let l : Unfilled p ts os y = all-has (Unfilled p ts os) (struck_orders p ts os) y left my in
        let rx : Resting Buy k.was = record { stood = k.stood; side = rw k.side at sx; rest = k.unfilled } in
        let ry : Resting Sell l.was = record { stood = l.stood; side = rw l.side at sy; rest = l.unfilled } in
        rw (k.price, l.price) (go k.was l.was rx ry (rw k.price at ax) (rw l.price at ay) lesser (cases_lt (after k.was) (after l.was)));
  }
    where
      left : AllByRecursion (Unfilled p ts os) (struck_orders p ts os)
      left = struck_unfilled p lo hi ts os st

      after : Order → ℕ
      after o = limit (settled_price p o.price)

      go : (x y : Order) → Resting Buy x → Resting Sell y → active g (settled_price p x.price) ≡ true → active g (settled_price p y.price) ≡ true
          → (v ≡ volume g Buy p os) ⊎ (v ≡ volume g Sell p os) → (after x < after y) ⊎ (after y ≤ after x) → after x < after y
      go x y rx ry ax ay full (inl l) = l
      go x y rx ry ax ay (inl full) (inr l) = absurd (not_crossed Buy full most x y rx ry x.price y.price refl refl ax ay (allows_buy (settled_price p x.price) (after y) l))
      go x y rx ry ax ay (inr full) (inr l) = absurd (not_crossed Sell full most y x ry rx y.price x.price refl refl ay ax (allows_sell (settled_price p y.price) (after x) l))

-- where nothing trades at any grid price, the limit orders do not cross
pub unpriced_uncrossed : (g : Settings) (os : List Order) (lo hi : ℕ) → Standing lo os hi → AtMost g os 0 → Uncrossed g (filter (λ o. not (is_market o.price)) os)
unpriced_uncrossed g os lo hi st most = record {
  no_market = all_from_has (λ o. is_market o.price ≡ false) (filter lim os) (λ x m. limits x m);
  apart = λ x y mx my sx sy ax ay. go x y (kept_has lim os x mx).0 (kept_has lim os y my).0 sx sy x.price y.price refl refl ax ay (limits x mx) (limits y my) (cases_lt (limit x.price) (limit y.price));
}
  where
    lim : Order → Bool
    lim o = not (is_market o.price)

    limits : (x : Order) → Has (filter lim os) x → is_market x.price ≡ false
    limits x m = not-true (is_market x.price) (kept_has lim os x m).1

    some : (x : Order) → Has os x → 1 ≤ x.left
    some x m = all-has (λ o. 1 ≤ o.left) os x (standing_alive lo hi os st) m

    go : (x y : Order) → Has os x → Has os y → x.side ≡ Buy → y.side ≡ Sell → (X Y : OrderPrice) → x.price ≡ X → y.price ≡ Y → active g X ≡ true
        → active g Y ≡ true → is_market X ≡ false → is_market Y ≡ false → (limit X < limit Y) ⊎ (limit Y ≤ limit X) → limit X < limit Y
    go x y mx my sx sy Market Y ex ey ax ay nx ny c = absurd (both_ways true nx refl)
    go x y mx my sx sy (Limit a) Market ex ey ax ay nx ny c = absurd (both_ways true ny refl)
    go x y mx my sx sy (Limit a) (Limit q) ex ey ax ay nx ny (inl l) = l
    go x y mx my sx sy (Limit a) (Limit q) ex ey ax ay nx ny (inr l) =
        absurd (omega (
          arith,
          most q ay,
          volume_some g Buy q os x mx (rw (sx, ex, ax, le-leb q a l) refl) (some x mx),
          volume_some g Sell q os y my (rw (sy, ey, ay, le-leb q q (omega arith)) refl) (some y my),
        ))
