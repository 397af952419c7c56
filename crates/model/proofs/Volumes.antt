-- Prices that orders allow, demand and supply at two prices compared; no feasible allocation trades more than either.
use Rattle.std.proofs.Common.{◌≡◌, ℕ, ◌+◌, ◌<◌, ◌≤◌, Bool, true, false, cond, ◌&&◌, eqb, List, [], ◌∷◌, Some, sum_by, filter, sym, refl, ap, subst, ⊎_elim, arith}
use Rattle.std.specs.List.{ContainsAt as Has, AllByRecursion}
use Rattle.std.proofs.ByRecursion.{all-has, All-weaker}
use Rattle.std.proofs.lemmas.Bool.{cond_both, cond-true, eq-eqb, eqb-true, le-leb, leb-false, leb-true, ne_eqb}
use Rattle.model.specs.Types.{Side, Buy, Sell, OrderPrice, Market, Limit, Order}
use Rattle.model.specs.Grid.{Settings, active}
use Rattle.model.specs.Rank.{opposite, same_side}
use Rattle.model.specs.Curve.{allows, takes_part, volume, point, traded}
use Rattle.model.specs.Orders.{find, left_in}
use Rattle.model.specs.Trading.{limit}
use Rattle.model.specs.Auction.{at_price}
use Rattle.model.specs.Allocations.{Deal, quantity_of, total_quantity, may_trade, Feasible}
use Rattle.model.proofs.Lists.{has_here, has_there, has_none, has_cases, all_from_has, has_kept, kept_has, sum_by_mono, sum_by_add, has_le_sum_by, sum_by_kept, sum_by_less}
use Rattle.model.proofs.Ranking.{Distinct}
use Rattle.model.proofs.Taken.{lefts, lefts_sum_by, left_in_has}
use Rattle.model.proofs.AtPrice.{Party, sum_by_at_price}

-- a limit that allows q and not p: the other side's limit q allows p and q, and what allows p allows q
pub between : (s : Side) (a p q : ℕ) → allows s (Limit a) p ≡ false → allows s (Limit a) q ≡ true
    → (allows (opposite s) (Limit q) p ≡ true) × (allows (opposite s) (Limit q) q ≡ true) × ((o : OrderPrice) → allows s o p ≡ true → allows s o q ≡ true)
between s a p q np yq = (first s np yq, second s, third s np yq)
  where
    first : (s : Side) → allows s (Limit a) p ≡ false → allows s (Limit a) q ≡ true → allows (opposite s) (Limit q) p ≡ true
    first Buy np yq = le-leb q p (omega (arith, leb-false p a np, leb-true q a yq))
    first Sell np yq = le-leb p q (omega (arith, leb-false a p np, leb-true a q yq))

    second : (s : Side) → allows (opposite s) (Limit q) q ≡ true
    second Buy = le-leb q q (omega arith)
    second Sell = le-leb q q (omega arith)

    third : (s : Side) → allows s (Limit a) p ≡ false → allows s (Limit a) q ≡ true → (o : OrderPrice) → allows s o p ≡ true → allows s o q ≡ true
    third s np yq Market k = refl
    third Buy np yq (Limit l) k = le-leb q l (omega (arith, leb-false p a np, leb-true q a yq, leb-true p l k))
    third Sell np yq (Limit l) k = le-leb l q (omega (arith, leb-false a p np, leb-true a q yq, leb-true l p k))

pub allows_buy : (c : OrderPrice) (q : ℕ) → q ≤ limit c → allows Buy c q ≡ true
allows_buy Market q l = refl
allows_buy (Limit a) q l = le-leb q a l

pub allows_sell : (c : OrderPrice) (q : ℕ) → limit c ≤ q → allows Sell c q ≡ true
allows_sell Market q l = refl
allows_sell (Limit a) q l = le-leb a q l

-- what an order gives to the volume at p
part : Settings → Side → ℕ → Order → ℕ
part b s p o = cond (takes_part b s p o) o.left 0

volume_is : (g : Settings) (s : Side) (p : ℕ) (os : List Order) → volume g s p os ≡ sum_by (part g s p) os
unfolding part
volume_is g s p os = sum_by_kept (λ o. o.left) (takes_part g s p) os

allowed_part : (a t p q : Bool) (n : ℕ) → cond (a && (t && p)) (cond q n 0) 0 ≤ cond (a && (t && q)) n 0
allowed_part true true true q n = omega arith
allowed_part true true false q n = omega arith
allowed_part true false p q n = omega arith
allowed_part false t p q n = omega arith

-- the orders at p, in rank, that allow q have at most the volume at q
pub lefts_allowed : (g : Settings) (s : Side) (p q : ℕ) (os : List Order) → lefts (filter (λ o. allows s o.price q) (at_price g s p os)) ≤ volume g s q os
unfolding part
lefts_allowed g s p q os =
    let yes : Order → Bool = λ o. allows s o.price q in
    let f : Order → ℕ = λ o. cond (yes o) o.left 0 in
    omega (
      arith,
      volume_is g s q os,
      lefts_sum_by (filter yes (at_price g s p os)),
      sum_by_kept (λ o. o.left) yes (at_price g s p os),
      sum_by_at_price g s p os f,
      sum_by_kept f (takes_part g s p) os,
      sum_by_mono (λ o. cond (takes_part g s p o) (f o) 0) (part g s q) os (all_from_has (λ o. cond (takes_part g s p o) (f o) 0 ≤ part g s q o) os (λ o m. allowed_part (same_side s o.side) (active g o.price) (allows s o.price p) (yes o) o.left)),
    )

part_wider : (a t p q : Bool) (n : ℕ) → (p ≡ true → q ≡ true) → cond (a && (t && p)) n 0 ≤ cond (a && (t && q)) n 0
part_wider true true true q n f = rw (f refl) (omega arith)
part_wider true true false q n f = omega arith
part_wider true false p q n f = omega arith
part_wider false t p q n f = omega arith

-- where all that allow p allow q, and an order with something left allows q and not p, the volume at q is greater
pub volume_greater : (g : Settings) (s : Side) (p q : ℕ) (os : List Order) → ((o : OrderPrice) → allows s o p ≡ true → allows s o q ≡ true) → (x : Order) → Has os x
    → same_side s x.side ≡ true → active g x.price ≡ true → allows s x.price p ≡ false → allows s x.price q ≡ true → 1 ≤ x.left
    → volume g s p os < volume g s q os
unfolding part
volume_greater g s p q os wide x m sx ax np yq l =
    omega (
      arith,
      volume_is g s p os,
      volume_is g s q os,
      sum_by_less (part g s p) (part g s q) os (λ o. part_wider (same_side s o.side) (active g o.price) (allows s o.price p) (allows s o.price q) o.left (wide o.price)) x m here,
    )
  where
    here : part g s p x < part g s q x
    here = rw (sx, ax, np, yq) (omega arith)

-- one order that takes part makes a volume
pub volume_some : (g : Settings) (s : Side) (q : ℕ) (os : List Order) (x : Order) → Has os x → takes_part g s q x ≡ true → 1 ≤ x.left → 0 < volume g s q os
unfolding part
volume_some g s q os x m t l = omega (arith, volume_is g s q os, sum_by_less (λ o. 0) (part g s q) os (λ o. omega arith) x m here)
  where
    here : 0 < part g s q x
    here = rw t (omega arith)

-- a number under which an order may trade is that of a party, and the other way round
may_trade_party : (g : Settings) (s : Side) (p n : ℕ) (os : List Order) → may_trade g s p (find n os) → Party g s p os n
may_trade_party g s p n [] h = absurd h
may_trade_party g s p n (x ∷ xs) h =
    cond_both (eqb x.number n) _ _ (λ f. may_trade g s p f → Party g s p (x ∷ xs) n)
    (λ e k. (x, has_here x xs, k, eqb-true x.number n e))
    (λ e k. let r = may_trade_party g s p n xs k in (r.0, has_there x xs r.0 r.1, r.2, r.3)) h

pub find_has : (os : List Order) → Distinct os → (o : Order) → Has os o → find o.number os ≡ Some o
find_has [] d o h = absurd (has_none o h)
find_has (x ∷ xs) d o h =
    ⊎_elim
    (λ e. let q : eqb x.number o.number ≡ true = eq-eqb x.number o.number (ap (λ v. v.number) e) in rw q (ap Some e))
    (λ k. let q : eqb x.number o.number ≡ false = ne_eqb x.number o.number (all-has (λ y. x.number ≡ y.number → ⊥) xs o d.0 k) in rw q (find_has xs d.1 o k))
    (has_cases x xs o h)

pub party_may_trade : (g : Settings) (s : Side) (p n : ℕ) (os : List Order) → Distinct os → Party g s p os n → may_trade g s p (find n os)
party_may_trade g s p n os d h = subst (λ m. may_trade g s p (find m os)) h.3 (subst (may_trade g s p) (sym (find_has os d h.0 h.1)) h.2)

-- what deals trade of the number n as one of their parties
abbrev share : (Deal → ℕ) → ℕ → List Deal → ℕ
share party n [] = 0
share party n (d ∷ ds) = cond (eqb (party d) n) d.quantity 0 + share party n ds

buy_share : (n : ℕ) (ds : List Deal) → share (λ d. d.buy) n ds ≤ quantity_of n ds
buy_share n [] = omega arith
buy_share n (d ∷ ds) = grind (arith, buy_share n ds)

sell_share : (n : ℕ) (ds : List Deal) → share (λ d. d.sell) n ds ≤ quantity_of n ds
sell_share n [] = omega arith
sell_share n (d ∷ ds) = grind (arith, sell_share n ds)

-- orders that hold each deal's party bear the whole quantity
borne : (party : Deal → ℕ) (os : List Order) (ds : List Deal) → AllByRecursion (λ d. (o : Order) × Has os o × (o.number ≡ party d)) ds
    → total_quantity ds ≤ sum_by (λ o. share party o.number ds) os
borne party os [] h = omega arith
borne party os (d ∷ ds) h =
    let o : Order = h.0.0 in
    let here : d.quantity ≡ cond (eqb (party d) o.number) d.quantity 0 = sym (cond-true (eqb (party d) o.number) d.quantity 0 (eq-eqb (party d) o.number (sym h.0.2))) in
    omega (arith, here, has_le_sum_by (λ x. cond (eqb (party d) x.number) d.quantity 0) os o h.0.1, borne party os ds h.1, sum_by_add (λ x. cond (eqb (party d) x.number) d.quantity 0) (λ x. share party x.number ds) os)

-- the same, where no order bears more than is left of it
bounded : (party : Deal → ℕ) (g : Settings) (s : Side) (p : ℕ) (os : List Order) (ds : List Deal) → Distinct os → ((n : ℕ) → share party n ds ≤ left_in os n)
    → AllByRecursion (λ d. may_trade g s p (find (party d) os)) ds → total_quantity ds ≤ volume g s p os
bounded party g s p os ds d l h =
    let kept : List Order = filter (takes_part g s p) os in
    let each : AllByRecursion (λ o. share party o.number ds ≤ o.left) kept = all_from_has (λ o. share party o.number ds ≤ o.left) kept (λ o k. omega (arith, l o.number, all-has (λ x. left_in os x.number ≡ x.left) os o (left_in_has os d) (kept_has (takes_part g s p) os o k).0)) in
    omega (arith, borne party kept ds (All-weaker (λ x. may_trade g s p (find (party x) os)) (λ x. (o : Order) × Has kept o × (o.number ≡ party x)) (λ x k. let r = may_trade_party g s p (party x) os k in (r.0, has_kept (takes_part g s p) os r.0 r.1 r.2, r.3)) ds h), sum_by_mono (λ o. share party o.number ds) (λ o. o.left) kept each)

module _ (g : Settings) (os : List Order) (p : ℕ) (ds : List Deal) (distinct : Distinct os) (f : Feasible g os p ds) where
  feasible_demand : total_quantity ds ≤ volume g Buy p os
  feasible_demand = bounded (λ d. d.buy) g Buy p os ds distinct (λ n. omega (arith, buy_share n ds, f.limited n)) (All-weaker (λ d. may_trade g Buy p (find d.buy os) × may_trade g Sell p (find d.sell os)) (λ d. may_trade g Buy p (find d.buy os)) (λ d h. h.0) ds f.parties)

  feasible_supply : total_quantity ds ≤ volume g Sell p os
  feasible_supply = bounded (λ d. d.sell) g Sell p os ds distinct (λ n. omega (arith, sell_share n ds, f.limited n)) (All-weaker (λ d. may_trade g Buy p (find d.buy os) × may_trade g Sell p (find d.sell os)) (λ d. may_trade g Sell p (find d.sell os)) (λ d h. h.1) ds f.parties)

  pub feasible_traded : total_quantity ds ≤ traded (point g os p)
  feasible_traded = omega (arith, feasible_demand, feasible_supply)
