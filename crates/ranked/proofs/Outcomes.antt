-- What each change of the queues does to the standing orders.
use Rattle.std.proofs.Common.{◌≡◌, ℕ, ◌-◌, ◌<◌, true, ltb, leb, List, [], ◌∷◌, ◌++◌, get_or, take, set, sym, refl, ap, ◌∙◌, subst, arith}
use Rattle.std.specs.List.{remove, AllByRecursion}
use Rattle.std.proofs.ByRecursion.{All-append}
use Rattle.std.proofs.lemmas.List.{append-nil}
use Rattle.std.proofs.lemmas.Bool.{and_parts, leb-true, ltb-true}
use Rattle.model.specs.declared.types.Side.TheVariants.{Buy, Sell}
use Rattle.model.specs.declared.types.OrderPrice.TheVariants.{Limit}
use Rattle.model.specs.declared.types.Order.{Order}
use Rattle.model.specs.Numbers.{max_number, max_price, in_range}
use Rattle.model.specs.Orders.{Standing, lower, turn, with_left, with_price}
use Rattle.model.specs.Rank.{insert, ranked}
use Rattle.model.proofs.Commuting.{Lacks}
use Rattle.model.proofs.Standing.{standing_push, standing_wider, lower_standing, turn_standing}
use Rattle.book.specs.Bounds.{Bounded}
use Rattle.book.specs.Meaning.{all_below}
use Rattle.rows.specs.Rows.{blank}
use Rattle.ranked.specs.Views.{view}
use Rattle.ranked.specs.Queues.{count_of, queue, Changed}
use Rattle.ranked.specs.InRank.{meaning, InRank}
use Rattle.ranked.specs.declared.position.Position.{Position}
use Rattle.ranked.specs.declared.sides.Sides.{Sides}
use Rattle.ranked.proofs.Found.{Stands, among_ranked}
use Rattle.ranked.proofs.Middle.{Split, split_at, lower_whole, lower_part, turn_middle}
use Rattle.ranked.proofs.Holding.{Holds, Becomes, becomes, hold_enter, hold_remove, hold_replace}

-- nothing stands in empty queues
pub empty : (h : Sides) → count_of Buy h ≡ 0 → count_of Sell h ≡ 0 → Becomes h []
unfolding queue
empty h b s = becomes h [] (record { standing = omega arith; bounded = tt }) both
  where
    both : Holds h []
    both Buy = ap (λ n. take n (view Buy h.rows.now)) b
    both Sell = ap (λ n. take n (view Sell h.rows.now)) s

-- orders whose numbers are all below n stand below n
standing_below : (lo hi n : ℕ) (os : List Order) → lo < n → Standing lo os hi → all_below os n ≡ true → Standing lo os (n - 1)
standing_below lo hi n [] l h b = omega arith
standing_below lo hi n (o ∷ os) l h b =
    let p = and_parts (ltb o.number n) (all_below os n) b in
    (h.0, h.1, standing_below o.number hi n os (ltb-true o.number n p.0) h.2 p.1)

-- and none has the number n
below_lacks : (n : ℕ) (os : List Order) → all_below os n ≡ true → Lacks n os
below_lacks n [] b = tt
below_lacks n (o ∷ os) b =
    let p = and_parts (ltb o.number n) (all_below os n) b in
    let l = ltb-true o.number n p.0 in
    ((λ e. omega arith), below_lacks n os p.1)

-- an order with a new highest number is entered
pub added : (h k : Sides) (o : Order) → InRank h → Bounded o → all_below (meaning h) o.number ≡ true → Changed o.side (insert o.side o (queue o.side h)) h k → Becomes k (meaning h ++ o ∷ [])
added h k o r s b c =
    let os = meaning h in
    let last = standing_push 0 (o.number - 1) os o (standing_below 0 max_number o.number os s.number_low r.held.standing b) (let n = s.number_low in omega arith) s.left_low in
    becomes k (os ++ o ∷ [])
    (record { standing = standing_wider 0 0 o.number max_number (os ++ o ∷ []) (omega arith) s.number_high last; bounded = All-append Bounded os (o ∷ []) r.held.bounded (s, tt) })
    (hold_enter o.side h k os [] o refl (below_lacks o.number os b) (λ t. sym (r.ranks t) ∙ sym (ap (ranked t) (append-nil os))) c)

-- what holds of all orders holds of each part of them
all_parts : (P : Order → Type 0) (xs : List Order) (x : Order) (ys : List Order) → AllByRecursion P (xs ++ x ∷ ys) → AllByRecursion P xs × P x × AllByRecursion P ys
all_parts P [] x ys h = (tt, h.0, h.1)
all_parts P (z ∷ xs) x ys h = let r = all_parts P xs x ys h.1 in ((h.0, r.0), r.1, r.2)

-- the order x with the number n stands at p
module _ (h : Sides) (n : ℕ) (p : Position) (x : Order) (a : Stands h n p x) where
  -- the orders below and above its number
  split : Split p.side (meaning h) x
  split = split_at 0 max_number p.side (meaning h) x a.rank.held.standing (among_ranked h n p x a)

  -- those below it have other numbers
  lacks : Lacks n split.front
  lacks = subst (λ m. Lacks m split.front) a.number split.low

  -- all of them are in bounds
  parts : AllByRecursion Bounded split.front × Bounded x × AllByRecursion Bounded split.rest
  parts = all_parts Bounded split.front x split.rest (subst (AllByRecursion Bounded) split.is a.rank.held.bounded)

  -- it is the one at its index
  here : (get_or (queue p.side h) p.index blank).number ≡ x.number
  here = sym (ap (λ o. o.number) a.is)

  -- the queues hold them
  hold : Holds h (split.front ++ x ∷ split.rest)
  hold t = sym (a.rank.ranks t) ∙ ap (ranked t) split.is

  -- and once it is removed, the others
  without : (k : Sides) → Changed p.side (remove (queue p.side h) p.index) h k → Holds k (split.front ++ split.rest)
  without k c = hold_remove p.side h k split.front split.rest x split.side split.low split.high hold p.index blank a.within here c

  -- q is taken, and y is what becomes of it
  module _ (k : Sides) (q : ℕ) (y : Order) (e : y ≡ with_left x (x.left - q)) where
    -- what is lowered stands
    standing : Standing 0 (lower n q (meaning h)) max_number
    standing = lower_standing 0 max_number n q (meaning h) a.rank.held.standing

    -- so much is left of it
    left : y.left ≡ x.left - q
    left = ap (λ o. o.left) e

    -- nothing is left, and it is removed
    pub used_up : y.left ≡ 0 → Changed p.side (remove (queue p.side h) p.index) h k → Becomes k (lower n q (meaning h))
    used_up z c =
        let after = ap (lower n q) split.is ∙ lower_whole n x split.rest a.number q split.front lacks (omega (arith, left)) in
        becomes k (lower n q (meaning h))
        (record { standing = standing; bounded = subst (AllByRecursion Bounded) (sym after) (All-append Bounded split.front split.rest parts.0 parts.2) })
        (λ t. without k c t ∙ sym (ap (ranked t) after))

    -- something is left, and it is replaced
    pub lessened : (y.left ≡ 0 → ⊥) → Changed p.side (set (queue p.side h) p.index y) h k → Becomes k (lower n q (meaning h))
    lessened z c =
        let w : Order = with_left x (x.left - q) in
        let some : 0 < x.left - q = omega (arith, left, z) in
        let after = ap (lower n q) split.is ∙ lower_part n x split.rest a.number q split.front lacks (omega arith) in
        let b = parts.1 in
        let in_bounds : Bounded w = record { number_low = b.number_low; number_high = b.number_high; member_low = b.member_low; member_high = b.member_high; price_low = b.price_low; price_high = b.price_high; left_low = some; left_high = let m = b.left_high in omega arith } in
        becomes k (lower n q (meaning h))
        (record { standing = standing; bounded = subst (AllByRecursion Bounded) (sym after) (All-append Bounded split.front (w ∷ split.rest) parts.0 (in_bounds, parts.2)) })
        (λ t. hold_replace p.side h k split.front split.rest x split.side split.low split.high hold p.index blank a.within here w split.side refl refl (subst (λ o. Changed p.side (set (queue p.side h) p.index o) h k) e c) t ∙ sym (ap (ranked t) after))

  -- it is removed, and entered again at a limit price
  pub turned : (m k : Sides) (price : ℕ) (y : Order) → y ≡ with_price x (Limit price) → in_range 1 max_price price ≡ true → Changed p.side (remove (queue p.side h) p.index) h m → Changed y.side (insert y.side y (queue y.side m)) m k
      → Becomes k (turn n price (meaning h))
  turned m k price y e f c d =
      let w : Order = with_price x (Limit price) in
      let after = ap (turn n price) split.is ∙ turn_middle n x split.rest a.number price split.front lacks in
      let b = parts.1 in
      let r = and_parts (leb 1 price) (leb price max_price) f in
      let in_bounds : Bounded w = record { number_low = b.number_low; number_high = b.number_high; member_low = b.member_low; member_high = b.member_high; price_low = leb-true 1 price r.0; price_high = leb-true price max_price r.1; left_low = b.left_low; left_high = b.left_high } in
      becomes k (turn n price (meaning h))
      (record { standing = turn_standing 0 max_number n price (meaning h) a.rank.held.standing; bounded = subst (AllByRecursion Bounded) (sym after) (All-append Bounded split.front (w ∷ split.rest) parts.0 (in_bounds, parts.2)) })
      (λ t. hold_enter p.side m k split.front split.rest w split.side split.low (without m c) (subst (λ s. Changed s (insert s w (queue s m)) m k) split.side (subst (λ o. Changed o.side (insert o.side o (queue o.side m)) m k) e d)) t ∙ sym (ap (ranked t) after))
