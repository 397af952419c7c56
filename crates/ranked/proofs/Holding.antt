-- The queues hold a list of standing orders, before and after a change.
use Rattle.std.proofs.Common.{◌≡◌, ℕ, ◌<◌, false, List, ◌∷◌, ◌++◌, length, get_or, set, sym, refl, ap, ◌∙◌, subst}
use Rattle.std.specs.List.{remove}
use Rattle.std.proofs.ByRecursion.{All-append}
use Rattle.std.proofs.lemmas.Bool.{cond-true, cond-false}
use Rattle.model.specs.declared.types.Side.{Side}
use Rattle.model.specs.declared.types.Side.TheVariants.{Buy, Sell}
use Rattle.model.specs.declared.types.Order.{Order}
use Rattle.model.specs.Numbers.{max_number}
use Rattle.model.specs.Rank.{opposite, same_side, insert, ranked}
use Rattle.model.proofs.Commuting.{Lacks}
use Rattle.model.proofs.Ranking.{same_side_refl}
use Rattle.rows.specs.Rows.{Held}
use Rattle.ranked.specs.ByNumber.{by_number}
use Rattle.ranked.specs.Queues.{queue, Changed}
use Rattle.ranked.specs.InRank.{meaning, InRank}
use Rattle.ranked.specs.declared.sides.Sides.{Sides}
use Rattle.ranked.proofs.BothSides.{ranked_middle, lacks_ranked, both_sides}
use Rattle.ranked.proofs.Middle.{removed_insert, set_insert}

-- each queue is its side of the orders in rank
abbrev pub Holds : Sides → List Order → Type 0
Holds h os = (t : Side) → queue t h ≡ ranked t os

-- the queues mean the orders, and are in rank
abbrev pub Becomes : Sides → List Order → Type 0
Becomes h os = (meaning h ≡ os) × InRank h

-- queues that hold the orders do both
pub becomes : (h : Sides) (os : List Order) → Held os → Holds h os → Becomes h os
unfolding meaning
becomes h os k p =
    let e : meaning h ≡ os = ap (λ l. by_number l (queue Sell h)) (p Buy) ∙ ap (by_number (ranked Buy os)) (p Sell) ∙ both_sides 0 max_number os k.standing in
    (e, record { held = subst Held (sym e) k; ranks = λ t. ap (ranked t) e ∙ sym (p t) })

-- after a change of one queue
holds_by : (s : Side) (h k : Sides) (xs os : List Order) → Changed s xs h k → xs ≡ ranked s os → queue (opposite s) h ≡ ranked (opposite s) os → Holds k os
holds_by Buy h k xs os c e d Buy = c.queues Buy ∙ e
holds_by Buy h k xs os c e d Sell = c.queues Sell ∙ d
holds_by Sell h k xs os c e d Buy = c.queues Buy ∙ d
holds_by Sell h k xs os c e d Sell = c.queues Sell ∙ e

-- the other side is another side
opposite_not : (s : Side) → same_side (opposite s) s ≡ false
opposite_not Buy = refl
opposite_not Sell = refl

-- the two sides of a list with x in its middle
own_side : (s : Side) (front rest : List Order) (x : Order) → x.side ≡ s → Lacks x.number front → ranked s (front ++ x ∷ rest) ≡ insert s x (ranked s (front ++ rest))
own_side s front rest x e f = ranked_middle s front x rest f ∙ cond-true _ _ _ (ap (same_side s) e ∙ same_side_refl s)

other_side : (s : Side) (front rest : List Order) (x : Order) → x.side ≡ s → Lacks x.number front → ranked (opposite s) (front ++ x ∷ rest) ≡ ranked (opposite s) (front ++ rest)
other_side s front rest x e f = ranked_middle (opposite s) front x rest f ∙ cond-false _ _ _ (ap (same_side (opposite s)) e ∙ opposite_not s)

-- an order is entered
pub hold_enter : (s : Side) (h k : Sides) (front rest : List Order) (o : Order) → o.side ≡ s → Lacks o.number front → Holds h (front ++ rest) → Changed s (insert s o (queue s h)) h k → Holds k (front ++ o ∷ rest)
hold_enter s h k front rest o e f p c =
    holds_by s h k _ (front ++ o ∷ rest) c (ap (insert s o) (p s) ∙ sym (own_side s front rest o e f)) (p (opposite s) ∙ sym (other_side s front rest o e f))

-- the order x stands at i
module _ (s : Side) (h k : Sides) (front rest : List Order) (x : Order) (e : x.side ≡ s) (f : Lacks x.number front) (g : Lacks x.number rest) (p : Holds h (front ++ x ∷ rest)) (i : ℕ) (d : Order) (l : i < length (queue s h)) (n : (get_or (queue s h) i d).number ≡ x.number) where
  -- the other orders of its side
  abbrev others : List Order
  others = ranked s (front ++ rest)

  -- which have other numbers
  lacks_others : Lacks x.number others
  lacks_others = lacks_ranked s x.number (front ++ rest) (All-append (λ y. x.number ≡ y.number → ⊥) front rest f g)

  -- it was inserted among them
  among : queue s h ≡ insert s x others
  among = p s ∙ own_side s front rest x e f

  -- at this index
  within : i < length (insert s x others)
  within = subst (λ q. i < length q) among l

  -- and is known by its number
  numbered : (get_or (insert s x others) i d).number ≡ x.number
  numbered = subst (λ q. (get_or q i d).number ≡ x.number) among n

  -- it is removed
  pub hold_remove : Changed s (remove (queue s h) i) h k → Holds k (front ++ rest)
  hold_remove c =
      holds_by s h k _ (front ++ rest) c
      (ap (λ q. remove q i) among ∙ removed_insert s x others i d lacks_others within numbered)
      (p (opposite s) ∙ other_side s front rest x e f)

  -- an order that ranks the same is written over it
  pub hold_replace : (y : Order) → y.side ≡ s → y.number ≡ x.number → y.price ≡ x.price → Changed s (set (queue s h) i y) h k → Holds k (front ++ y ∷ rest)
  hold_replace y q m r c =
      let lacks : Lacks y.number front = subst (λ z. Lacks z front) (sym m) f in
      holds_by s h k _ (front ++ y ∷ rest) c
      (ap (λ z. set z i y) among ∙ set_insert s x y others i d m r lacks_others within numbered ∙ sym (own_side s front rest y q lacks))
      (p (opposite s) ∙ other_side s front rest x e f ∙ sym (other_side s front rest y q lacks))
