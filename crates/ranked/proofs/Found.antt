-- An order that is found in a queue, and the order found under its number.
use Rattle.std.proofs.Common.{◌≡◌, ℕ, ◌<◌, cond, eqb, List, [], ◌∷◌, length, get_or, Some, None, sym, refl, ap, ◌∙◌, subst, arith}
use Rattle.std.specs.List.{ContainsAt as Has, AllByRecursion}
use Rattle.std.proofs.ByRecursion.{All-get_or, all_kept_by, has_get_or}
use Rattle.std.proofs.lemmas.Option.{none-some}
use Rattle.std.proofs.lemmas.Bool.{cond_both, cond-true, cond-false, ne_eqb, eqb-false}
use Rattle.model.specs.declared.types.Side.{Side}
use Rattle.model.specs.declared.types.Side.TheVariants.{Buy, Sell}
use Rattle.model.specs.declared.types.Order.{Order}
use Rattle.model.specs.Numbers.{max_number}
use Rattle.model.specs.Orders.{find}
use Rattle.model.specs.Rank.{ranked}
use Rattle.model.proofs.Commuting.{Lacks}
use Rattle.model.proofs.Lists.{kept_has}
use Rattle.model.proofs.Ranking.{all_ranked, ranked_has, of_side}
use Rattle.model.proofs.Standing.{standing_distinct}
use Rattle.model.proofs.Volumes.{find_has}
use Rattle.book.specs.Bounds.{in_bounds, Bounded}
use Rattle.rows.specs.Rows.{blank}
use Rattle.rows.proofs.Checked.{bounded_in}
use Rattle.ranked.specs.Queues.{queue}
use Rattle.ranked.specs.Positions.{Located}
use Rattle.ranked.specs.InRank.{meaning, InRank}
use Rattle.ranked.specs.declared.position.Position.{Position}
use Rattle.ranked.specs.declared.sides.Sides.{Sides}
use Rattle.ranked.proofs.BothSides.{all_by_number}
use Rattle.ranked.proofs.Changes.{length_queue}

-- no order has a number that is not found
find_lacks : (n : ℕ) (os : List Order) → find n os ≡ None → Lacks n os
find_lacks n [] h = tt
find_lacks n (o ∷ os) h =
    cond_both (eqb o.number n) _ _ (λ r. r ≡ None → Lacks n (o ∷ os))
    (λ e k. absurd (none-some o (sym k)))
    (λ e k. ((λ q. eqb-false o.number n e (sym q)), find_lacks n os k))
    h

-- and the other way round
lacks_find : (n : ℕ) (os : List Order) → Lacks n os → find n os ≡ None
lacks_find n [] h = refl
lacks_find n (o ∷ os) h = cond-false _ _ _ (ne_eqb o.number n (λ e. h.0 (sym e))) ∙ lacks_find n os h.1

-- the order x with the number n stands at p
pub record Stands (h : Sides) (n : ℕ) (p : Position) (x : Order) : Type 0 where
  pub rank : InRank h
  pub within : p.index < length (queue p.side h)
  pub number : x.number ≡ n
  pub is : x ≡ get_or (queue p.side h) p.index blank

-- by what a search answered and what was read
pub stands : (h : Sides) (n : ℕ) (p : Position) (x : Order) → InRank h → Located h n (Some p) → x ≡ get_or (queue p.side h) p.index blank → Stands h n p x
stands h n p x r a e = record { rank = r; within = omega (arith, a.0, length_queue p.side h); number = ap (λ o. o.number) e ∙ a.1; is = e }

-- it is one of its side in rank
pub among_ranked : (h : Sides) (n : ℕ) (p : Position) (x : Order) → Stands h n p x → Has (ranked p.side (meaning h)) x
among_ranked h n p x a =
    let q = queue p.side h in
    subst (λ t. Has t x) (sym (a.rank.ranks p.side)) (subst (Has q) (sym a.is) (has_get_or q p.index blank a.within))

-- and found under its number
pub found : (h : Sides) (n : ℕ) (p : Position) (x : Order) → Stands h n p x → find n (meaning h) ≡ Some x
found h n p x a =
    let os = meaning h in
    let has = (kept_has (of_side p.side) os x (ranked_has p.side os x (among_ranked h n p x a))).0 in
    subst (λ m. find m os ≡ Some x) a.number (find_has os (standing_distinct 0 max_number os a.rank.held.standing) x has)

-- a number that neither queue has is not found
pub missing : (h : Sides) (n : ℕ) → Located h n None → find n (meaning h) ≡ None
unfolding meaning
missing h n a =
    lacks_find n (meaning h) (all_by_number (λ x. n ≡ x.number → ⊥) (queue Buy h) (queue Sell h) (find_lacks n (queue Buy h) a.0) (find_lacks n (queue Sell h) a.1))

-- an order of a queue passes the check of its bounds
pub checked : (h : Sides) (s : Side) (i : ℕ) (x : Order) → InRank h → i < length (queue s h) → x ≡ get_or (queue s h) i blank → cond (in_bounds x) (Some x) None ≡ Some x
checked h s i x r l e =
    let bounded : AllByRecursion Bounded (queue s h) = subst (AllByRecursion Bounded) (r.ranks s) (all_ranked Bounded s (meaning h) (all_kept_by (of_side s) Bounded (meaning h) r.held.bounded)) in
    cond-true (in_bounds x) _ _ (bounded_in x (subst Bounded (sym e) (All-get_or Bounded (queue s h) i blank l bounded)))
