-- A plan that takes the fills of a meeting one after another says what the meeting does.
use Rattle.std.proofs.Common.{◌≡◌, ℕ, ◌+◌, ◌-◌, ◌≤◌, min, false, cond, not, ◌||◌, Bool, eqb, leb, List, [], ◌∷◌, length, refl, ap, drop, None, arith}
use Rattle.std.specs.List.{ContainsAt as Has, AllByRecursion}
use Rattle.std.proofs.lemmas.Bool.{cond_both}
use Rattle.model.specs.declared.types.Order.{Order}
use Rattle.model.specs.declared.types.OrderPrice.{OrderPrice}
use Rattle.model.specs.declared.types.Side.{Side}
use Rattle.model.specs.Grid.{Settings, active, within}
use Rattle.model.specs.Numbers.{max_number}
use Rattle.model.specs.Curve.{allows}
use Rattle.model.specs.Rank.{ranked, opposite}
use Rattle.model.specs.Orders.{Standing, lower}
use Rattle.model.specs.Trading.{limit, Fill, Met, meet, after_fills}
use Rattle.model.proofs.Ranking.{Distinct}
use Rattle.model.proofs.Commuting.{has_lower, kept_ranked}
use Rattle.model.proofs.Lengths.{length_ranked}
use Rattle.model.proofs.Standing.{lower_standing, standing_distinct}
use Rattle.book.specs.Meaning.{max_capacity}
use Rattle.walking.specs.Walks.{actives}
use Rattle.meeting.specs.declared.plans.Plan.{Plan}
use Rattle.meeting.specs.Plans.{meeting_of, last_price_or}
use Rattle.meeting.specs.Meetings.{rest_of}
use Rattle.meeting.proofs.Lowered.{actives_has, actives_distinct, length_lower}

-- how many of the orders some fills use up, each fill with its order
abbrev used_up : List Fill → List Order → ℕ
used_up [] os = 0
used_up (f ∷ fs) [] = 0
used_up (f ∷ fs) (o ∷ os) = cond (leb o.left f.quantity) 1 0 + used_up fs os

-- they are dropped from the orders, and no others
removes : (in_band : ℕ → Bool) (s : Side) (p : OrderPrice) (lo hi q : ℕ) (xs os : List Order) → Standing lo os hi → AllByRecursion (Has os) xs → Distinct xs
    → used_up (meet in_band s p q xs).fills xs + length (after_fills (meet in_band s p q xs).fills os) ≡ length os
removes in_band s p lo hi q [] os st h d = omega arith
removes in_band s p lo hi q (x ∷ xs) os st h d =
    let f : ℕ = min q x.left in
    let P : Met → Type 0 = λ m. used_up m.fills (x ∷ xs) + length (after_fills m.fills os) ≡ length os in
    cond_both (eqb q 0 || not (allows s p (limit x.price))) _ _ P
    (λ _. omega arith)
    (λ _. cond_both (in_band (limit x.price)) _ _ P
    (λ _. omega (arith, removes in_band s p lo hi (q - f) xs (lower x.number f os) (lower_standing lo hi x.number f os st) (others f xs h.1 d.0) d.1, length_lower lo hi f os x st h.0))
    (λ _. omega arith))
  where
    others : (f : ℕ) (ys : List Order) → AllByRecursion (Has os) ys → AllByRecursion (λ y. x.number ≡ y.number → ⊥) ys → AllByRecursion (Has (lower x.number f os)) ys
    others f [] a b = tt
    others f (y ∷ ys) a b = (has_lower x.number f os y a.0 b.0, others f ys a.1 b.1)

-- the plan t of q at price p among the orders os has come to the place `from` of the other side, and the rest completes it
pub record Going (g : Settings) (reference : ℕ) (s : Side) (p : OrderPrice) (q : ℕ) (os : List Order) (t : Plan) (from : ℕ) : Type 0 where
  pub fills : t.fills + length (rest_of g reference s p t.remaining (ranked (opposite s) os) from).fills ≡ length (meeting_of g reference s p q os).fills
  pub remaining : (rest_of g reference s p t.remaining (ranked (opposite s) os) from).remaining ≡ (meeting_of g reference s p q os).remaining
  pub interrupted : (rest_of g reference s p t.remaining (ranked (opposite s) os) from).interrupted ≡ (meeting_of g reference s p q os).interrupted
  pub not_yet : t.interrupted ≡ false
  pub last : last_price_or t.last_price (rest_of g reference s p t.remaining (ranked (opposite s) os) from).fills ≡ last_price_or None (meeting_of g reference s p q os).fills
  pub removed : t.removed + used_up (rest_of g reference s p t.remaining (ranked (opposite s) os) from).fills (actives g (drop from (ranked (opposite s) os))) + length (after_fills (meeting_of g reference s p q os).fills os) ≡ length os
  pub fewer : t.removed ≤ t.fills
  pub few : t.fills ≤ from
  pub place : from ≤ length (ranked (opposite s) os)
  pub bound : length (ranked (opposite s) os) ≤ max_capacity

pub begins : (g : Settings) (reference : ℕ) (s : Side) (p : OrderPrice) (q : ℕ) (os : List Order) → Standing 0 os max_number → length os ≤ max_capacity
    → Going g reference s p q os (record { fills = 0; removed = 0; remaining = q; interrupted = false; last_price = None }) 0
begins g reference s p q os st count =
    let xs : List Order = actives g (ranked (opposite s) os) in
    let m : Met = meet (within g.static reference) s p q xs in
    let same : m ≡ meeting_of g reference s p q os = ap (meet (within g.static reference) s p q) (kept_ranked (λ o. active g o.price) (opposite s) os) in
    record {
      fills = omega (arith, ap (λ n. length n.fills) same);
      remaining = ap (λ n. n.remaining) same;
      interrupted = ap (λ n. n.interrupted) same;
      not_yet = refl;
      last = ap (λ n. last_price_or None n.fills) same;
      removed = omega (arith, ap (λ n. length (after_fills n.fills os)) same, removes (within g.static reference) s p 0 max_number q xs os st (actives_has g (opposite s) os) (actives_distinct g (opposite s) os (standing_distinct 0 max_number os st)));
      fewer = omega arith;
      few = omega arith;
      place = omega arith;
      bound = omega (arith, length_ranked (opposite s) os);
    }
