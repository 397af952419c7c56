-- What a book keeps as its orders change.
use Rattle.std.proofs.Common.{◌≡◌, ℕ, ◌<◌, ◌≤◌, true, ◌&&◌, eqb, ltb, leb, List, [], ◌∷◌, ◌++◌, length, arith}
use Rattle.std.specs.List.{AllByRecursion}
use Rattle.std.proofs.ByRecursion.{All-push}
use Rattle.std.proofs.lemmas.Bool.{and_parts, cond_both, ltb-true, leb-false}
use Rattle.model.specs.declared.types.Order.{Order}
use Rattle.model.specs.Numbers.{max_number, max_price}
use Rattle.model.specs.Orders.{Standing, lower, turn}
use Rattle.model.proofs.Standing.{lower_standing, turn_standing}
use Rattle.book.specs.Bounds.{Bounded}
use Rattle.book.specs.Meaning.{addable, all_below}
use Rattle.book.specs.Plain.{plain}
use Rattle.book.specs.declared.standing.StandingOrder.{StandingOrder}
use Rattle.rows.specs.Rows.{Held}

-- an order behind lower numbers
standing_behind : (lo hi : ℕ) (os : List Order) (o : Order) → Standing lo os hi → lo < o.number → o.number ≤ hi → 1 ≤ o.left → all_below os o.number ≡ true → Standing lo (os ++ o ∷ []) hi
standing_behind lo hi [] o h l u p b = (l, p, u)
standing_behind lo hi (x ∷ xs) o h l u p b =
    let k = and_parts (ltb x.number o.number) (all_below xs o.number) b in
    (h.0, h.1, standing_behind x.number hi xs o h.2 (ltb-true x.number o.number k.0) u p k.1)

-- an order that may be added stands behind the others
pub held_added : (capacity : ℕ) (os : List Order) (x : StandingOrder) → Held os → addable capacity os (plain x) ≡ true → Held (os ++ plain x ∷ [])
held_added capacity os x h t =
    let o : Order = plain x in
    let free = and_parts (ltb (length os) capacity) (ltb 0 o.left && all_below os o.number) t in
    let new = and_parts (ltb 0 o.left) (all_below os o.number) free.1 in
    let some : 1 ≤ o.left = ltb-true 0 o.left new.0 in
    record {
      standing = standing_behind 0 max_number os o h.standing (omega (arith, x.number_low)) x.number_high some new.1;
      bounded = All-push Bounded os o h.bounded (record {
        number_low = x.number_low;
        number_high = x.number_high;
        member_low = x.member_low;
        member_high = x.member_high;
        price_low = x.price_low;
        price_high = x.price_high;
        left_low = some;
        left_high = x.left_high;
      });
    }

-- an order is lowered
lower_bounded : (n q : ℕ) (os : List Order) → AllByRecursion Bounded os → AllByRecursion Bounded (lower n q os)
lower_bounded n q [] h = tt
lower_bounded n q (o ∷ os) h =
    cond_both (eqb o.number n) _ _ (AllByRecursion Bounded)
    (λ _. cond_both (leb o.left q) _ _ (AllByRecursion Bounded)
    (λ _. h.1)
    (λ t. (
      record {
        number_low = h.0.number_low;
        number_high = h.0.number_high;
        member_low = h.0.member_low;
        member_high = h.0.member_high;
        price_low = h.0.price_low;
        price_high = h.0.price_high;
        left_low = omega (arith, leb-false o.left q t);
        left_high = omega (arith, h.0.left_high);
      },
      h.1,
    )))
    (λ _. (h.0, lower_bounded n q os h.1))

pub held_lowered : (n q : ℕ) (os : List Order) → Held os → Held (lower n q os)
held_lowered n q os h = record { standing = lower_standing 0 max_number n q os h.standing; bounded = lower_bounded n q os h.bounded }

-- an order gets a limit price
turn_bounded : (n p : ℕ) (os : List Order) → 1 ≤ p → p ≤ max_price → AllByRecursion Bounded os → AllByRecursion Bounded (turn n p os)
turn_bounded n p [] l u h = tt
turn_bounded n p (o ∷ os) l u h =
    cond_both (eqb o.number n) _ _ (AllByRecursion Bounded)
    (λ _. (
      record {
        number_low = h.0.number_low;
        number_high = h.0.number_high;
        member_low = h.0.member_low;
        member_high = h.0.member_high;
        price_low = l;
        price_high = u;
        left_low = h.0.left_low;
        left_high = h.0.left_high;
      },
      h.1,
    ))
    (λ _. (h.0, turn_bounded n p os l u h.1))

pub held_turned : (n p : ℕ) (os : List Order) → (1 ≤ p) × (p ≤ max_price) → Held os → Held (turn n p os)
held_turned n p os r h = record { standing = turn_standing 0 max_number n p os h.standing; bounded = turn_bounded n p os r.0 r.1 h.bounded }
