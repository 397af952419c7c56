-- What a scan finds, and its check.
use Rattle.std.proofs.Common.{◌≡◌, ℕ, zero, suc, Bool, true, false, cond, ◌&&◌, ltb, List, [], ◌∷◌, drop, Some, refl, ap, ◌∙◌}
use Rattle.std.specs.List.{AllByRecursion, find}
use Rattle.std.proofs.ByRecursion.{All-drop}
use Rattle.std.proofs.lemmas.Bool.{cond-true}
use Rattle.model.specs.declared.types.Order.{Order}
use Rattle.model.specs.declared.types.Side.{Side}
use Rattle.model.specs.Orders.{find as found}
use Rattle.model.specs.Rank.{same_side}
use Rattle.model.proofs.Lists.{cond_pair}
use Rattle.book.specs.Bounds.{Bounded}
use Rattle.book.specs.Meaning.{first, place, next_above, of_side}
use Rattle.rows.proofs.Checked.{bounded_in}
use Rattle.arrival.specs.Checking.{checked}
use Rattle.arrival.proofs.Changing.{numbered}

-- the first with the number is the one that is found
find_numbered : (n : ℕ) (os : List Order) → find (numbered n) os ≡ found n os
find_numbered n [] = refl
find_numbered n (o ∷ os) = ap (cond (numbered n o) (Some o)) (find_numbered n os)

-- the first whose number is above is the next above
find_above : (n : ℕ) (os : List Order) → find (λ o. ltb n o.number) os ≡ next_above n os
find_above n [] = refl
find_above n (o ∷ os) = ap (cond (ltb n o.number) (Some o)) (find_above n os)

-- and likewise on a side
find_above_on : (s : Side) (n : ℕ) (os : List Order) → find (λ o. same_side s o.side && ltb n o.number) os ≡ next_above n (of_side s os)
find_above_on s n [] = refl
find_above_on s n (o ∷ os) =
    elim (same_side s o.side) as (λ b. cond (b && ltb n o.number) (Some o) (find (λ x. same_side s x.side && ltb n x.number) os) ≡ next_above n (cond b (o ∷ of_side s os) (of_side s os))) [
      | true ↦ ap (cond (ltb n o.number) (Some o)) (find_above_on s n os)
      | false ↦ find_above_on s n os
    ]

-- a scan finds an order in bounds, so the check lets it pass
checked_find : (p : Order → Bool) (os : List Order) → AllByRecursion Bounded os → checked (find p os) ≡ find p os
checked_find p [] h = refl
checked_find p (o ∷ os) h = cond_pair (p o) _ _ _ _ (λ l m. checked l ≡ m) (λ _. cond-true _ _ _ (bounded_in o h.0)) (λ _. checked_find p os h.1)

-- what the questions of a book answer
pub checked_numbered : (n : ℕ) (os : List Order) → AllByRecursion Bounded os → checked (find (numbered n) os) ≡ found n os
checked_numbered n os h = checked_find (numbered n) os h ∙ find_numbered n os

pub checked_above : (n : ℕ) (os : List Order) → AllByRecursion Bounded os → checked (find (λ o. ltb n o.number) os) ≡ next_above n os
checked_above n os h = checked_find (λ o. ltb n o.number) os h ∙ find_above n os

pub checked_above_on : (s : Side) (n : ℕ) (os : List Order) → AllByRecursion Bounded os → checked (find (λ o. same_side s o.side && ltb n o.number) os) ≡ next_above n (of_side s os)
checked_above_on s n os h = checked_find (λ o. same_side s o.side && ltb n o.number) os h ∙ find_above_on s n os

-- an order in any place passes too
checked_first : (xs : List Order) → AllByRecursion Bounded xs → checked (first xs) ≡ first xs
checked_first [] h = refl
checked_first (x ∷ xs) h = cond-true _ _ _ (bounded_in x h.0)

pub checked_place : (n : ℕ) (xs : List Order) → AllByRecursion Bounded xs → checked (place n xs) ≡ place n xs
checked_place zero xs h = refl
checked_place (suc n) xs h = checked_first (drop n xs) (All-drop Bounded n xs h)
