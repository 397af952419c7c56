-- What a search of a queue answers: by rank, by number, and whether all numbers are below one.
use Rattle.std.proofs.Common.{◌≡◌, ℕ, suc, ◌+◌, ◌≤◌, true, false, cond, not, ◌&&◌, eqb, ltb, List, [], ◌∷◌, length, Some, None, sym, refl, ap, ◌∙◌, subst, arith}
use Rattle.std.specs.List.{insert as inserted, list_all, position, position_or_len}
use Rattle.std.proofs.lemmas.List.Quantifiers.{position-Some}
use Rattle.std.proofs.lemmas.Option.{none-some}
use Rattle.std.proofs.lemmas.Bool.{cond_both, eqb-true, ltb-false}
use Rattle.model.specs.declared.types.Side.{Side}
use Rattle.model.specs.declared.types.Order.{Order}
use Rattle.model.specs.Orders.{find}
use Rattle.model.specs.Rank.{before, insert}
use Rattle.book.specs.Meaning.{all_below}
use Rattle.rows.specs.Rows.{blank}
use Rattle.ranked.specs.Queues.{queue, Changed}
use Rattle.ranked.specs.Positions.{StandsAt}
use Rattle.ranked.specs.declared.sides.Sides.{Sides}
use Rattle.ranked.proofs.Changes.{length_queue}

-- where the order with the number n stands, if a search for it came to i
pub stands_at : (h : Sides) (s : Side) (n i : ℕ) → position (λ o. eqb o.number n) (queue s h) ≡ Some i → StandsAt h n (record { side = s; index = i })
stands_at h s n i e =
    let p = position-Some (λ (o : Order). eqb o.number n) (queue s h) i blank e in
    (omega (arith, p.0, length_queue s h), eqb-true _ n p.1)

-- and none has it if the search came to no place
none_past : (n : ℕ) (xs : List Order) → length xs ≤ position_or_len (λ o. eqb o.number n) xs → find n xs ≡ None
none_past n [] h = refl
none_past n (x ∷ xs) h =
    elim (eqb x.number n) as (λ b. suc (length xs) ≤ cond (not b) (1 + position_or_len (λ (o : Order). eqb o.number n) xs) 0 → cond b (Some x) (find n xs) ≡ None) [
      | true ↦ λ l. absurd (omega arith)
      | false ↦ λ l. none_past n xs (omega arith)
    ] h

pub none_has : (n : ℕ) (xs : List Order) → position (λ o. eqb o.number n) xs ≡ None → find n xs ≡ None
none_has n xs =
    let k = position_or_len (λ (o : Order). eqb o.number n) xs in
    cond_both (ltb k (length xs)) (Some k) None (λ r. r ≡ None → find n xs ≡ None) (λ _ e. absurd (none-some k (sym e))) (λ e _. none_past n xs (ltb-false k (length xs) e))

-- an order put in at its rank is inserted in rank
insert_at_rank : (s : Side) (o : Order) (xs : List Order) → inserted xs (position_or_len (before s o) xs) o ≡ insert s o xs
insert_at_rank s o [] = refl
insert_at_rank s o (x ∷ xs) =
    elim (before s o x) as (λ b. inserted (x ∷ xs) (cond (not b) (1 + position_or_len (before s o) xs) 0) o ≡ cond b (o ∷ x ∷ xs) (x ∷ insert s o xs)) [
      | true ↦ refl
      | false ↦
          let up : 1 + position_or_len (before s o) xs ≡ suc (position_or_len (before s o) xs) = omega arith in
          ap (λ n. inserted (x ∷ xs) n o) up ∙ ap (λ t. x ∷ t) (insert_at_rank s o xs)
    ]

-- so is the change of a queue
pub entered : (s : Side) (h k : Sides) (i : ℕ) (o : Order) → i ≡ position_or_len (before s o) (queue s h) → Changed s (inserted (queue s h) i o) h k → Changed s (insert s o (queue s h)) h k
entered s h k i o e c = subst (λ l. Changed s l h k) (ap (λ j. inserted (queue s h) j o) e ∙ insert_at_rank s o (queue s h)) c

-- all numbers are below n
pub all_are_below : (n : ℕ) (xs : List Order) → list_all (λ o. ltb o.number n) xs ≡ all_below xs n
all_are_below n [] = refl
all_are_below n (x ∷ xs) = ap (λ b. ltb x.number n && b) (all_are_below n xs)
