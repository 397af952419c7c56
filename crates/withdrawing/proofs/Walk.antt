-- A walk over a book by number that withdraws the chosen orders.
use Rattle.std.proofs.Common.{◌≡◌, ℕ, ◌<◌, ◌≤◌, Bool, true, false, not, List, [], ◌∷◌, ◌++◌, map, length, Some, None, filter, sym, refl, ap, ◌∙◌, subst, append_assoc, append-nil, length-append, arith}
use Rattle.std.proofs.lemmas.List.{map-append, length-map}
use Rattle.std.specs.List.{AllByRecursion}
use Rattle.std.proofs.ByRecursion.{All-weaker, All-push}
use Rattle.std.proofs.lemmas.Bool.{cond-true, cond-false, not_from_true, not_from_false}
use Rattle.std.proofs.lemmas.Bool.Decides.{nat_tests}
use Rattle.model.specs.declared.types.Order.{Order}
use Rattle.model.specs.declared.types.TapeRecord.{TapeRecord}
use Rattle.model.specs.Orders.{Standing, find, lower}
use Rattle.model.proofs.Standing.{standing_above}
use Rattle.book.specs.Meaning.{can_take, next_above}
use Rattle.tape.specs.declared.tapes.Tape.{Tape}
use Rattle.tape.specs.Tapes.{room, Recorded}
use Rattle.tape.proofs.Recording.{recorded_none, recorded_more, room_after}
use Rattle.withdrawing.proofs.Found.{found_takes}

-- the orders that are not chosen
abbrev pub others : (Order → Bool) → List Order → List Order
others p os = filter (λ o. not (p o)) os

-- os₀ and t₀ are the orders and the tape at the start, os and t now; orders up to last are settled, those behind are as they were, and those gone are on the tape
pub record Walk (p : Order → Bool) (rec : Order → TapeRecord) (os₀ : List Order) (t₀ : Tape) (os : List Order) (t : Tape) (last : ℕ) : Type 0 where
  pub front : List Order
  pub back : List Order
  pub gone : List Order
  pub whole : os ≡ front ++ back
  pub low : AllByRecursion (λ x. x.number ≤ last) front
  pub high : AllByRecursion (λ x. last < x.number) back
  pub stay : front ++ others p back ≡ others p os₀
  pub go : gone ++ filter p back ≡ filter p os₀
  pub records : Recorded t₀ t (map rec gone)

-- the orders behind one are above its number
above : (lo hi : ℕ) (front : List Order) (o : Order) (rest : List Order) → Standing lo (front ++ o ∷ rest) hi → AllByRecursion (λ x. o.number < x.number) rest
above lo hi [] o rest h = standing_above o.number hi rest h.2
above lo hi (x ∷ front) o rest h = above x.number hi front o rest h.2

-- an order between those up to a number and those above its own is found, and taken whole it is dropped
find_in : (n : ℕ) (front : List Order) (o : Order) (rest : List Order) → AllByRecursion (λ x. x.number ≤ n) front → n < o.number → find o.number (front ++ o ∷ rest) ≡ Some o
find_in n [] o rest l h = grind (arith, nat_tests)
find_in n (x ∷ front) o rest l h = grind (arith, nat_tests, find_in n front o rest l.1 h)

lower_in : (n : ℕ) (front : List Order) (o : Order) (rest : List Order) → AllByRecursion (λ x. x.number ≤ n) front → n < o.number → lower o.number o.left (front ++ o ∷ rest) ≡ front ++ rest
lower_in n [] o rest l h = grind (arith, nat_tests)
lower_in n (x ∷ front) o rest l h = grind (arith, nat_tests, lower_in n front o rest l.1 h)

-- the next order is the first of those above
next_in : (n : ℕ) (front back : List Order) (o : Order) → AllByRecursion (λ x. x.number ≤ n) front → AllByRecursion (λ x. n < x.number) back → Some o ≡ next_above n (front ++ back) → (rest : List Order) × (back ≡ o ∷ rest)
next_in n [] [] o l h e = absurd cc
next_in n [] (x ∷ xs) o l h e = (xs, grind (arith, nat_tests))
next_in n (x ∷ front) back o l h e = next_in n front back o l.1 h (grind (arith, nat_tests))

none_in : (n : ℕ) (front back : List Order) → AllByRecursion (λ x. x.number ≤ n) front → AllByRecursion (λ x. n < x.number) back → None ≡ next_above n (front ++ back) → back ≡ []
none_in n [] [] l h e = refl
none_in n [] (x ∷ xs) l h e = grind (arith, nat_tests)
none_in n (x ∷ front) back l h e = none_in n front back l.1 h (grind (arith, nat_tests))

pub next_higher : (n : ℕ) (os : List Order) (o : Order) → Some o ≡ next_above n os → n < o.number
next_higher n [] o e = absurd cc
next_higher n (x ∷ xs) o e = grind (arith, nat_tests, next_higher n xs o)

module _ (p : Order → Bool) (rec : Order → TapeRecord) where
  pub start : (hi : ℕ) (os : List Order) (t : Tape) → Standing 0 os hi → Walk p rec os t os t 0
  start hi os t h = record { front = []; back = os; gone = []; whole = refl; low = tt; high = standing_above 0 hi os h; stay = refl; go = refl; records = recorded_none t }

  -- at the next order
  module _ (hi : ℕ) (os₀ : List Order) (t₀ : Tape) (os : List Order) (t : Tape) (last : ℕ) (w : Walk p rec os₀ t₀ os t last) (st : Standing 0 os hi) (o : Order) (e : Some o ≡ next_above last os) where
    first_behind : (rest : List Order) × (w.back ≡ o ∷ rest)
    first_behind = next_in last w.front w.back o w.low w.high (e ∙ ap (next_above last) w.whole)

    abbrev rest : List Order
    rest = first_behind.0

    split : os ≡ w.front ++ o ∷ rest
    split = w.whole ∙ ap (λ l. w.front ++ l) first_behind.1

    here : last < o.number
    here = next_higher last os o e

    beyond : AllByRecursion (λ x. o.number < x.number) rest
    beyond = above 0 hi w.front o rest (subst (λ l. Standing 0 l hi) split st)

    -- it can be taken whole
    pub takes : can_take o.left (find o.number os) ≡ true
    takes = found_takes hi o.number o os st (sym (ap (find o.number) split ∙ find_in last w.front o rest w.low here))

    -- its record has a place
    pub comes : p o ≡ true → length (filter p os₀) ≤ room t₀ → 0 < room t
    comes c l =
        let b : filter p w.back ≡ o ∷ filter p rest = ap (filter p) first_behind.1 ∙ cond-true (p o) (o ∷ filter p rest) (filter p rest) c in
        omega (arith, l, room_after t₀ t (map rec w.gone) w.records, length-map w.gone rec, length-append w.gone (filter p w.back), ap length w.go, ap length b)

    -- it is withdrawn
    pub withdrawn : p o ≡ true → (os' : List Order) (t' : Tape) → os' ≡ lower o.number o.left os → Recorded t t' (rec o ∷ []) → Walk p rec os₀ t₀ os' t' o.number
    withdrawn c os' t' a r =
        let b : filter p w.back ≡ o ∷ filter p rest = ap (filter p) first_behind.1 ∙ cond-true (p o) (o ∷ filter p rest) (filter p rest) c in
        let d : others p w.back ≡ others p rest = ap (others p) first_behind.1 ∙ cond-false (not (p o)) (o ∷ others p rest) (others p rest) (not_from_true (p o) c) in
        record {
          front = w.front;
          back = rest;
          gone = w.gone ++ o ∷ [];
          whole = a ∙ ap (lower o.number o.left) split ∙ lower_in last w.front o rest w.low here;
          low = All-weaker (λ x. x.number ≤ last) (λ x. x.number ≤ o.number) (λ x k. omega (arith, here)) w.front w.low;
          high = beyond;
          stay = ap (λ l. w.front ++ l) (sym d) ∙ w.stay;
          go = append_assoc w.gone (o ∷ []) (filter p rest) ∙ ap (λ l. w.gone ++ l) (sym b) ∙ w.go;
          records = subst (Recorded t₀ t') (sym (map-append rec w.gone (o ∷ []))) (recorded_more t₀ t t' (map rec w.gone) (rec o ∷ []) w.records r);
        }

    -- or it stays
    pub kept : p o ≡ false → Walk p rec os₀ t₀ os t o.number
    kept c =
        let b : filter p w.back ≡ filter p rest = ap (filter p) first_behind.1 ∙ cond-false (p o) (o ∷ filter p rest) (filter p rest) c in
        let d : others p w.back ≡ o ∷ others p rest = ap (others p) first_behind.1 ∙ cond-true (not (p o)) (o ∷ others p rest) (others p rest) (not_from_false (p o) c) in
        record {
          front = w.front ++ o ∷ [];
          back = rest;
          gone = w.gone;
          whole = split ∙ sym (append_assoc w.front (o ∷ []) rest);
          low = All-push (λ x. x.number ≤ o.number) w.front o (All-weaker (λ x. x.number ≤ last) (λ x. x.number ≤ o.number) (λ x k. omega (arith, here)) w.front w.low) (omega arith);
          high = beyond;
          stay = append_assoc w.front (o ∷ []) (others p rest) ∙ ap (λ l. w.front ++ l) (sym d) ∙ w.stay;
          go = ap (λ l. w.gone ++ l) (sym b) ∙ w.go;
          records = w.records;
        }

  -- behind the last order
  pub done : (os₀ : List Order) (t₀ : Tape) (os : List Order) (t : Tape) (last : ℕ) → Walk p rec os₀ t₀ os t last → None ≡ next_above last os → (os ≡ others p os₀) × Recorded t₀ t (map rec (filter p os₀))
  done os₀ t₀ os t last w e =
      let z : w.back ≡ [] = none_in last w.front w.back w.low w.high (e ∙ ap (next_above last) w.whole) in
      (grind (arith, append-nil), subst (λ l. Recorded t₀ t (map rec l)) (grind (arith, append-nil)) w.records)

-- where all are chosen, none is left
pub all_chosen : (os : List Order) → filter (λ _. true) os ≡ os
all_chosen [] = refl
all_chosen (o ∷ os) = ap (λ l. o ∷ l) (all_chosen os)

pub none_left : (os : List Order) → others (λ _. true) os ≡ []
none_left [] = refl
none_left (o ∷ os) = none_left os

-- where none is, all stay
pub all_stay : (p : Order → Bool) (os : List Order) → length (filter p os) ≡ 0 → others p os ≡ os
all_stay p [] h = refl
all_stay p (o ∷ os) h = grind (arith, nat_tests, all_stay p os)
