-- How many orders a ranking and a filter keep.
use Rattle.std.proofs.Common.{◌≡◌, suc, ◌+◌, ◌≤◌, Bool, not, cond, List, [], ◌∷◌, length, filter, refl, ap, arith}
use Rattle.std.proofs.lemmas.Bool.{cond_both}
use Rattle.std.proofs.lemmas.List.Filters.{length-filter_both}
use Rattle.model.specs.Types.{Side, Buy, Sell, Order}
use Rattle.model.specs.Rank.{before, insert, same_side, ranked}
use Rattle.model.proofs.Commuting.{kept_ranked}

length_insert : (s : Side) (o : Order) (xs : List Order) → length (insert s o xs) ≡ suc (length xs)
length_insert s o [] = refl
length_insert s o (x ∷ xs) = cond_both (before s o x) _ _ (λ l. length l ≡ suc (suc (length xs))) (λ _. refl) (λ _. ap suc (length_insert s o xs))

pub length_ranked : (s : Side) (os : List Order) → length (ranked s os) ≤ length os
length_ranked s [] = omega arith
length_ranked s (o ∷ os) =
    let r = length_ranked s os in
    cond_both (same_side s o.side) _ _ (λ l. length l ≤ suc (length os)) (λ _. omega (arith, length_insert s o (ranked s os))) (λ _. omega arith)

length_first : (o : Order) (os : List Order) (r : Side) → length (ranked Buy os) + length (ranked Sell os) ≡ length os
    → length (cond (same_side Buy r) (insert Buy o (ranked Buy os)) (ranked Buy os)) + length (cond (same_side Sell r) (insert Sell o (ranked Sell os)) (ranked Sell os)) ≡ suc (length os)
length_first o os Buy i = omega (arith, length_insert Buy o (ranked Buy os))
length_first o os Sell i = omega (arith, length_insert Sell o (ranked Sell os))

-- the orders of both sides are all orders
length_sides : (os : List Order) → length (ranked Buy os) + length (ranked Sell os) ≡ length os
length_sides [] = refl
length_sides (o ∷ os) = length_first o os o.side (length_sides os)

-- and so it is with those that pass a filter
pub kept_sides : (f : Order → Bool) (os : List Order) → length (filter f (ranked Buy os)) + length (filter f (ranked Sell os)) ≡ length (filter f os)
kept_sides f os = omega (arith, length_sides (filter f os), ap length (kept_ranked f Buy os), ap length (kept_ranked f Sell os))

pub length_kept_le : (f : Order → Bool) (os : List Order) → length (filter f os) ≤ length os
length_kept_le f os = omega (arith, length-filter_both f (λ o. not (f o)) (λ _. refl) os)
