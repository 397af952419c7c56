-- An order that is found by its number.
use Rattle.std.proofs.Common.{◌≡◌, ℕ, ◌≤◌, true, List, [], ◌∷◌, Some, arith}
use Rattle.std.proofs.lemmas.Bool.Decides.{nat_tests}
use Rattle.model.specs.declared.types.Order.{Order}
use Rattle.model.specs.Orders.{Standing, find}
use Rattle.book.specs.Meaning.{can_take}

-- it has the number
pub found_number : (n : ℕ) (o : Order) (os : List Order) → Some o ≡ find n os → o.number ≡ n
found_number n o [] e = absurd cc
found_number n o (x ∷ xs) e = grind (arith, nat_tests, found_number n o xs)

found_left : (lo hi n : ℕ) (o : Order) (os : List Order) → Standing lo os hi → Some o ≡ find n os → 1 ≤ o.left
found_left lo hi n o [] st e = absurd cc
found_left lo hi n o (x ∷ xs) st e = grind (arith, nat_tests, st.1, found_left x.number hi n o xs st.2)

-- and can be taken whole
pub found_takes : (hi n : ℕ) (o : Order) (os : List Order) → Standing 0 os hi → Some o ≡ find n os → can_take o.left (find o.number os) ≡ true
found_takes hi n o os st e =
    let h : 1 ≤ o.left = found_left 0 hi n o os st e in
    let i : o.number ≡ n = found_number n o os e in
    grind (arith, nat_tests)
