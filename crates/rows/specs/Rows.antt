-- What the rows of a table keep.
use Rattle.std.specs.Prelude.{List, [], ◌∷◌}
use Rattle.std.proofs.Math.Bridge.{le_prop}
use Rattle.std.specs.List.{AllByRecursion}
use Rattle.model.specs.declared.types.Side.TheVariants.{Buy}
use Rattle.model.specs.declared.types.OrderPrice.TheVariants.{Market}
use Rattle.model.specs.declared.types.Order.{Order}
use Rattle.model.specs.Numbers.{max_number}
use Rattle.model.specs.Orders.{Standing}
use Rattle.model.specs.Standing.{standing_prop}
use Rattle.book.specs.Bounds.{Bounded}

-- what is read where no row is
abbrev pub blank : Order
blank = record { number = 0; member = 0; side = Buy; price = Market; left = 0 }

-- the orders that rows hold: numbers ascend, and contents are in bounds with something left
pub record Held (os : List Order) : Type 0 where
  pub standing : Standing 0 os max_number
  pub bounded : AllByRecursion Bounded os

-- there is one way at most in which an order is in bounds
bounded_prop : (o : Order) → IsProp (Bounded o)
bounded_prop o p q = λ i. record {
  number_low = le_prop p.number_low q.number_low i;
  number_high = le_prop p.number_high q.number_high i;
  member_low = le_prop p.member_low q.member_low i;
  member_high = le_prop p.member_high q.member_high i;
  price_low = le_prop p.price_low q.price_low i;
  price_high = le_prop p.price_high q.price_high i;
  left_low = le_prop p.left_low q.left_low i;
  left_high = le_prop p.left_high q.left_high i;
}

-- and in which all elements keep what each keeps in one way at most
all_prop : {X : Type 0} (P : X → Type 0) → ((x : X) → IsProp (P x)) → (xs : List X) → IsProp (AllByRecursion P xs)
all_prop P h [] p q = λ i. tt
all_prop P h (x ∷ xs) p q = λ i. (h x p.0 q.0 i, all_prop P h xs p.1 q.1 i)

-- there is one way at most in which rows keep it, so that it can be a fact of a struct
pub held_prop : (os : List Order) → IsProp (Held os)
held_prop os p q = λ i. record { standing = standing_prop 0 max_number os p.standing q.standing i; bounded = all_prop Bounded bounded_prop os p.bounded q.bounded i }
