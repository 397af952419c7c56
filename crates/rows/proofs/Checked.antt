-- The check of a row's bounds.
use Rattle.std.proofs.Common.{◌≡◌, ℕ, ◌≤◌, true, refl}
use Rattle.std.proofs.lemmas.Bool.{and_from, le-leb}
use Rattle.model.specs.declared.types.OrderPrice.{OrderPrice}
use Rattle.model.specs.declared.types.OrderPrice.TheVariants.{Market, Limit}
use Rattle.model.specs.declared.types.Order.{Order}
use Rattle.model.specs.Numbers.{max_price, max_member, max_quantity, max_number, in_range}
use Rattle.model.specs.Trading.{limit}
use Rattle.book.specs.Bounds.{floor, price_in_bounds, in_bounds, Bounded}

range_in : (lo hi n : ℕ) → lo ≤ n → n ≤ hi → in_range lo hi n ≡ true
range_in lo hi n a b = and_from _ _ (le-leb lo n a) (le-leb n hi b)

price_in : (p : OrderPrice) → 1 ≤ floor p → limit p ≤ max_price → price_in_bounds p ≡ true
price_in Market a b = refl
price_in (Limit p) a b = range_in 1 max_price p a b

-- an order in bounds passes the check
pub bounded_in : (o : Order) → Bounded o → in_bounds o ≡ true
bounded_in o b =
    and_from _ _ (range_in 1 max_number o.number b.number_low b.number_high)
    (and_from _ _ (range_in 1 max_member o.member b.member_low b.member_high)
    (and_from _ _ (price_in o.price b.price_low b.price_high) (le-leb o.left max_quantity b.left_high)))
