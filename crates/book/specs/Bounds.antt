-- The bounds of a standing order's contents.
use Rattle.std.specs.Prelude.{ℕ, ◌≤◌, Bool, true, ◌&&◌, nat_le}
use Rattle.model.specs.declared.types.OrderPrice.{OrderPrice}
use Rattle.model.specs.declared.types.OrderPrice.TheVariants.{Market, Limit}
use Rattle.model.specs.declared.types.Order.{Order}
use Rattle.model.specs.Numbers.{max_price, max_member, max_quantity, max_number, in_range}
use Rattle.model.specs.Trading.{limit}

-- the limit price, and 1 for a market order, so that it is at least 1 of every order in bounds
abbrev pub floor : OrderPrice → ℕ
floor Market = 1
floor (Limit p) = p

-- a limit price is from 1 to the highest price
abbrev pub price_in_bounds : OrderPrice → Bool
price_in_bounds Market = true
price_in_bounds (Limit p) = in_range 1 max_price p

-- number, member, price and what is left are within their limits
abbrev pub in_bounds : Order → Bool
in_bounds o = in_range 1 max_number o.number && (in_range 1 max_member o.member && (price_in_bounds o.price && nat_le o.left max_quantity))

-- the same as facts, of an order with something left
pub record Bounded (o : Order) : Type 0 where
  pub number_low : 1 ≤ o.number
  pub number_high : o.number ≤ max_number
  pub member_low : 1 ≤ o.member
  pub member_high : o.member ≤ max_member
  pub price_low : 1 ≤ floor o.price
  pub price_high : limit o.price ≤ max_price
  pub left_low : 1 ≤ o.left
  pub left_high : o.left ≤ max_quantity
