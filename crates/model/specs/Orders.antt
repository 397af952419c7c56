-- What becomes of a list of standing orders.
use Rattle.std.specs.Prelude.{ℕ, ◌+◌, ◌-◌, ◌<◌, ◌≤◌, Bool, true, false, cond, List, [], ◌∷◌, Some, None, Option, ◌==◌, nat_le}
use Rattle.model.specs.Types.{OrderPrice, Market, Limit, Order, Reason, TapeRecord, Withdrawal}

-- numbers ascend strictly from above lo up to hi, and something is left of each order
abbrev pub Standing : ℕ → List Order → ℕ → Type 0
Standing lo [] hi = lo ≤ hi
Standing lo (o ∷ os) hi = (lo < o.number) × (1 ≤ o.left) × Standing o.number os hi

-- the order with q left
abbrev pub with_left : Order → ℕ → Order
with_left o q = record { number = o.number; member = o.member; side = o.side; price = o.price; left = q }

-- the order at another price
abbrev pub with_price : Order → OrderPrice → Order
with_price o p = record { number = o.number; member = o.member; side = o.side; price = p; left = o.left }

-- no limit price
abbrev pub is_market : OrderPrice → Bool
is_market Market = true
is_market (Limit p) = false

-- the order with this number
abbrev pub find : ℕ → List Order → Option Order
find n [] = None
find n (o ∷ os) = cond (o.number == n) (Some o) (find n os)

-- the order n lowered by q, and dropped where nothing is left of it
abbrev pub lower : ℕ → ℕ → List Order → List Order
lower n q [] = []
lower n q (o ∷ os) = cond (o.number == n) (cond (nat_le o.left q) os (with_left o (o.left - q) ∷ os)) (o ∷ lower n q os)

-- the market order n turned into a limit order at p
abbrev pub turn : ℕ → ℕ → List Order → List Order
turn n p [] = []
turn n p (o ∷ os) = cond (o.number == n) (with_price o (Limit p) ∷ os) (o ∷ turn n p os)

-- what is left of an order that was found
abbrev pub left_of : Option Order → ℕ
left_of None = 0
left_of (Some o) = o.left

-- what is left under the number n
abbrev pub left_in : List Order → ℕ → ℕ
left_in [] n = 0
left_in (o ∷ os) n = cond (o.number == n) o.left 0 + left_in os n

-- the record of an order that is withdrawn whole
abbrev pub withdrawal : Reason → Order → TapeRecord
withdrawal reason o = Withdrawal o.number o.left reason
