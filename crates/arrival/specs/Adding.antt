-- When an order may be added behind others.
use Rattle.std.specs.Prelude.{ℕ, ◌-◌, Bool, ◌&&◌, ◌||◌, List, length, ◌==◌, nat_lt, slice_index_or}
use Rattle.model.specs.declared.types.Order.{Order}
use Rattle.rows.specs.Rows.{blank}

-- a number is above that of the last order, if there is one
abbrev pub above_last : List Order → ℕ → Bool
above_last os n = length os == 0 || nat_lt (slice_index_or os (length os - 1) blank).number n

-- the capacity is not reached, something is left, and the number is above the last
abbrev pub can_add : ℕ → List Order → Order → Bool
can_add capacity os o = nat_lt (length os) capacity && (nat_lt 0 o.left && above_last os o.number)
