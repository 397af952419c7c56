-- Rows counted from the end of a side: from the front for buys, from the back for sells.
use Rattle.std.specs.Prelude.{ℕ, ◌-◌, List, reverse}
use Rattle.model.specs.declared.types.Side.{Side}
use Rattle.model.specs.declared.types.Side.TheVariants.{Buy, Sell}
use Rattle.model.specs.declared.types.Order.{Order}

-- the rows in the order in which a side counts them
unfoldable pub view : Side → List Order → List Order
view Buy rows = rows
view Sell rows = reverse rows

-- where the i-th of so many rows stands in the slice
abbrev pub row_index : ℕ → Side → ℕ → ℕ
row_index count Buy i = i
row_index count Sell i = count - 1 - i
