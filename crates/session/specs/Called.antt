-- What a session keeps of a called price.
use Rattle.std.specs.Prelude.{Bool, true, ◌&&◌, nat_lt}
use Rattle.model.specs.declared.types.Phase.{Phase}
use Rattle.model.specs.declared.types.Phase.TheVariants.{PreOpening, Random, Called, Trading, Closed}
use Rattle.model.specs.Grid.{Settings, on_grid}

-- a called price is on the grid, and something trades at it
abbrev pub called_fine : Settings → Phase → Bool
called_fine g PreOpening = true
called_fine g Random = true
called_fine g (Called p v) = on_grid g p && nat_lt 0 v
called_fine g Trading = true
called_fine g Closed = true
