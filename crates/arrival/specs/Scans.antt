-- What a scan in rank looks for.
use Rattle.std.specs.Prelude.{Bool, true, Some, None, Option}
use Rattle.model.specs.declared.types.Order.{Order}
use Rattle.model.specs.declared.types.Side.{Side}
use Rattle.model.specs.Rank.{before}

-- an order ranks behind another one, or there is none
abbrev pub behind : Side → Option Order → Order → Bool
behind s None o = true
behind s (Some x) o = before s x o
