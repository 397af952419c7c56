-- The points of a run, one side at a time.
use Rattle.std.specs.Prelude.{◌≡◌, ℕ, ◌+◌, ◌-◌, ◌*◌, ◌<◌, List, length, slice_index_or}
use Rattle.model.specs.declared.types.Side.{Side}
use Rattle.model.specs.declared.types.Side.TheVariants.{Buy, Sell}
use Rattle.model.specs.declared.types.Order.{Order}
use Rattle.model.specs.declared.types.Point.{Point}
use Rattle.model.specs.Grid.{Settings}
use Rattle.model.specs.Curve.{volume}

-- the place among n that is counted in turn j, from 0
abbrev pub place_in_turn : Side → ℕ → ℕ → ℕ
place_in_turn Buy n j = n - (j + 1)
place_in_turn Sell n j = j

-- the point at price p, with the volume v of this side
abbrev pub with_volume : Side → Point → ℕ → ℕ → Point
with_volume Buy x p v = record { price = p; demand = v; supply = x.supply }
with_volume Sell x p v = record { price = p; demand = x.demand; supply = v }

-- each point of a run has its price and the volume of this side, and of the other side what it had
abbrev pub SideWritten : Settings → List Order → Side → ℕ → List Point → List Point → Type 0
SideWritten g os s from start points =
    (k : ℕ) (d : Point) → k < length start → slice_index_or points k d ≡ with_volume s (slice_index_or start k d) (from + k * g.tick) (volume g s (from + k * g.tick) os)
