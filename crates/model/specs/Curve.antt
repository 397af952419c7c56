-- How much is bid and offered at each grid price.
use Rattle.std.specs.Prelude.{ℕ, ◌+◌, ◌-◌, min, Bool, true, ◌&&◌, List, map, sum_by, filter, nat_le}
use Rattle.model.specs.Types.{Side, Buy, Sell, OrderPrice, Market, Limit, Order, Point}
use Rattle.model.specs.Grid.{Settings, grid, active}
use Rattle.model.specs.Rank.{same_side}

-- an order of side s at this price may trade at p
abbrev pub allows : Side → OrderPrice → ℕ → Bool
allows s Market p = true
allows Buy (Limit l) p = nat_le p l
allows Sell (Limit l) p = nat_le l p

-- an active order of side s that allows p
abbrev pub takes_part : Settings → Side → ℕ → Order → Bool
takes_part g s p o = same_side s o.side && (active g o.price && allows s o.price p)

-- what is left of those orders
abbrev pub volume : Settings → Side → ℕ → List Order → ℕ
volume g s p os = sum_by (λ o. o.left) (filter (takes_part g s p) os)

-- a price, with what is bid and what is offered at it
abbrev pub point : Settings → List Order → ℕ → Point
point g os p = record { price = p; demand = volume g Buy p os; supply = volume g Sell p os }

-- the point of each grid price, from the lowest up
abbrev pub curve : Settings → List Order → List Point
curve g os = map (point g os) (grid g)

-- what would trade at a point
abbrev pub traded : Point → ℕ
traded x = min x.demand x.supply

-- by how much one side exceeds the other at a point
abbrev pub surplus : Point → ℕ
surplus x = (x.demand - x.supply) + (x.supply - x.demand)
