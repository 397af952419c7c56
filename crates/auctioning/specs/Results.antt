-- What the result of a call for a price says.
use Rattle.std.specs.Prelude.{◌≡◌, ◌≤◌, true, List, Some, None, Ok, Err, Option, Result}
use Rattle.model.specs.declared.types.Order.{Order}
use Rattle.model.specs.declared.types.Point.{Point}
use Rattle.model.specs.declared.types.Refusal.{Refusal}
use Rattle.model.specs.Grid.{Settings, on_grid}
use Rattle.model.specs.Curve.{traded}
use Rattle.model.specs.Rules.{Rule}
use Rattle.model.specs.Auction.{call_price}

-- a point at a grid price, at which something trades
abbrev pub Trades : Settings → Option Point → Type 0
Trades g None = Unit {0}
Trades g (Some x) = (on_grid g x.price ≡ true) × (1 ≤ traded x)

-- a call that is done answers the point that it finds
abbrev pub Priced : Rule → Settings → List Order → Result (Option Point) Refusal → Type 0
Priced r g os (Ok x) = (call_price r g os ≡ x) × Trades g x
Priced r g os (Err e) = Unit {0}
