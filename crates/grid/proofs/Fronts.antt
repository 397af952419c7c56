-- The curve at the front of a scratch.
use Rattle.std.proofs.Common.{◌≡◌, ℕ, List, ◌++◌, length, take, drop, ap, ◌∙◌, arith}
use Rattle.std.proofs.lemmas.List.{take_at, length-map}
use Rattle.model.specs.declared.types.Order.{Order}
use Rattle.model.specs.declared.types.Point.{Point}
use Rattle.model.specs.Grid.{Settings, count, grid}
use Rattle.model.specs.Curve.{point, curve}
use Rattle.model.proofs.GridEnds.{count_is}

-- the front of what is written is the curve
pub curve_front : (g : Settings) (os : List Order) (n : ℕ) (before after : List Point) → n ≡ count g → after ≡ curve g os ++ drop (count g) before → take n after ≡ curve g os
curve_front g os n before after e w =
    let long : length (curve g os) ≡ n = length-map (grid g) (point g os) ∙ omega (arith, count_is g) in
    ap (take n) w ∙ take_at (curve g os) (drop (count g) before) n long
