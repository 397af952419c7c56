-- What the called price is, in the market's own words.
use Rattle.std.specs.Prelude.{◌≡◌, ℕ, ◌*◌, ◌≤◌, false, List}
use Rattle.std.specs.List.{ContainsAt as Has}
use Rattle.model.specs.declared.types.Point.{Point}
use Rattle.model.specs.Rules.{Rule, distance}
use Rattle.model.specs.Allocations.{target_in}

-- x is listed, and no listed point goes ahead of it
pub record IsBest (r : Rule) (ps : List Point) (x : Point) : Type 0 where
  pub listed : Has ps x
  pub unbeaten : (y : Point) → Has ps y → r.ahead y x ≡ false

-- how far a point's doubled price lies from the target, which is taken from the lowest and the highest best point
abbrev pub off_target : Rule → ℕ → List Point → Point → ℕ
off_target r i ps x = distance (2 * x.price) (target_in r i ps)

-- x is a best point, no best point is nearer the target, and none as near is higher
pub record IsCalled (r : Rule) (i : ℕ) (ps : List Point) (x : Point) : Type 0 where
  pub best : IsBest r ps x
  pub nearest : (y : Point) → IsBest r ps y → off_target r i ps x ≤ off_target r i ps y
  pub highest : (y : Point) → IsBest r ps y → off_target r i ps x ≡ off_target r i ps y → y.price ≤ x.price
