-- How a standing order is made of plain contents.
use Rattle.std.specs.Prelude.{◌≡◌, true, false, Result, MatchResult}
use Rattle.model.specs.declared.types.Order.{Order}
use Rattle.book.specs.declared.standing.StandingOrder.{StandingOrder}
use Rattle.book.specs.declared.making.OutOfBounds.{OutOfBounds}
use Rattle.book.specs.Bounds.{in_bounds}
use Rattle.book.specs.Plain.{plain}

-- the standing order of these contents, or none where one of them is out of bounds
abbrev pub Admitted : Order → Result StandingOrder OutOfBounds → Type 0
Admitted o r = MatchResult r (λ standing. (in_bounds o ≡ true) × (plain standing ≡ o)) (λ _. in_bounds o ≡ false)
