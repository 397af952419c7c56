-- A day after a call for a price or a strike.
use Rattle.std.specs.Prelude.{ℕ}
use Rattle.model.specs.declared.types.Point.{Point}
use Rattle.model.specs.declared.types.Phase.TheVariants.{Called, Trading}
use Rattle.model.specs.declared.types.DayState.{DayState}
use Rattle.model.specs.Curve.{traded}

-- the price of a point is called, with the quantity that trades at it
abbrev pub with_called : DayState → Point → DayState
with_called d x = record { phase = Called x.price (traded x); reference = d.reference; last = d.last; used = d.used }

-- trading begins about a reference price, with so many places of the tape used
abbrev pub trading_from : DayState → ℕ → ℕ → DayState
trading_from d reference used = record { phase = Trading; reference = reference; last = d.last; used = used }
