-- When orders have a curve.
use Rattle.std.specs.Prelude.{ℕ, ◌^◌, if◌then◌else◌, List, Some, None, Option, sum_by, nat_le, nat_lt}
use Rattle.model.specs.declared.types.Order.{Order}
use Rattle.model.specs.Grid.{Settings, count}
use Rattle.preview.specs.declared.faults.Fault.{Fault}
use Rattle.preview.specs.declared.faults.Fault.TheVariants.{QuantityTooLarge, ScratchTooShort}

-- what is left of all orders together
abbrev pub total : List Order → ℕ
total os = sum_by (λ o. o.left) os

-- the fault of some orders under these settings, with a scratch of this length, or none
abbrev pub curve_fault : Settings → List Order → ℕ → Option Fault
curve_fault g os scratch = if nat_le (2 ^ 64) (total os) then Some QuantityTooLarge else (if nat_lt scratch (count g) then Some ScratchTooShort else None)
