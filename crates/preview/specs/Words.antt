-- The words for faults, as bytes.
use Rattle.std.specs.Prelude.{ℕ, List, codes}
use Rattle.preview.specs.declared.faults.Fault.{Fault}
use Rattle.preview.specs.declared.faults.Fault.TheVariants.{QuantityTooLarge, ScratchTooShort}

-- the words for each fault
abbrev pub fault_words : Fault → List ℕ
fault_words QuantityTooLarge = codes "the quantities add up to more than 64 bits"
fault_words ScratchTooShort = codes "the scratch is too short"
