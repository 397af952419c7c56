-- The free places of a tape, and what is written there.
use Rattle.std.specs.Prelude.{◌≡◌, ℕ, ◌+◌, ◌-◌, List, length}
use Rattle.model.specs.declared.types.TapeRecord.{TapeRecord}
use Rattle.model.specs.Records.{written}
use Rattle.tape.specs.declared.tapes.Tape.{Tape}

-- how many places are left
abbrev pub room : Tape → ℕ
room t = length t.places.now - t.next

-- the records were written at the next free places of the same tape
pub record Recorded (before after : Tape) (records : List TapeRecord) : Type 0 where
  pub places : after.places.now ≡ written before.places.now before.next records
  pub next : after.next ≡ before.next + length records
  pub same : after.places.ghost_name ≡ before.places.ghost_name
