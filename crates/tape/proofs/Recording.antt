-- Records written in several steps.
use Rattle.std.proofs.Common.{◌≡◌, ◌+◌, ◌-◌, List, [], ◌++◌, length, refl, ap, ◌∙◌, arith}
use Rattle.std.proofs.lemmas.List.{length-append}
use Rattle.model.specs.declared.types.TapeRecord.{TapeRecord}
use Rattle.model.specs.Records.{written}
use Rattle.model.proofs.Tapes.{written_append, length_written}
use Rattle.tape.specs.declared.tapes.Tape.{Tape}
use Rattle.tape.specs.Tapes.{room, Recorded}

-- nothing is written
pub recorded_none : (a : Tape) → Recorded a a []
recorded_none a = record { places = refl; next = omega arith; same = refl }

-- and one part after another
pub recorded_more : (a b c : Tape) (xs ys : List TapeRecord) → Recorded a b xs → Recorded b c ys → Recorded a c (xs ++ ys)
recorded_more a b c xs ys h k =
    record {
      places = k.places ∙ ap (λ t. written t b.next ys) h.places ∙ ap (λ n. written (written a.places.now a.next xs) n ys) h.next ∙ written_append a.places.now a.next xs ys;
      next = omega (arith, h.next, k.next, length-append xs ys);
      same = k.same ∙ h.same;
    }

-- the places that are left after it
pub room_after : (a b : Tape) (xs : List TapeRecord) → Recorded a b xs → room b ≡ room a - length xs
room_after a b xs h = let l : length b.places.now ≡ length a.places.now = ap length h.places ∙ length_written a.places.now a.next xs in omega (arith, l, h.next)
