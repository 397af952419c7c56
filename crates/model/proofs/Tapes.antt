-- Records that are written to a tape one after another.
use Rattle.std.proofs.Common.{◌≡◌, ℕ, ◌+◌, List, [], ◌∷◌, ◌++◌, length, set, refl, ap, ◌∙◌, add-zero, arith, length-set}
use Rattle.model.specs.Types.{TapeRecord}
use Rattle.model.specs.Records.{written}

-- some records, and then others
pub written_append : (tape : List TapeRecord) (used : ℕ) (rs qs : List TapeRecord) → written (written tape used rs) (used + length rs) qs ≡ written tape used (rs ++ qs)
written_append tape used [] qs = ap (λ n. written tape n qs) (add-zero used)
written_append tape used (r ∷ rs) qs = ap (λ n. written (written (set tape used r) (used + 1) rs) n qs) (omega arith) ∙ written_append (set tape used r) (used + 1) rs qs

pub length_written : (tape : List TapeRecord) (used : ℕ) (rs : List TapeRecord) → length (written tape used rs) ≡ length tape
length_written tape used [] = refl
length_written tape used (r ∷ rs) = length_written (set tape used r) (used + 1) rs ∙ length-set tape used r
