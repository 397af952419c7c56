use Rattle.std.proofs.Common.{[], ap}
use Rattle.book.specs.Meaning.{all_below}
use Rattle.ranked.proofs.Holding.{Becomes}
use Rattle.ranked.proofs.Outcomes.{empty}
use Rattle.ranked.proofs.table.RankedBook.new.Goals as goal
use Rattle.ranked.proofs.table.RankedBook.new.Goals.{at-returns-clause-empty, After-new}

nothing : (c : goal.After-new) → Becomes c.new.result []
nothing c = empty c.new.result c.new.ensures.buys c.new.ensures.sells

pub invariant_of-result : goal.invariant_of-result
invariant_of-result c = record {
  in_rank = ∣ (nothing c).1 ∣₁;
  below = ap (λ os. all_below os 1) (nothing c).0;
}

pub returns-clause-empty : goal.returns-clause-empty
returns-clause-empty c = (nothing (at-returns-clause-empty c).After-new).0
