-- A lemma among the definitions: a struct can keep it as a ghost field that orders stand.
use Rattle.std.specs.Prelude.{ℕ, List, [], ◌∷◌}
use Rattle.std.specs.Coded.{le_prop}
use Rattle.model.specs.Types.{Order}
use Rattle.model.specs.Orders.{Standing}

-- there is one way at most in which orders stand
pub standing_prop : (lo hi : ℕ) (os : List Order) → IsProp (Standing lo os hi)
standing_prop lo hi [] p q = λ i. le_prop p q i
standing_prop lo hi (o ∷ os) p q = λ i. (le_prop p.0 q.0 i, le_prop p.1 q.1 i, standing_prop o.number hi os p.2 q.2 i)
