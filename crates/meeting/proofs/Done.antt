-- An order of which nothing remains meets nothing.
use Rattle.std.proofs.Common.{◌≡◌, ℕ, Bool, false, not, ◌||◌, eqb, List, [], ◌∷◌, refl}
use Rattle.std.proofs.lemmas.Bool.{cond-true, eq-eqb, or_left}
use Rattle.model.specs.declared.types.Order.{Order}
use Rattle.model.specs.declared.types.OrderPrice.{OrderPrice}
use Rattle.model.specs.declared.types.Side.{Side}
use Rattle.model.specs.Curve.{allows}
use Rattle.model.specs.Trading.{limit, met, meet}

pub meet_done : (in_band : ℕ → Bool) (s : Side) (p : OrderPrice) (q : ℕ) (xs : List Order) → q ≡ 0 → meet in_band s p q xs ≡ met [] q false
meet_done in_band s p q [] h = refl
meet_done in_band s p q (x ∷ xs) h = cond-true (eqb q 0 || not (allows s p (limit x.price))) _ _ (or_left (eqb q 0) _ (eq-eqb q 0 h))
