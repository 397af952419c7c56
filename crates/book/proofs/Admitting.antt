-- The standing order of a row that may be out of bounds.
use Rattle.std.proofs.Common.{◌≡◌, cond, Some, None, Ok, Err, Option, Result, sym, ap, ◌∙◌}
use Rattle.std.specs.Result.{result_ok}
use Rattle.model.specs.declared.types.Order.{Order}
use Rattle.book.specs.declared.standing.StandingOrder.{StandingOrder}
use Rattle.book.specs.declared.making.OutOfBounds.{OutOfBounds}
use Rattle.book.specs.Bounds.{in_bounds}
use Rattle.book.specs.Plain.{as_plain}
use Rattle.book.specs.Making.{Admitted}

-- a row is a standing order exactly where it is in bounds
pub admitted : (o : Order) (r : Result StandingOrder OutOfBounds) (s : Option StandingOrder) → Admitted o r → s ≡ result_ok r → as_plain s ≡ cond (in_bounds o) (Some o) None
admitted o (Ok x) s h e = ap as_plain e ∙ ap Some h.1 ∙ sym (ap (λ b. cond b (Some o) None) h.0)
admitted o (Err x) s h e = ap as_plain e ∙ sym (ap (λ b. cond b (Some o) None) h)
