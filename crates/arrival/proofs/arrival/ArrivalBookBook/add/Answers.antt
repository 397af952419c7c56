use Rattle.std.proofs.Common.{◌≡◌, [], ◌∷◌, ◌++◌, sym, ap, ◌∙◌, subst}
use Rattle.model.specs.Numbers.{max_number}
use Rattle.book.specs.Meaning.{addable}
use Rattle.book.specs.Plain.{plain}
use Rattle.rows.specs.Rows.{Held}
use Rattle.arrival.specs.Adding.{can_add}
use Rattle.arrival.specs.Books.{standing_in, capacity_of, held_in}
use Rattle.arrival.proofs.Changing.{add_asked}
use Rattle.arrival.proofs.Keeping.{held_added}
use Rattle.arrival.proofs.arrival.ArrivalBookBook.add.Goals as goal
use Rattle.arrival.proofs.arrival.ArrivalBookBook.add.Goals.{at-returns-then-not-may_push-clause-answer, at-invariant_of-self, at-returns-clause-answer, After-may_push, After-push}

-- what the question asks of the book
asked : (c : goal.After-may_push) → c.may_push.result ≡ addable (capacity_of c.args.self.now) (standing_in c.args.self.now) (plain c.args.order)
asked c =
    let b = c.args.self.now in
    c.may_push.ensures
    ∙ ap (can_add (capacity_of b) (standing_in b)) c.from-row.ensures
    ∙ add_asked max_number (capacity_of b) (standing_in b) (plain c.args.order) (held_in b).standing

pub returns-then-not-may_push-clause-answer : goal.returns-then-not-may_push-clause-answer
returns-then-not-may_push-clause-answer c = sym c.if-not-may_push.true ∙ asked (at-returns-then-not-may_push-clause-answer c).After-may_push

pub returns-clause-answer : goal.returns-clause-answer
returns-clause-answer c = sym c.if-not-may_push.false ∙ asked (at-returns-clause-answer c).After-may_push

-- the order stands behind the others
pub invariant_of-self : goal.invariant_of-self
invariant_of-self c =
    let b = c.args.self.now in
    let may = sym (asked (at-invariant_of-self c).After-may_push) ∙ c.if-not-may_push.false in
    let behind = c.push.ensures.orders ∙ ap (λ o. standing_in b ++ o ∷ []) c.from-row.ensures in
    record { held = ∣ subst Held (sym behind) (held_added (capacity_of b) (standing_in b) c.args.order (held_in b) may) ∣₁ }
