use Rattle.std.proofs.Common.{sym, ap, ◌∙◌, subst, arith}
use Rattle.book.specs.Meaning.{can_take}
use Rattle.rows.specs.Rows.{Held}
use Rattle.arrival.specs.Books.{standing_in, held_in}
use Rattle.arrival.proofs.Changing.{missing, not_taken, taken, Taken}
use Rattle.arrival.proofs.Keeping.{held_lowered}
use Rattle.arrival.proofs.arrival.ArrivalBookBook.take.Goals as goal
use Rattle.arrival.proofs.arrival.ArrivalBookBook.take.Goals.{at-invariant_of-self, at-invariant_of-self-else-rest-eq0, at-returns-then-rest-eq0-clause-answer, at-returns-then-rest-eq0-clause-after, at-returns-else-rest-eq0-clause-answer, at-returns-else-rest-eq0-clause-after, In-Some-after_take, After-remove, After-replace}

pub returns-in_default-clause-answer : goal.returns-in_default-clause-answer
returns-in_default-clause-answer c = sym (ap (can_take c.args.amount) (missing c.args.number (standing_in c.args.self.now) (sym c.position.ensures ∙ c.in_default.is)))

pub returns-in_default-after_take-clause-answer : goal.returns-in_default-after_take-clause-answer
returns-in_default-after_take-clause-answer c =
    not_taken c.args.number (standing_in c.args.self.now) c.orders.result.now c.in-Some.i (sym c.position.ensures ∙ c.in-Some.is) c.orders.ensures
    c.args.amount c.after_take.result c.after_take.ensures c.in_default-after_take.is

-- the amount is taken
outcome : (c : goal.In-Some-after_take) → Taken c.args.number c.args.amount (standing_in c.args.self.now) c.in-Some.i c.in-Some-after_take.rest
outcome c =
    taken c.args.number (standing_in c.args.self.now) c.orders.result.now c.in-Some.i (sym c.position.ensures ∙ c.in-Some.is) c.orders.ensures
    c.args.amount c.after_take.result c.after_take.ensures c.in-Some-after_take.rest c.in-Some-after_take.is

pub returns-then-rest-eq0-clause-answer : goal.returns-then-rest-eq0-clause-answer
returns-then-rest-eq0-clause-answer c = (outcome (at-returns-then-rest-eq0-clause-answer c).In-Some-after_take).may

pub returns-then-rest-eq0-clause-after : goal.returns-then-rest-eq0-clause-after
returns-then-rest-eq0-clause-after c = c.remove.ensures.orders ∙ (outcome (at-returns-then-rest-eq0-clause-after c).In-Some-after_take).gone c.if-rest-eq0.true

pub returns-else-rest-eq0-clause-answer : goal.returns-else-rest-eq0-clause-answer
returns-else-rest-eq0-clause-answer c = (outcome (at-returns-else-rest-eq0-clause-answer c).In-Some-after_take).may

pub returns-else-rest-eq0-clause-after : goal.returns-else-rest-eq0-clause-after
returns-else-rest-eq0-clause-after c = c.replace.ensures.orders ∙ (outcome (at-returns-else-rest-eq0-clause-after c).In-Some-after_take).less (λ z. omega arith)

-- what was kept of the orders is kept
pub invariant_of-self : goal.invariant_of-self
invariant_of-self c =
    let after = c.remove.ensures.orders ∙ (outcome (at-invariant_of-self c).In-Some-after_take).gone c.if-rest-eq0.true in
    record { held = ∣ subst Held (sym after) (held_lowered c.args.number c.args.amount (standing_in c.args.self.now) (held_in c.args.self.now)) ∣₁ }

pub invariant_of-self-else-rest-eq0 : goal.invariant_of-self-else-rest-eq0
invariant_of-self-else-rest-eq0 c =
    let after = c.replace.ensures.orders ∙ (outcome (at-invariant_of-self-else-rest-eq0 c).In-Some-after_take).less (λ z. omega arith) in
    record { held = ∣ subst Held (sym after) (held_lowered c.args.number c.args.amount (standing_in c.args.self.now) (held_in c.args.self.now)) ∣₁ }
