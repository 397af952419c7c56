use Rattle.std.proofs.Common.{sym, ap, ◌∙◌, subst}
use Rattle.book.specs.Meaning.{can_turn}
use Rattle.rows.specs.Rows.{Held}
use Rattle.arrival.specs.Books.{standing_in, held_in}
use Rattle.arrival.proofs.Changing.{missing, not_turned, turned, Turned}
use Rattle.arrival.proofs.Keeping.{held_turned}
use Rattle.arrival.proofs.arrival.ArrivalBookBook.turn.Goals as goal
use Rattle.arrival.proofs.arrival.ArrivalBookBook.turn.Goals.{at-invariant_of-self, at-returns-clause-answer, at-returns-clause-after, In-Some-after_turn}

pub returns-in_default-clause-answer : goal.returns-in_default-clause-answer
returns-in_default-clause-answer c = sym (ap (can_turn c.args.price) (missing c.args.number (standing_in c.args.self.now) (sym c.position.ensures ∙ c.in_default.is)))

pub returns-in_default-after_turn-clause-answer : goal.returns-in_default-after_turn-clause-answer
returns-in_default-after_turn-clause-answer c =
    not_turned c.args.number (standing_in c.args.self.now) c.orders.result.now c.in-Some.i (sym c.position.ensures ∙ c.in-Some.is) c.orders.ensures
    c.args.price c.after_turn.result c.after_turn.ensures c.in_default-after_turn.is

-- the order is turned
outcome : (c : goal.In-Some-after_turn) → Turned c.args.number c.args.price (standing_in c.args.self.now) c.in-Some.i c.in-Some-after_turn.limited
outcome c =
    turned c.args.number (standing_in c.args.self.now) c.orders.result.now c.in-Some.i (sym c.position.ensures ∙ c.in-Some.is) c.orders.ensures
    c.args.price c.after_turn.result c.after_turn.ensures c.in-Some-after_turn.limited c.in-Some-after_turn.is

pub returns-clause-answer : goal.returns-clause-answer
returns-clause-answer c = (outcome (at-returns-clause-answer c).In-Some-after_turn).may

pub returns-clause-after : goal.returns-clause-after
returns-clause-after c = c.replace.ensures.orders ∙ (outcome (at-returns-clause-after c).In-Some-after_turn).after

-- what was kept of the orders is kept
pub invariant_of-self : goal.invariant_of-self
invariant_of-self c =
    let done = outcome (at-invariant_of-self c).In-Some-after_turn in
    record { held = ∣ subst Held (sym (c.replace.ensures.orders ∙ done.after)) (held_turned c.args.number c.args.price (standing_in c.args.self.now) done.range (held_in c.args.self.now)) ∣₁ }
