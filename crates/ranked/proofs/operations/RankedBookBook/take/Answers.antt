use Rattle.std.proofs.Common.{◌≡◌, ◌+◌, ◌-◌, true, Some, sym, ap, ◌∙◌, subst}
use Rattle.model.specs.Orders.{find, lower, with_left}
use Rattle.book.specs.Meaning.{all_below, can_take}
use Rattle.ranked.specs.InRank.{meaning}
use Rattle.ranked.specs.Keeping.{rank_in}
use Rattle.ranked.proofs.Found.{Stands, stands, found, missing}
use Rattle.ranked.proofs.Holding.{Becomes}
use Rattle.ranked.proofs.Outcomes.{used_up, lessened}
use Rattle.ranked.proofs.Replies.{some_if, none_if}
use Rattle.ranked.proofs.Tops.{below_lower}
use Rattle.ranked.proofs.operations.RankedBookBook.take.Goals as goal
use Rattle.ranked.proofs.operations.RankedBookBook.take.Goals.{at-returns-in_default-after_take-clause-answer, at-invariant_of-self, at-invariant_of-self-2, at-returns-then-rest-eq0-clause-answer, at-returns-then-rest-eq0-clause-after, at-returns-clause-answer, at-returns-clause-after, After-at-order, In-Some-after_take, After-remove, After-replace}

-- the order that was found
here : (c : goal.After-at-order) → Stands c.args.self.now.sides c.args.number c.in-Some.at c.at-order.result
here c =
    let b = c.args.self.now in
    stands b.sides c.args.number c.in-Some.at c.at-order.result (rank_in b) c.in-Some.ensures c.at-order.ensures

under : (c : goal.After-at-order) → find c.args.number (meaning c.args.self.now.sides) ≡ Some c.at-order.result
under c = found c.args.self.now.sides c.args.number c.in-Some.at c.at-order.result (here c)

-- the amount may be taken of it, and what becomes of it
taken : (c : goal.In-Some-after_take) → (can_take c.args.amount (Some c.at-order.result) ≡ true) × (c.in-Some-after_take.rest ≡ with_left c.at-order.result (c.at-order.result.left - c.args.amount))
taken c = some_if (can_take c.args.amount (Some c.at-order.result)) c.in-Some-after_take.rest (with_left c.at-order.result (c.at-order.result.left - c.args.amount)) c.in-Some-after_take.ensures

pub returns-in_default-clause-answer : goal.returns-in_default-clause-answer
returns-in_default-clause-answer c = sym (ap (can_take c.args.amount) (missing c.args.self.now.sides c.args.number c.in_default.ensures))

pub returns-in_default-after_take-clause-answer : goal.returns-in_default-after_take-clause-answer
returns-in_default-after_take-clause-answer c =
    let x = c.at-order.result in
    let q = c.args.amount in
    sym (ap (can_take q) (under (at-returns-in_default-after_take-clause-answer c).After-at-order) ∙ none_if (can_take q (Some x)) (with_left x (x.left - q)) c.in_default-after_take.ensures)

gone : (c : goal.After-remove) → Becomes c.remove.new.self (lower c.args.number c.args.amount (meaning c.args.self.now.sides))
gone c =
    used_up c.args.self.now.sides c.args.number c.in-Some.at c.at-order.result (here (at-invariant_of-self c).After-at-order) c.remove.new.self c.args.amount c.in-Some-after_take.rest (taken (at-invariant_of-self c).In-Some-after_take).1
    c.if-rest-eq0.true
    c.remove.ensures.after

pub invariant_of-self : goal.invariant_of-self
invariant_of-self c =
    let top = c.args.self.now.top in
    record {
      in_rank = ∣ (gone c).1 ∣₁;
      below = subst (λ os. all_below os (top + 1) ≡ true) (sym (gone c).0) (below_lower (top + 1) c.args.number c.args.amount (meaning c.args.self.now.sides) c.args.self.now.below);
    }

pub returns-then-rest-eq0-clause-answer : goal.returns-then-rest-eq0-clause-answer
returns-then-rest-eq0-clause-answer c =
    let before = at-returns-then-rest-eq0-clause-answer c in
    sym (ap (can_take c.args.amount) (under before.After-at-order) ∙ (taken before.In-Some-after_take).0)

pub returns-then-rest-eq0-clause-after : goal.returns-then-rest-eq0-clause-after
returns-then-rest-eq0-clause-after c = (gone (at-returns-then-rest-eq0-clause-after c).After-remove).0

less : (c : goal.After-replace) → Becomes c.replace.new.self (lower c.args.number c.args.amount (meaning c.args.self.now.sides))
less c =
    lessened c.args.self.now.sides c.args.number c.in-Some.at c.at-order.result (here (at-invariant_of-self-2 c).After-at-order) c.replace.new.self c.args.amount c.in-Some-after_take.rest (taken (at-invariant_of-self-2 c).In-Some-after_take).1
    c.if-rest-eq0.false
    c.replace.ensures

pub invariant_of-self-2 : goal.invariant_of-self-2
invariant_of-self-2 c =
    let top = c.args.self.now.top in
    record {
      in_rank = ∣ (less c).1 ∣₁;
      below = subst (λ os. all_below os (top + 1) ≡ true) (sym (less c).0) (below_lower (top + 1) c.args.number c.args.amount (meaning c.args.self.now.sides) c.args.self.now.below);
    }

pub returns-clause-answer : goal.returns-clause-answer
returns-clause-answer c =
    let before = at-returns-clause-answer c in
    sym (ap (can_take c.args.amount) (under before.After-at-order) ∙ (taken before.In-Some-after_take).0)

pub returns-clause-after : goal.returns-clause-after
returns-clause-after c = (less (at-returns-clause-after c).After-replace).0
