use Rattle.std.proofs.Common.{◌≡◌, ◌+◌, ◌-◌, true, Some, sym, refl, ap, ◌∙◌, subst, arith}
use Rattle.std.proofs.lemmas.Bool.{and_parts}
use Rattle.model.specs.declared.types.OrderPrice.TheVariants.{Limit}
use Rattle.model.specs.Numbers.{max_price, in_range}
use Rattle.model.specs.Orders.{find, turn, is_market, with_left, with_price}
use Rattle.book.specs.Meaning.{all_below, can_turn}
use Rattle.ranked.specs.InRank.{meaning}
use Rattle.ranked.specs.Keeping.{rank_in}
use Rattle.ranked.proofs.Found.{Stands, stands, found, missing}
use Rattle.ranked.proofs.Halves.{descends}
use Rattle.ranked.proofs.Holding.{Becomes}
use Rattle.ranked.proofs.Outcomes.{used_up, turned}
use Rattle.ranked.proofs.Replies.{some_if, none_if}
use Rattle.ranked.proofs.Tops.{below_turn}
use Rattle.ranked.proofs.operations.RankedBookBook.turn.Goals as goal
use Rattle.ranked.proofs.operations.RankedBookBook.turn.Goals.{at-enter-requires-clause-ranks, at-returns-in_default-after_turn-clause-answer, at-invariant_of-self, at-returns-clause-answer, at-returns-clause-after, After-at-order, In-Some-after_turn, After-enter}

-- the order that was found
here : (c : goal.After-at-order) → Stands c.args.self.now.sides c.args.number c.in-Some.at c.at-order.result
here c =
    let b = c.args.self.now in
    stands b.sides c.args.number c.in-Some.at c.at-order.result (rank_in b) c.in-Some.ensures c.at-order.ensures

under : (c : goal.After-at-order) → find c.args.number (meaning c.args.self.now.sides) ≡ Some c.at-order.result
under c = found c.args.self.now.sides c.args.number c.in-Some.at c.at-order.result (here c)

-- it may be turned, and what becomes of it
limited : (c : goal.In-Some-after_turn) → (can_turn c.args.price (Some c.at-order.result) ≡ true) × (c.in-Some-after_turn.limited ≡ with_price c.at-order.result (Limit c.args.price))
limited c = some_if (can_turn c.args.price (Some c.at-order.result)) c.in-Some-after_turn.limited (with_price c.at-order.result (Limit c.args.price)) c.in-Some-after_turn.ensures

pub returns-in_default-clause-answer : goal.returns-in_default-clause-answer
returns-in_default-clause-answer c = sym (ap (can_turn c.args.price) (missing c.args.self.now.sides c.args.number c.in_default.ensures))

pub returns-in_default-after_turn-clause-answer : goal.returns-in_default-after_turn-clause-answer
returns-in_default-after_turn-clause-answer c =
    let x = c.at-order.result in
    let p = c.args.price in
    sym (ap (can_turn p) (under (at-returns-in_default-after_turn-clause-answer c).After-at-order) ∙ none_if (can_turn p (Some x)) (with_price x (Limit p)) c.in_default-after_turn.ensures)

-- it is taken out, and the others are in rank
pub enter-requires-clause-ranks : goal.enter-requires-clause-ranks
enter-requires-clause-ranks c =
    let x = c.at-order.result in
    let done = used_up c.args.self.now.sides c.args.number c.in-Some.at x (here (at-enter-requires-clause-ranks c).After-at-order) c.remove.new.self x.left (with_left x (x.left - x.left)) refl (omega arith) c.remove.ensures.after in
    descends c.remove.new.self done.1 c.in-Some-after_turn.limited.side

again : (c : goal.After-enter) → Becomes c.enter.new.self (turn c.args.number c.args.price (meaning c.args.self.now.sides))
again c =
    let made = limited (at-invariant_of-self c).In-Some-after_turn in
    turned c.args.self.now.sides c.args.number c.in-Some.at c.at-order.result (here (at-invariant_of-self c).After-at-order) c.remove.new.self c.enter.new.self c.args.price c.in-Some-after_turn.limited made.1
    (and_parts (is_market c.at-order.result.price) (in_range 1 max_price c.args.price) made.0).1
    c.remove.ensures.after
    c.enter.ensures

pub invariant_of-self : goal.invariant_of-self
invariant_of-self c =
    let top = c.args.self.now.top in
    record {
      in_rank = ∣ (again c).1 ∣₁;
      below = subst (λ os. all_below os (top + 1) ≡ true) (sym (again c).0) (below_turn (top + 1) c.args.number c.args.price (meaning c.args.self.now.sides) c.args.self.now.below);
    }

pub returns-clause-answer : goal.returns-clause-answer
returns-clause-answer c =
    let before = at-returns-clause-answer c in
    sym (ap (can_turn c.args.price) (under before.After-at-order) ∙ (limited before.In-Some-after_turn).0)

pub returns-clause-after : goal.returns-clause-after
returns-clause-after c = (again (at-returns-clause-after c).After-enter).0
