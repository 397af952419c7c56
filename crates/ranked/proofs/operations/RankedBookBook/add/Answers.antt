use Rattle.std.proofs.Common.{◌≡◌, ◌+◌, max, true, [], ◌∷◌, ◌++◌, sym, ap, ◌∙◌, subst, arith}
use Rattle.model.specs.Rank.{insert}
use Rattle.book.specs.Bounds.{Bounded}
use Rattle.book.specs.Meaning.{all_below, addable}
use Rattle.book.specs.Plain.{plain}
use Rattle.ranked.specs.Queues.{capacity_of, queue, Changed}
use Rattle.ranked.specs.InRank.{meaning}
use Rattle.ranked.specs.Keeping.{rank_in}
use Rattle.ranked.proofs.Halves.{descends}
use Rattle.ranked.proofs.Holding.{Becomes}
use Rattle.ranked.proofs.Outcomes.{added}
use Rattle.ranked.proofs.Replies.{addable_parts, count_meaning}
use Rattle.ranked.proofs.Tops.{top_added}
use Rattle.ranked.proofs.operations.RankedBookBook.add.Goals as goal
use Rattle.ranked.proofs.operations.RankedBookBook.add.Goals.{at-invariant_of-self, at-returns-clause-after, After-enter}

pub enter-requires : goal.enter-requires
enter-requires c =
    let b = c.args.self.now in
    let h = b.sides in
    let p = addable_parts (capacity_of h) (meaning h) c.from-row.result (sym c.may_add.ensures ∙ c.if-not-may_add.false) in
    record { free = omega (arith, p.0, count_meaning h); ranks = descends h (rank_in b) c.from-row.result.side }

may : (c : goal.After-enter) → true ≡ addable (capacity_of c.args.self.now.sides) (meaning c.args.self.now.sides) (plain c.args.order)
may c =
    let b = c.args.self.now in
    sym c.if-not-may_add.false ∙ c.may_add.ensures ∙ ap (addable (capacity_of b.sides) (meaning b.sides)) c.from-row.ensures

after : (c : goal.After-enter) → Becomes c.enter.new.self (meaning c.args.self.now.sides ++ plain c.args.order ∷ [])
after c =
    let b = c.args.self.now in
    let o = c.args.order in
    let k = c.enter.new.self in
    let p = addable_parts (capacity_of b.sides) (meaning b.sides) (plain o) (sym (may c)) in
    let bounded : Bounded (plain o) = record { number_low = o.number_low; number_high = o.number_high; member_low = o.member_low; member_high = o.member_high; price_low = o.price_low; price_high = o.price_high; left_low = p.1; left_high = o.left_high } in
    added b.sides k (plain o) (rank_in b) bounded p.2 (subst (λ r. Changed r.side (insert r.side r (queue r.side b.sides)) b.sides k) c.from-row.ensures c.enter.ensures)

pub invariant_of-self : goal.invariant_of-self
invariant_of-self c =
    let b = c.args.self.now in
    let done = after (at-invariant_of-self c).After-enter in
    record {
      in_rank = ∣ done.1 ∣₁;
      below = subst (λ os. all_below os (c.max-self.result + 1) ≡ true) (sym done.0) (top_added b.top c.max-self.result (plain c.args.order) (meaning b.sides) b.below (c.max-self.ensures ∙ ap (λ o. max b.top o.number) c.from-row.ensures));
    }

pub returns-clause-after : goal.returns-clause-after
returns-clause-after c = (after (at-returns-clause-after c).After-enter).0
