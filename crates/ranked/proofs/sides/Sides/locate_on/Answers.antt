use Rattle.std.proofs.Common.{◌≡◌, eqb, ◌∙◌, sym, rules, arith, inl}
use borrow.Author.Tests.{tests}
use Rattle.std.specs.List.{position}
use Rattle.std.specs.Slice.Iter.{iter_rest}
use Rattle.std.proofs.lemmas.Iterator.Search.{position_from_yields_List}
use Rattle.std.proofs.lemmas.Iterator.Consumers.{YieldsList-from_first}
use Rattle.model.specs.declared.types.Order.{Order}
use Rattle.ranked.specs.Views.{view}
use Rattle.ranked.specs.Queues.{queue}
use Rattle.ranked.proofs.Changes.{few_orders}
use Rattle.ranked.proofs.Scans.{stands_at, none_has}
use Rattle.ranked.proofs.sides.Sides.locate_on.Goals as goal
use Rattle.ranked.proofs.sides.Sides.locate_on.Goals.{at-returns-in_err-index, at-returns, After-position}

pub position-requires-clause-fits : goal.position-requires-clause-fits
position-requires-clause-fits c = let few = few_orders _ c.args.self.now _ c.orders.ensures in inl (omega arith)

-- the place that the search answers
place : (c : goal.After-position) → c.position.result ≡ position (λ o. eqb o.number c.args.number) (queue c.args.side c.args.self.now)
place c =
    position_from_yields_List (λ (o : Order). eqb o.number c.args.number) c.position.new.self _ c.position.result c.position.ensures.ran
    (YieldsList-from_first (λ x. x.now) (λ s. view s.side (iter_rest s.rows)) (queue c.args.side c.args.self.now) c.orders.ensures)
    (λ x b q k. search (rules, tests))

pub returns-in_err-index : goal.returns-in_err-index
returns-in_err-index c =
    let none = none_has c.args.number (queue c.args.side c.args.self.now) (sym (place (at-returns-in_err-index c).After-position) ∙ c.in_err-index.was) in
    rw c.from_residual.ensures none

pub returns : goal.returns
returns c = stands_at c.args.self.now c.args.side c.args.number c.in_ok-index.index (sym (place (at-returns c).After-position) ∙ c.in_ok-index.was)
