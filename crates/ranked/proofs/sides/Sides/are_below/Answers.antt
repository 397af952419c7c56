use Rattle.std.proofs.Common.{ltb, ◌∙◌, rules}
use borrow.Author.Tests.{tests}
use Rattle.std.specs.Slice.Iter.{iter_rest}
use Rattle.std.proofs.lemmas.Iterator.Search.{all_from_yields_List}
use Rattle.std.proofs.lemmas.Iterator.Consumers.{YieldsList-from_first}
use Rattle.model.specs.declared.types.Order.{Order}
use Rattle.ranked.specs.Views.{view}
use Rattle.ranked.specs.Queues.{queue}
use Rattle.ranked.proofs.Scans.{all_are_below}
use Rattle.ranked.proofs.sides.Sides.are_below.Goals as goal

pub returns : goal.returns
returns c =
    let q = queue c.args.side c.args.self.now in
    all_from_yields_List (λ (o : Order). ltb o.number c.args.number) c.all.new.self _ c.all.result c.all.ensures.ran (YieldsList-from_first (λ x. x.now) (λ s. view s.side (iter_rest s.rows)) q c.orders.ensures) (λ x b q k. search (rules, tests))
    ∙ all_are_below c.args.number q
