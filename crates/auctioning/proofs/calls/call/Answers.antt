use Rattle.std.proofs.Common.{sym}
use Rattle.model.specs.Rules.{Rule}
use Rattle.model.specs.Lawful.{Lawful}
use Rattle.grid.specs.Views.{plain}
use Rattle.grid.proofs.Bounds.{valid}
use Rattle.auctioning.proofs.Found.{found_trades}
use Rattle.auctioning.proofs.calls.call.Goals as goal

pub returns-clause-price : goal.returns-clause-price
returns-clause-price g c =
    let rule = c.args.rule.now.below in
    let r : Rule = g.R.PriceRule.rule rule in
    let law : Lawful r = record { asymmetric = g.met.R.PriceRule.asymmetric rule; transitive = g.met.R.PriceRule.transitive rule } in
    let found = sym c.in_ok-found.ensures.value.1 in
    (found, found_trades r law (plain c.args.settings.now) (valid c.args.settings.now) (g.B.Book.orders c.args.book.now) c.in_ok-found.found found)
