use Rattle.std.proofs.Common.{◌≡◌, sym, ap, ◌∙◌, subst}
use Rattle.model.specs.Rules.{most_traded, called}
use Rattle.model.specs.Auction.{if_trades, call_price}
use Rattle.model.specs.Lawful.{Lawful}
use Rattle.model.specs.Allocations.{Found}
use Rattle.model.proofs.Choice.{call_price_found}
use Rattle.grid.specs.Views.{plain}
use Rattle.grid.proofs.Bounds.{valid}
use Rattle.grid.proofs.Fronts.{curve_front}
use Rattle.preview.proofs.opening.opening_price.Goals as goal

pub returns-clause-first : goal.returns-clause-first
returns-clause-first g c =
    let s = plain c.args.settings.now in
    let os = c.args.orders.now in
    let r = g.R.PriceRule.rule c.args.rule.now.below in
    let done = c.in_ok-count.ensures in
    let front = curve_front s os c.in_ok-count.count c.args.scratch.now c.write_curve.new.scratch done.value.0 done.scratch in
    let priced : c.auction_price.result ≡ call_price r s os =
    c.auction_price.ensures ∙ ap (λ xs. if_trades (called (most_traded r) s.indicative xs)) front in
    let law : Lawful r = record { asymmetric = g.met.R.PriceRule.asymmetric c.args.rule.now.below; transitive = g.met.R.PriceRule.transitive c.args.rule.now.below } in
    subst (Found r s os) (sym priced) (call_price_found r law s (valid c.args.settings.now) os)
