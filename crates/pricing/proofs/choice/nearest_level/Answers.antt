use Rattle.std.proofs.Common.{not, Some, rules, tests}
use Rattle.std.proofs.lemmas.Iterator.{YieldsList-from_slice}
use Rattle.std.proofs.lemmas.Iterator.Consumers.{YieldsList-from_filter, fold_from_yields_List}
use Rattle.pricing.specs.Level.{nearest_with}
use Rattle.pricing.proofs.Level.{nearest_joined}
use Rattle.pricing.proofs.choice.nearest_level.Goals as goal

pub returns-clause-joined : goal.returns-clause-joined
returns-clause-joined g c =
    let r = g.R.PriceRule.rule c.args.rule.now in
    let b = c.args.best in
    let t = c.args.target in
    let ps = c.args.points.now in
    let value = fold_from_yields_List _ (λ e p. Some (nearest_with t e p)) c.args.earlier c.fold.result c.fold.ensures.ran (YieldsList-from_filter _ (λ p. not (r.ahead b p)) (YieldsList-from_slice ps (cc)) c.filter.ensures.closure (λ x r q k. search (rules, tests))) (λ a x b q k. search rules) in
    λ xs. nearest_joined r b t c.fold.result c.args.earlier xs ps value
