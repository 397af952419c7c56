use Rattle.std.proofs.Common.{Some, rules}
use Rattle.std.proofs.lemmas.Iterator.{YieldsList-from_slice}
use Rattle.std.proofs.lemmas.Iterator.Consumers.{fold_from_yields_List}
use Rattle.model.specs.Lawful.{Lawful}
use Rattle.pricing.specs.Ends.{ends_with}
use Rattle.pricing.proofs.Ends.{ends_joined}
use Rattle.pricing.proofs.choice.best_ends.Goals as goal

pub returns-clause-joined : goal.returns-clause-joined
returns-clause-joined g c =
    let r = g.R.PriceRule.rule c.args.rule.now in
    let ps = c.args.points.now in
    let law : Lawful r = record {
      asymmetric = g.met.R.PriceRule.asymmetric c.args.rule.now;
      transitive = g.met.R.PriceRule.transitive c.args.rule.now;
    } in
    let value = fold_from_yields_List _ (λ e p. Some (ends_with r e p)) c.args.earlier c.fold.result c.fold.ensures.ran (YieldsList-from_slice ps (cc)) (λ a x b q k. search rules) in
    λ xs. ends_joined r law c.fold.result c.args.earlier xs ps value
