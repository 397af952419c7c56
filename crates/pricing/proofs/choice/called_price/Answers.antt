use Rattle.std.proofs.Common.{[], refl}
use Rattle.model.specs.Lawful.{Lawful}
use Rattle.pricing.proofs.Called.{both_none, both_some}
use Rattle.pricing.proofs.choice.called_price.Goals as goal

pub returns-in_err-ends : goal.returns-in_err-ends
returns-in_err-ends g c =
    let r = g.R.PriceRule.rule c.args.rule.now in
    let law : Lawful r = record {
      asymmetric = g.met.R.PriceRule.asymmetric c.args.rule.now;
      transitive = g.met.R.PriceRule.transitive c.args.rule.now;
    } in
    let k = both_none r law c.args.indicative c.args.points.now c.from_residual.result c.from_residual.ensures (c.in_err-ends.ensures.joined [] refl) in
    record { value = k.0; meaning = k.1 }

pub returns : goal.returns
returns g c =
    let r = g.R.PriceRule.rule c.args.rule.now in
    let law : Lawful r = record {
      asymmetric = g.met.R.PriceRule.asymmetric c.args.rule.now;
      transitive = g.met.R.PriceRule.transitive c.args.rule.now;
    } in
    let k =
    both_some r law c.args.indicative c.args.points.now c.nearest_level.result c.in_ok-ends.ends c.target-target.result (c.in_ok-ends.ensures.joined [] refl) c.target-target.ensures (c.nearest_level.ensures.joined [] refl) in
    record { value = k.0; meaning = k.1 }
