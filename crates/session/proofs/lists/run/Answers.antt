use Rattle.std.proofs.Common.{◌≡◌, leb, [], length, sym, ap, ◌∙◌, subst, arith}
use Rattle.std.proofs.lemmas.Bool.{cond-true, le-leb}
use Rattle.model.specs.Run.{calls_run, Ran}
use Rattle.model.specs.Lawful.{Lawful}
use Rattle.model.proofs.Running.{done}
use Rattle.model.proofs.Promise.{the_session_keeps_its_laws}
use Rattle.session.specs.Views.{state}
use Rattle.session.proofs.Turning.{again}
use Rattle.session.proofs.lists.run.Goals as goal

pub loop-i-preserved : goal.loop-i-preserved
loop-i-preserved g c = (
  let h = c.loop-i.invariant.0 in
      again h (ap (λ x. g.R.PriceRule.rule x.below) c.loop-i.invariant.1) _ c.loop-i-test.true (omega (arith, h.wide)) c.step.result _ _ _ c.from.result c.step.ensures.came c.step.ensures.scratch c.from.ensures,
  c.step.ensures.rule ∙ c.loop-i.invariant.1,
)

pub returns-clause-ran : goal.returns-clause-ran
returns-clause-ran g c =
    let cs = c.args.calls.now in
    let places = length c.args.answers.now in
    let view = state g.B.Book.orders g.B.Book.capacity in
    let all : calls_run places cs ≡ cs = cond-true (leb (length cs) places) cs [] (le-leb (length cs) places (omega arith)) in
    subst (λ l. Ran (g.R.PriceRule.rule c.args.session.now.rule.below) (length c.args.tape.now) (length c.args.scratch.now) (view c.args.session.now) (view c.loop-i.session) l c.args.answers.now c.loop-i.answers c.args.tape.now c.loop-i.tape c.args.scratch.now c.loop-i.scratch)
    (sym all) (done c.loop-i.invariant.0 c.loop-i-test.false (omega arith))

pub returns-clause-laws : goal.returns-clause-laws
returns-clause-laws g c =
    let rule = c.args.session.now.rule.below in
    let law : Lawful (g.R.PriceRule.rule rule) = record { asymmetric = g.met.R.PriceRule.asymmetric rule; transitive = g.met.R.PriceRule.transitive rule } in
    λ new. the_session_keeps_its_laws _ law _ _ _ new _
