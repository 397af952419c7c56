use Rattle.std.proofs.Common.{◌≡◌, length, is_err, sym, ap, ◌∙◌, subst}
use Rattle.std.proofs.lemmas.Bool.{cond-true, cond-false}
use Rattle.model.specs.Rules.{Rule}
use Rattle.model.specs.State.{State}
use Rattle.session.specs.Tokens.{PricedToken}
use Rattle.session.specs.Views.{state}
use Rattle.session.proofs.Auctions.{ended, auction_ended}
use Rattle.session.proofs.session.Session.auctioned.Goals as goal
use Rattle.session.proofs.session.Session.auctioned.Goals.{then-is_err, else-is_err}

pub returns-clause-came : goal.returns-clause-came
returns-clause-came g c =
    let view = state g.B.Book.orders g.B.Book.capacity in
    let r : Rule = g.R.PriceRule.rule c.args.self.now.rule.below in
    let s : State = view c.args.self.now in
    let s₁ : State = view c.call.new.self in
    let s₂ : State = view c.strike-struck.new.self in
    let called = c.in_ok-called.ensures in
    let struck = c.strike-struck.result in
    let end : view c.if-is_err.self ≡ ended s₂ c.strike-struck.new.called struck =
    elim c.if-is_err.branch [
      | then-is_err w ↦ ap view w.self-is ∙ w.put_back.ensures.state ∙ sym (cond-true (is_err struck) _ _ (sym c.is_err.ensures.value ∙ w.if-is_err.true))
      | else-is_err w ↦ ap view w.self-is ∙ sym (cond-false (is_err struck) _ _ (sym c.is_err.ensures.value ∙ w.if-is_err.false))
    ] in
    auction_ended r s (length c.args.scratch.now) c.args.tape.now s₁ c.call.new.tape c.in-Some.called (subst (PricedToken r s s₁) c.in-Some.is called.token) called.came
    s₂ c.strike-struck.new.tape struck c.strike-struck.ensures.came c.strike-struck.new.called c.strike-struck.ensures.token (view c.if-is_err.self) c.requires end
