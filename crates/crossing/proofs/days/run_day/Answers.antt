use Rattle.std.proofs.Common.{◌≡◌, [], Ok, ap, ◌∙◌, arith}
use Rattle.model.specs.Making.{make_refusal}
use Rattle.grid.specs.Views.{offered}
use Rattle.session.specs.Views.{state}
use Rattle.crossing.specs.Shown.{orders_shown}
use Rattle.crossing.proofs.Trading.{traded, refilled}
use Rattle.crossing.proofs.days.run_day.Goals as goal

pub returns-clause-day : goal.returns-clause-day
returns-clause-day g c =
    let session = c.in_ok-session.session in
    let done : c.new.result ≡ Ok session = grind arith in
    let made_of = rw (done, c.requires) at c.new.ensures in
    let lent = c.args.memory.now in
    let after = c.run-outcome.new in
    let kept = c.run-outcome.auto in
    traded (state g.B.Book.orders g.B.Book.capacity after.session) (make_refusal (offered c.args.terms) c.args.terms.last_number []) made_of.0 (ap g.R.PriceRule.rule made_of.3) made_of.1
    c.deref.ensures.value c.deref_mut.ensures.value c.deref_mut-2.ensures.value c.deref_mut-3.ensures.value c.run-outcome.ensures.ran
    (refilled lent.answers.len after.answers lent.answers.items (kept.answers ∙ c.deref_mut.ensures.len))
    (refilled lent.tape.len after.tape lent.tape.items (kept.tape ∙ c.deref_mut-2.ensures.len))
    (refilled lent.scratch.len after.scratch lent.scratch.items (kept.scratch ∙ c.deref_mut-3.ensures.len))
    (c.show_orders.ensures ∙ ap (λ book. orders_shown (g.B.Book.orders book) c.args.standing.now) c.book.ensures)
    c.from.ensures
