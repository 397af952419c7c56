use Rattle.std.proofs.Common.{◌≡◌, length, Ok, ap, ◌∙◌, arith}
use Rattle.session.specs.Views.{state}
use Rattle.desk.proofs.Living.{lived}
use Rattle.desk.proofs.days.trade_day.Goals as goal

pub returns-clause-day : goal.returns-clause-day
returns-clause-day g c =
    let session = c.in_ok-session.session in
    let done : c.new.result ≡ Ok session = grind arith in
    let made_of = rw done at c.new.ensures in
    let ran = c.in_ok-calls.ensures in
    let end = c.day_end.ensures in
    lived (state g.B.Book.orders g.B.Book.capacity c.run.new.session) (length c.args.answers.now) c.day_end.result (ap g.R.PriceRule.rule made_of.3) made_of.1 ran.refusal.0 ran.ran (ran.laws made_of.4)
    (end.0 ∙ ran.refusal.1) end.1 end.2 end.3
