use Rattle.std.proofs.Common.{◌≡◌, length}
use Rattle.model.proofs.Running.{Sofar}
use Rattle.session.specs.Views.{state}
use Rattle.session.proofs.lists.run.Given as goal

-- what is left of the calls gives what the whole list was to give
abbrev pub invariant-loop-i : goal.invariant-loop-i
invariant-loop-i g l =
    let view = state g.B.Book.orders g.B.Book.capacity in
    let rule = g.R.PriceRule.rule l.initial.session.rule.below in
    (Sofar rule (length l.initial.tape) (length l.initial.scratch) (view l.initial.session) (view l.session) l.calls l.i l.initial.answers l.answers l.initial.tape l.tape l.initial.scratch l.scratch)
    × (l.session.rule ≡ l.initial.session.rule)
