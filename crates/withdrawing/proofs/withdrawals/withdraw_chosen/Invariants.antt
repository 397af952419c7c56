use Rattle.std.proofs.Common.{◌≡◌, ◌-◌}
use Rattle.model.specs.Numbers.{max_number}
use Rattle.model.specs.Orders.{withdrawal}
use Rattle.withdrawing.proofs.Walk.{Walk}
use Rattle.withdrawing.proofs.withdrawals.withdraw_chosen.Given as goal

abbrev pub invariant-loop-order : goal.invariant-loop-order
invariant-loop-order g l =
    Walk g.C.Choice.chosen (withdrawal l.reason) (g.B.Book.orders l.initial.book) l.initial.tape (g.B.Book.orders l.book) l.tape l.last
    × (g.B.Book.capacity l.book ≡ g.B.Book.capacity l.initial.book)

abbrev pub decreases-loop-order : goal.decreases-loop-order
decreases-loop-order g l = max_number - l.last
