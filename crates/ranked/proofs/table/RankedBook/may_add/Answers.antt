use Rattle.std.proofs.Common.{arith}
use Rattle.std.proofs.lemmas.Bool.Decides.{nat_tests}
use Rattle.ranked.proofs.Replies.{count_meaning}
use Rattle.ranked.proofs.table.RankedBook.may_add.Goals as goal
use Rattle.ranked.proofs.table.RankedBook.may_add.Goals.{then-count-capacity, else-count-capacity}

pub returns-then-order-gt0 : goal.returns-then-order-gt0
returns-then-order-gt0 c = let n = count_meaning c.args.self.now.sides in grind (arith, nat_tests)

pub returns-else-order-gt0 : goal.returns-else-order-gt0
returns-else-order-gt0 c =
    let n = count_meaning c.args.self.now.sides in
    elim c.if-count-capacity.branch [ then-count-capacity w ↦ grind (arith, nat_tests) | else-count-capacity w ↦ grind (arith, nat_tests) ]
