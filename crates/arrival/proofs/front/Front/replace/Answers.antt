use Rattle.std.proofs.Common.{arith}
use lib.Seq.{take-set-lt}
use Rattle.std.proofs.lemmas.List.{length-take-le}
use Rattle.arrival.proofs.front.Front.replace.Goals as goal

pub returns-clause-orders : goal.returns-clause-orders
returns-clause-orders c =
    let f = c.args.self.now in
    take-set-lt f.count f.rows.now c.args.i c.args.order (omega (arith, length-take-le f.count f.rows.now (omega arith)))
