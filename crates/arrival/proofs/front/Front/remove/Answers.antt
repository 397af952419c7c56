use Rattle.std.proofs.Common.{arith}
use Rattle.std.proofs.lemmas.List.{length-take-le}
use Rattle.arrival.proofs.Changing.{gap_closed}
use Rattle.arrival.proofs.front.Front.remove.Goals as goal

pub returns-clause-orders : goal.returns-clause-orders
returns-clause-orders c =
    let f = c.args.self.now in
    gap_closed f.rows.now c.rotate_left.new.self c.args.i f.count (omega (arith, length-take-le f.count f.rows.now (omega arith))) (omega arith) c.rotate_left.ensures.after
