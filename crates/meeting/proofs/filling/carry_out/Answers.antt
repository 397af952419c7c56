use Rattle.std.proofs.Common.{◌∙◌}
use Rattle.meeting.proofs.Filled.{has_room, less, left_after, ends}
use Rattle.meeting.proofs.filling.carry_out.Goals as goal

pub write-requires : goal.write-requires
write-requires g c = has_room c.fills.invariant.left c.in-Trade.ensures (g.B.Book.kept.standing c.fills.book)

pub fills-smaller : goal.fills-smaller
fills-smaller g c = less c.fills.invariant.left c.in-Trade.ensures (g.B.Book.kept.standing c.fills.book) c.min-quantity.result c.min-quantity.ensures

pub fills-preserved : goal.fills-preserved
fills-preserved g c =
    let took = c.take.ensures in
    record {
      left = left_after c.fills.invariant.left c.in-Trade.ensures (g.B.Book.kept.standing c.fills.book) c.min-quantity.result c.min-quantity.ensures c.take.result took.answer (g.B.Book.orders c.take.new.self) took.after c.trade.result c.trade.ensures c.write.new.self c.write.ensures;
      capacity = took.room ∙ c.fills.invariant.capacity;
    }

pub returns : goal.returns
returns g c =
    let done = ends c.fills.invariant.left c.next_met.result c.next_met.ensures c.in_default.not-Trade in
    record { orders = done.0; capacity = c.fills.invariant.capacity; tape = done.1 }
