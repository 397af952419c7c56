use Rattle.std.proofs.Common.{◌≡◌}
use Rattle.model.specs.Trading.{trade_of}
use Rattle.grid.specs.Views.{plain}
use Rattle.meeting.proofs.Filled.{Left}
use Rattle.meeting.proofs.filling.carry_out.Given as goal

-- what is left to carry out gives what the whole was to give
abbrev pub invariant-fills : goal.invariant-fills
invariant-fills g l =
    record {
      left : Left (plain l.settings) l.reference l.entry.side l.entry.price (trade_of l.entry.side l.number) l.entry.quantity (g.B.Book.orders l.initial.book) l.initial.tape l.remaining (g.B.Book.orders l.book) l.tape l.from;
      capacity : g.B.Book.capacity l.book ≡ g.B.Book.capacity l.initial.book;
    }

abbrev pub decreases-fills : goal.decreases-fills
decreases-fills g l = l.remaining
