use Rattle.std.proofs.Common.{◌≡◌}
use Rattle.model.specs.Auction.{trades_at}
use Rattle.grid.specs.Views.{plain}
use Rattle.striking.proofs.Going.{Going}
use Rattle.striking.proofs.pairing.pair_orders.Given as goal

abbrev pub invariant-loop-met : goal.invariant-loop-met
invariant-loop-met g l =
    let start = g.B.Book.orders l.initial.book in
    Going (plain l.settings) l.price (trades_at (plain l.settings) l.price l.volume start) start (g.B.Book.orders l.book) l.initial.tape l.tape l.remaining l.last
    × (g.B.Book.capacity l.book ≡ g.B.Book.capacity l.initial.book)

abbrev pub decreases-loop-met : goal.decreases-loop-met
decreases-loop-met g l = l.remaining
