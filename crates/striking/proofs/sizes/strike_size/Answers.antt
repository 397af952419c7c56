use Rattle.std.proofs.Common.{sym, subst, arith}
use Rattle.grid.specs.Views.{plain as plain-settings}
use Rattle.striking.specs.Counts.{Counts}
use Rattle.striking.proofs.Counting.{counts_start, counts_done}
use Rattle.striking.proofs.sizes.strike_size.Goals as goal

pub loop-next-init : goal.loop-next-init
loop-next-init g c =
    let set = plain-settings c.args.settings.now in
    let os = g.B.Book.orders c.args.book.now in
    subst (Counts set c.args.price c.args.volume os) (sym c.new-tally.ensures) (counts_start set c.args.price c.args.volume os)

pub size-requires : goal.size-requires
size-requires g c =
    let done = counts_done (plain-settings c.args.settings.now) c.args.price c.args.volume (g.B.Book.orders c.args.book.now) c.loop-next.tally c.loop-next.invariant c.in_default.ensures in
    omega (arith, done.1, c.count_markets.ensures)

pub returns-clause-idle : goal.returns-clause-idle
returns-clause-idle g c =
    let done = counts_done (plain-settings c.args.settings.now) c.args.price c.args.volume (g.B.Book.orders c.args.book.now) c.loop-next.tally c.loop-next.invariant c.in_default.ensures in
    omega (arith, done.1, c.count_markets.ensures, c.size.ensures.idle)
