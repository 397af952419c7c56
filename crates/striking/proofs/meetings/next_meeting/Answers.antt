use Rattle.std.proofs.Common.{List, sym, subst, arith}
use Rattle.model.specs.declared.types.Side.TheVariants.{Buy, Sell}
use Rattle.model.specs.declared.types.Order.{Order}
use Rattle.model.specs.Grid.{Settings}
use Rattle.model.specs.Auction.{at_price}
use Rattle.grid.specs.Views.{plain as plain-settings}
use Rattle.striking.specs.Parties.{Passed}
use Rattle.striking.specs.Meetings.{NextMeeting}
use Rattle.striking.proofs.Stepping.{pair_closed}
use Rattle.striking.proofs.Trading.{met, no_trades}
use Rattle.striking.proofs.meetings.next_meeting.Goals as goal

pub returns-then-volume-eq0 : goal.returns-then-volume-eq0
returns-then-volume-eq0 g c =
    let set : Settings = plain-settings c.args.settings.now in
    let os : List Order = g.B.Book.orders c.args.book.now in
    pair_closed c.args.price (at_price set Buy c.args.price os) (at_price set Sell c.args.price os) c.args.volume c.if-volume-eq0.true

pub returns-in_err-buy : goal.returns-in_err-buy
returns-in_err-buy g c =
    let set : Settings = plain-settings c.args.settings.now in
    let os : List Order = g.B.Book.orders c.args.book.now in
    subst (NextMeeting set c.args.price c.args.volume os) (sym c.from_residual.ensures)
    (no_trades set c.args.price c.args.volume os c.reached.result Buy (subst (Passed set Buy os) (sym c.reached.ensures) c.requires.buys) c.in_err-buy.ensures)

pub returns-in_err-sell : goal.returns-in_err-sell
returns-in_err-sell g c =
    let set : Settings = plain-settings c.args.settings.now in
    let os : List Order = g.B.Book.orders c.args.book.now in
    subst (NextMeeting set c.args.price c.args.volume os) (sym c.from_residual-in_err-sell.ensures)
    (no_trades set c.args.price c.args.volume os c.reached-2.result Sell (subst (Passed set Sell os) (sym c.reached-2.ensures) c.requires.sells) c.in_err-sell.ensures)

pub returns : goal.returns
returns g c =
    let set : Settings = plain-settings c.args.settings.now in
    let os : List Order = g.B.Book.orders c.args.book.now in
    met set c.args.price c.args.volume 999999999 os (g.B.Book.kept.standing c.args.book.now) c.reached.result c.reached-2.result c.in_ok-buy.buy c.in_ok-sell.sell (subst (Passed set Buy os) (sym c.reached.ensures) c.requires.buys) (subst (Passed set Sell os) (sym c.reached-2.ensures) c.requires.sells) c.in_ok-buy.ensures c.in_ok-sell.ensures (omega (arith, c.if-volume-eq0.false)) _ (omega arith)
