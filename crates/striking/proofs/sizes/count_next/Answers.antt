use Rattle.std.proofs.Common.{ℕ, ◌<◌, ◌≤◌, List, sym, ap, ◌∙◌, subst, arith}
use Rattle.model.specs.declared.types.Side.TheVariants.{Buy, Sell}
use Rattle.model.specs.declared.types.Order.{Order}
use Rattle.model.specs.Grid.{Settings}
use Rattle.model.specs.Auction.{pair, trades_at}
use Rattle.book.specs.Plain.{plain}
use Rattle.grid.specs.Views.{plain as plain-settings}
use Rattle.striking.specs.Counts.{spend, open_parties, open_trades, Counts, NextCount}
use Rattle.striking.proofs.Stepping.{pair_closed, pair_no_sells}
use Rattle.striking.proofs.Counting.{markets_fit, counts_more, remaining_less}
use Rattle.striking.proofs.sizes.count_next.Goals as goal

pub returns-then-tally-eq0 : goal.returns-then-tally-eq0
returns-then-tally-eq0 g c =
    let set : Settings = plain-settings c.args.settings.now in
    let os : List Order = g.B.Book.orders c.args.book.now in
    pair_closed c.args.price (open_parties set Buy c.args.price os c.args.tally.buys) (open_parties set Sell c.args.price os c.args.tally.sells) c.args.tally.remaining c.if-tally-eq0.true

pub returns-in_err-sell : goal.returns-in_err-sell
returns-in_err-sell g c =
    let set : Settings = plain-settings c.args.settings.now in
    let os : List Order = g.B.Book.orders c.args.book.now in
    let bs : List Order = open_parties set Buy c.args.price os c.args.tally.buys in
    subst (NextCount set c.args.price os c.args.tally) (sym c.from_residual-in_err-sell.ensures)
    (ap (λ l. pair c.args.price bs (spend c.args.tally.sells.spent l) c.args.tally.remaining) c.in_err-sell.ensures ∙ pair_no_sells c.args.price bs c.args.tally.remaining)

pub count-requires-clause-few : goal.count-requires-clause-few
count-requires-clause-few g c =
    let set : Settings = plain-settings c.args.settings.now in
    let p : ℕ = c.args.price in
    let os : List Order = g.B.Book.orders c.args.book.now in
    let ts = trades_at set p c.requires.0 os in
    let us = open_trades set p os c.args.tally in
    let kept = g.B.Book.kept in (
      omega (arith, markets_fit set Buy p os ts us c.args.tally.buys c.requires.2.buys, kept.fitting c.args.book.now, kept.limited c.args.book.now),
      omega (arith, markets_fit set Sell p os ts us c.args.tally.sells c.requires.2.sells, kept.fitting c.args.book.now, kept.limited c.args.book.now),
    )

pub returns : goal.returns
returns g c =
    let set : Settings = plain-settings c.args.settings.now in
    let p : ℕ = c.args.price in
    let os : List Order = g.B.Book.orders c.args.book.now in
    let b = c.in_ok-buy.buy in
    let s = c.in_ok-sell.sell in
    let st = g.B.Book.kept.standing c.args.book.now in
    let some : 1 ≤ c.args.tally.remaining = omega (arith, c.if-tally-eq0.false) in
    subst (λ d. ((v : ℕ) → Counts set p v os c.args.tally → Counts set p v os d) × (d.remaining < c.args.tally.remaining)) (sym c.count.ensures) (
      λ v h. counts_more set p v 999999999 os st c.args.tally b.place s.place (plain b.order) (plain s.order) c.in_ok-buy.ensures c.in_ok-sell.ensures h some,
      remaining_less set p c.requires.0 999999999 os st c.args.tally b.place s.place (plain b.order) (plain s.order) c.in_ok-buy.ensures c.in_ok-sell.ensures c.requires.2 some,
    )
