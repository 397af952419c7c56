use Rattle.std.proofs.Common.{arith}
use Rattle.model.specs.Calls.{is_market_order}
use Rattle.model.proofs.Lengths.{kept_sides, length_kept_le}
use Rattle.withdrawing.proofs.counting.count_markets.Goals as goal

pub overflow_add-result : goal.overflow_add-result
overflow_add-result g c =
    let book = c.args.book.now in
    let os = g.B.Book.orders book in
    omega (arith, kept_sides is_market_order os, length_kept_le is_market_order os, g.B.Book.kept.fitting book, g.B.Book.kept.limited book)

pub returns : goal.returns
returns g c = omega (arith, kept_sides is_market_order (g.B.Book.orders c.args.book.now))
