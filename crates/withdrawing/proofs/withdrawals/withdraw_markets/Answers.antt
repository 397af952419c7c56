use Rattle.std.proofs.Common.{sym, arith}
use Rattle.model.specs.Calls.{is_market_order}
use Rattle.withdrawing.proofs.Walk.{all_stay}
use Rattle.withdrawing.proofs.withdrawals.withdraw_markets.Goals as goal

pub returns-else-count-gt0-clause-after : goal.returns-else-count-gt0-clause-after
returns-else-count-gt0-clause-after g c = sym (all_stay is_market_order (g.B.Book.orders c.args.book.now) (omega (arith, c.count_markets-count.ensures, c.if-count-gt0.false)))
