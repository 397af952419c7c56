use Rattle.std.proofs.Common.{rules, arith}
use Rattle.grid.specs.Views.{plain}
use Rattle.striking.proofs.Walked.{first_passing}
use Rattle.striking.proofs.parties.first_party.Goals as goal

pub returns : goal.returns
returns g c =
    let book = c.args.book.now in
    let kept = g.B.Book.kept in
    first_passing (plain c.args.settings.now) c.args.side c.args.price 999999999 (g.B.Book.orders book) c.args.from c.first_active.result c.filter.result _ (kept.standing book) (omega (arith, kept.fitting book, kept.limited book)) c.first_active.ensures (λ f b k. search rules) c.filter.ensures
