use Rattle.model.specs.Numbers.{max_number}
use Rattle.book.specs.Plain.{as_plain}
use Rattle.book.proofs.Nearest.{after_both}
use Rattle.book.proofs.meaning.Book.after.Goals as goal

pub returns : goal.returns
returns g c =
    after_both max_number c.args.number (g.Self.Book.orders c.args.self.now) (as_plain c.next_on-buy.result) (as_plain c.next_on-sell.result) (as_plain c.lower_numbered.result)
    (g.Self.Book.kept.standing c.args.self.now)
    c.next_on-buy.ensures
    c.next_on-sell.ensures
    c.lower_numbered.ensures
