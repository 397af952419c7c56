use Rattle.std.proofs.Common.{sym, ap, ◌∙◌}
use Rattle.book.specs.Plain.{as_plain}
use Rattle.book.proofs.Admitting.{admitted}
use Rattle.ranked.specs.Keeping.{rank_in}
use Rattle.ranked.proofs.Found.{stands, found, missing, checked}
use Rattle.ranked.proofs.operations.RankedBookBook.find.Goals as goal

pub returns-in_err-at : goal.returns-in_err-at
returns-in_err-at c = ap as_plain c.from_residual.ensures ∙ sym (missing c.args.self.now.sides c.args.number c.in_err-at.ensures)

pub returns : goal.returns
returns c =
    let b = c.args.self.now in
    let p = c.in_ok-at.at in
    let x = c.at.result in
    let here = stands b.sides c.args.number p x (rank_in b) c.in_ok-at.ensures c.at.ensures in
    admitted x c.try_from.result c.ok.result c.try_from.ensures c.ok.ensures.value
    ∙ checked b.sides p.side p.index x (rank_in b) here.within c.at.ensures
    ∙ sym (found b.sides c.args.number p x here)
