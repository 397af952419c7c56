use Rattle.std.proofs.Common.{ap, ◌∙◌}
use Rattle.book.specs.Plain.{as_plain}
use Rattle.book.proofs.Admitting.{admitted}
use Rattle.ranked.specs.Keeping.{rank_in}
use Rattle.ranked.proofs.Replies.{nth_some, nth_none}
use Rattle.ranked.proofs.operations.RankedBookBook.nth.Goals as goal

pub returns-in_err-nth : goal.returns-in_err-nth
returns-in_err-nth c =
    let b = c.args.self.now in
    ap as_plain c.from_residual.ensures ∙ nth_none b.sides c.args.side c.args.n (rank_in b) c.in_err-nth.ensures

pub returns : goal.returns
returns c =
    let b = c.args.self.now in
    let x = c.in_ok-nth.field-0 in
    nth_some b.sides c.args.side c.args.n (rank_in b) x (as_plain c.ok.result) c.in_ok-nth.ensures
    (admitted x c.try_from.result c.ok.result c.try_from.ensures c.ok.ensures.value)
