use Rattle.std.proofs.Common.{sym, ◌∙◌}
use Rattle.ranked.proofs.Replies.{count_meaning}
use Rattle.ranked.proofs.operations.RankedBookBook.count.Goals as goal

pub returns : goal.returns
returns c = (c.count.ensures ∙ sym (count_meaning c.args.self.now.sides), c.capacity.ensures)
