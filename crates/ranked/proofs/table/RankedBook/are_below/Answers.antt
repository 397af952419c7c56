use Rattle.std.proofs.Common.{◌&&◌, sym, ap, ◌∙◌}
use Rattle.std.proofs.lemmas.Bool.{lt-ltb}
use Rattle.model.specs.declared.types.Side.TheVariants.{Sell}
use Rattle.book.specs.Meaning.{all_below}
use Rattle.ranked.specs.Queues.{queue}
use Rattle.ranked.specs.InRank.{meaning}
use Rattle.ranked.proofs.Replies.{below_meaning}
use Rattle.ranked.proofs.Tops.{above_top}
use Rattle.ranked.proofs.table.RankedBook.are_below.Goals as goal

pub returns-then-number-self : goal.returns-then-number-self
returns-then-number-self c =
    let b = c.args.self.now in
    lt-ltb b.top c.args.number c.if-number-self.true ∙ sym (above_top b.top c.args.number (meaning b.sides) b.below c.if-number-self.true)

pub returns-then-are_below : goal.returns-then-are_below
returns-then-are_below c =
    let h = c.args.self.now.sides in
    let n = c.args.number in
    c.are_below-then-are_below.ensures ∙ sym (below_meaning h n ∙ ap (λ b. b && all_below (queue Sell h) n) (sym c.are_below.ensures ∙ c.if-are_below.true))

pub returns-else-are_below : goal.returns-else-are_below
returns-else-are_below c =
    let h = c.args.self.now.sides in
    let n = c.args.number in
    c.if-are_below.false ∙ sym (below_meaning h n ∙ ap (λ b. b && all_below (queue Sell h) n) (sym c.are_below.ensures ∙ c.if-are_below.false))
