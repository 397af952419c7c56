use Rattle.std.proofs.Common.{sym, ap, ◌∙◌, subst}
use Rattle.std.proofs.ByRecursion.{all_kept_by}
use Rattle.model.specs.Numbers.{max_number}
use Rattle.model.specs.Orders.{Standing}
use Rattle.model.specs.Rank.{ranked}
use Rattle.model.proofs.Ranking.{of_side, all_ranked}
use Rattle.book.specs.Bounds.{Bounded}
use Rattle.book.specs.Meaning.{place}
use Rattle.arrival.specs.Books.{standing_in, held_in}
use Rattle.arrival.specs.Checking.{checked}
use Rattle.arrival.proofs.Scanning.{checked_place}
use Rattle.arrival.proofs.arrival.ArrivalBookBook.nth.Goals as goal

pub nth_in_rank-requires : goal.nth_in_rank-requires
nth_in_rank-requires c = subst (λ os. Standing 0 os max_number) (sym c.orders.ensures) (held_in c.args.self.now).standing

pub returns : goal.returns
returns c =
    let b = c.args.self.now in
    let s = c.args.side in
    c.as_standing.ensures
    ∙ ap checked (c.nth_in_rank.ensures ∙ ap (λ os. place c.args.n (ranked s os)) c.orders.ensures)
    ∙ checked_place c.args.n (ranked s (standing_in b)) (all_ranked Bounded s (standing_in b) (all_kept_by (of_side s) Bounded (standing_in b) (held_in b).bounded))
