use Rattle.std.proofs.Common.{rules, subst, ap, arith}
use Rattle.model.specs.Rank.{ranked}
use Rattle.grid.specs.Views.{plain}
use Rattle.walking.proofs.Walking.{walks}
use Rattle.walking.specs.Walks.{Next}
use Rattle.walking.proofs.first_active.Goals as goal

pub returns : goal.returns
returns g c =
    let h = c.find.ensures.ran in
    let gs = plain c.args.settings.now in
    let os = g.B.Book.orders c.args.book.now in
    let range = c.map_while.ensures.source in
    subst (λ r. Next gs (ranked c.args.side os) r.start c.find.result) range
    (walks _ _ gs c.args.side os _ _ (λ i r f k. search rules) (λ y b p k. search rules) h.0 c.map_while.result h.2.0 _ c.find.result h.1 c.map_while.ensures.closure
    (omega (arith, ap (λ r. r.end) range, c.count-count.ensures.0)) h.2.1 h.2.2 h.3 h.4)
