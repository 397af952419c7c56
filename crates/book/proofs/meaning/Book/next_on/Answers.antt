use Rattle.std.proofs.Common.{◌≡◌, None, refl, rules, subst, sym, ap, ◌∙◌, drop, arith}
use Rattle.model.specs.Numbers.{max_number}
use Rattle.model.specs.Rank.{ranked}
use Rattle.book.specs.Plain.{as_plain}
use Rattle.book.proofs.Nearest.{nearest, walks, next_on_side}
use Rattle.book.proofs.meaning.Book.next_on.Goals as goal

pub returns : goal.returns
returns g c =
    let n = c.args.number in
    let os = g.Self.Book.orders c.args.self.now in
    let range = c.map_while.ensures.source in
    let r = c.fold.ensures.ran in
    sym
    (subst (λ s. nearest n None (drop s.start (ranked c.args.side os)) ≡ as_plain c.fold.result) range
    (walks _ _ n c.args.side os _ _ (λ i x f k. search rules) (λ b x y p k. search rules) r.0 c.map_while.result r.2.1.0 r.2.0 (_, None) (r.1, c.fold.result) c.map_while.ensures.closure
    (omega (arith, ap (λ s. s.end) range, c.count-count.ensures.0)) refl r.2.1.1 r.2.1.2 r.3))
    ∙ next_on_side max_number n c.args.side os (g.Self.Book.kept.standing c.args.self.now)
