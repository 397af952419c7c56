use Rattle.std.proofs.Common.{rules, sym, refl, ◌∙◌}
use Rattle.model.specs.Numbers.{max_number}
use Rattle.withdrawing.proofs.Markets.{markets_passed}
use Rattle.withdrawing.proofs.counting.markets_on.Goals as goal

pub returns : goal.returns
returns g c =
    let h = c.position.ensures.ran in
    let os = g.B.Book.orders c.args.book.now in
    c.unwrap_or.ensures ∙ markets_passed _ max_number c.args.side os (g.B.Book.kept.standing c.args.book.now) _ (λ i b f k. search rules) h.0 (record { start = 0; end = c.count-count.result.0 }) h.3.0 _ h.1 c.position.result h.2 refl (sym c.count-count.ensures.0) h.3.1 h.3.2 h.4 h.5
