use Rattle.std.proofs.Common.{◌≡◌, ◌+◌, sym, ◌∙◌, arith}
use Rattle.std.proofs.lemmas.Option.{none-some}
use Rattle.model.specs.Numbers.{max_number}
use Rattle.model.specs.Rank.{ranked}
use Rattle.model.proofs.Standing.{standing_distinct}
use Rattle.book.specs.Meaning.{place}
use Rattle.arrival.proofs.InRank.{next_place, place_past, place_beyond}
use Rattle.arrival.proofs.ranks.nth_in_rank.Goals as goal
use Rattle.arrival.proofs.ranks.nth_in_rank.Goals.{at-returns-in_err-first_behind, at-loop-preserved, After-first_behind}

-- one scan finds the next order
next : (c : goal.After-first_behind) → c.first_behind.result ≡ place (c.loop.counter + 1) (ranked c.args.side c.args.orders.now)
next c =
    c.first_behind.ensures
    ∙ next_place c.args.side c.args.orders.now c.loop.counter c.loop.at (standing_distinct 0 max_number c.args.orders.now c.requires) c.loop.invariant.here c.loop.invariant.begun

pub loop-preserved : goal.loop-preserved
loop-preserved c = record { here = sym (c.in_ok-first_behind.was) ∙ next (at-loop-preserved c).After-first_behind; begun = λ e. absurd (none-some _ (sym e)) }

pub returns-in_err-first_behind : goal.returns-in_err-first_behind
returns-in_err-first_behind c =
    c.from_residual.ensures
    ∙ place_past (ranked c.args.side c.args.orders.now) c.loop.counter c.args.n (sym (c.in_err-first_behind.was) ∙ next (at-returns-in_err-first_behind c).After-first_behind) c.loop-test.true

pub returns-then-n-orders : goal.returns-then-n-orders
returns-then-n-orders c = place_beyond c.args.side c.args.orders.now c.args.n (omega arith)
