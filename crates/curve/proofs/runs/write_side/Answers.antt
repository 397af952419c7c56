use Rattle.std.proofs.Common.{sym, ap, ◌∙◌, arith}
use Rattle.model.specs.Rank.{ranked}
use Rattle.grid.specs.Views.{plain}
use Rattle.curve.specs.Runs.{place_in_turn}
use Rattle.curve.proofs.Counting.{started}
use Rattle.curve.proofs.Writing.{written_none, written_more, written_all}
use Rattle.curve.proofs.runs.write_side.Goals as goal

pub loop-turn-init : goal.loop-turn-init
loop-turn-init g c =
    let settings = plain c.args.run.now.settings.now in
    let os = g.B.Book.orders c.args.book.now in
    let r = started settings c.args.side os c.first_active.result c.first_active.ensures in
    (r.0, written_none settings c.args.side (ranked c.args.side os) c.args.run.now.from c.args.points.now _ r.1)

pub loop-turn-preserved : goal.loop-turn-preserved
loop-turn-preserved g c = (
  c.reach.ensures.counted,
  written_more (plain c.args.run.now.settings.now) c.args.side (ranked c.args.side (g.B.Book.orders c.args.book.now)) c.args.run.now.from c.args.points.now c.loop-turn.turn c.loop-turn.mark c.loop-turn.points c.loop-turn.invariant.1 (omega (arith, c.requires, c.loop-turn-test.true))
      c.loop-turn.auto.points c.place_in_turn-i.result (c.place_in_turn-i.ensures.value ∙ ap (λ n. place_in_turn c.args.side n c.loop-turn.turn) (sym c.requires)) (omega (arith, c.requires, c.place_in_turn-i.ensures.within)) c.price_at-price.result c.price_at-price.ensures c.reach.new.mark c.reach.ensures.reached
      _ c.with_volume.result c.with_volume.ensures,
)

pub returns : goal.returns
returns g c = written_all (plain c.args.run.now.settings.now) c.args.side (g.B.Book.orders c.args.book.now) c.args.run.now.from c.args.points.now c.loop-turn.turn c.loop-turn.mark c.loop-turn.points c.loop-turn.invariant.1 (omega (arith, c.requires, c.loop-turn-test.false))
