use Rattle.std.proofs.Common.{◌∙◌}
use Rattle.model.specs.Auction.{trades_at}
use Rattle.grid.specs.Views.{plain}
use Rattle.striking.proofs.Going.{going_place, going_more}
use Rattle.striking.proofs.pairing.pair_orders.Goals as goal

pub trade-requires-clause-place : goal.trade-requires-clause-place
trade-requires-clause-place g c =
    let set = plain c.args.settings.now in
    let os = g.B.Book.orders c.args.book.now in
    going_place set c.args.price os c.args.tape.now (trades_at set c.args.price c.args.volume os) (g.B.Book.orders c.loop-met.book) c.loop-met.tape c.loop-met.remaining c.loop-met.last c.loop-met.invariant.0 c.in-Some.met c.in-Some.ensures c.requires

pub loop-met-preserved : goal.loop-met-preserved
loop-met-preserved g c =
    let set = plain c.args.settings.now in
    let os = g.B.Book.orders c.args.book.now in (
      going_more set c.args.price os c.args.tape.now (trades_at set c.args.price c.args.volume os) (g.B.Book.orders c.loop-met.book) c.loop-met.tape c.loop-met.remaining c.loop-met.last c.loop-met.invariant.0 c.in-Some.met (g.B.Book.orders c.trade.new.book) c.trade.new.tape c.in-Some.ensures c.trade.ensures.after c.trade.ensures.record,
      c.trade.ensures.room ∙ c.loop-met.invariant.1,
    )
