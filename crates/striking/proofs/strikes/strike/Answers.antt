use Rattle.std.proofs.Common.{List, map, length, filter, ap, ◌∙◌, subst, arith}
use Rattle.model.specs.declared.types.Order.{Order}
use Rattle.model.specs.declared.types.Reason.TheVariants.{AfterAuction}
use Rattle.model.specs.declared.types.TapeRecord.{TapeRecord}
use Rattle.model.specs.Orders.{withdrawal}
use Rattle.model.specs.Auction.{trades_at, idle}
use Rattle.tape.specs.Tapes.{Recorded}
use Rattle.tape.proofs.Recording.{recorded_more, room_after}
use Rattle.grid.specs.Views.{plain as plain-settings}
use Rattle.striking.proofs.Struck.{length_struck, grid_price, after_turning}
use Rattle.striking.proofs.strikes.strike.Goals as goal

pub withdraw_markets-requires : goal.withdraw_markets-requires
withdraw_markets-requires g c =
    let set = plain-settings c.args.settings.now in
    let os : List Order = g.B.Book.orders c.args.book.now in
    let ts : List TapeRecord = trades_at set c.args.price c.args.volume os in
    let range = grid_price set c.args.price c.args.settings.now.indicative_low c.args.settings.now.absolute_high c.requires.grid in
    let pair = c.pair_orders-last in
    let turned = after_turning set c.args.price c.args.volume 999999999 os (g.B.Book.kept.standing c.args.book.now) range pair.result (g.B.Book.orders pair.new.book) (g.B.Book.orders c.turn_last.new.book) pair.ensures.last pair.ensures.after c.turn_last.ensures.after in
    omega (arith, c.requires.places, length_struck ts os, room_after c.args.tape.now pair.new.tape ts pair.ensures.records, ap length turned.1)

pub returns : goal.returns
returns g c =
    let set = plain-settings c.args.settings.now in
    let os : List Order = g.B.Book.orders c.args.book.now in
    let ts : List TapeRecord = trades_at set c.args.price c.args.volume os in
    let range = grid_price set c.args.price c.args.settings.now.indicative_low c.args.settings.now.absolute_high c.requires.grid in
    let pair = c.pair_orders-last in
    let turned = after_turning set c.args.price c.args.volume 999999999 os (g.B.Book.kept.standing c.args.book.now) range pair.result (g.B.Book.orders pair.new.book) (g.B.Book.orders c.turn_last.new.book) pair.ensures.last pair.ensures.after c.turn_last.ensures.after in
    let done = c.withdraw_markets.ensures in
    record {
      after = done.after ∙ turned.0;
      room = done.room ∙ c.turn_last.ensures.room ∙ pair.ensures.room;
      records = recorded_more c.args.tape.now pair.new.tape c.withdraw_markets.new.tape ts (map (withdrawal AfterAuction) (filter (idle ts) os)) pair.ensures.records (subst (λ l. Recorded pair.new.tape c.withdraw_markets.new.tape (map (withdrawal AfterAuction) l)) turned.1 done.records);
    }
