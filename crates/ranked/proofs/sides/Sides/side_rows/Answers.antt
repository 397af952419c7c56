use Rattle.std.proofs.Common.{◌-◌, length, refl, arith}
use Rattle.std.specs.List.{between}
use Rattle.ranked.specs.Views.{view}
use Rattle.ranked.specs.Queues.{queue}
use Rattle.ranked.proofs.Views.{last_rows}
use Rattle.ranked.proofs.sides.Sides.side_rows.Goals as goal

pub returns-in-Buy : goal.returns-in-Buy
unfolding queue view
returns-in-Buy c = rw c.in-Buy.is refl

pub returns-in-Sell : goal.returns-in-Sell
unfolding queue view
returns-in-Sell c =
    let h = c.args.self.now in
    let rows = h.rows.now in
    let from = c.capacity.result - h.sells in
    let f = h.fits in
    rw c.in-Sell.is (last_rows rows (between from (length rows) rows) from h.sells (omega (arith, c.capacity.ensures)) refl)
