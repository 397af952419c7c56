use Rattle.std.proofs.Common.{refl}
use Rattle.ranked.proofs.Changes.{replaced}
use Rattle.ranked.proofs.sides.Sides.replace.Goals as goal

pub returns : goal.returns
returns c = replaced c.args.at.side c.args.self.now _ c.args.at.index c.args.order c.requires (record { rows = c.write_row.auto.rows; others = refl }) refl c.write_row.ensures
