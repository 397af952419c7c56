use Rattle.std.proofs.Common.{◌≡◌, filter, rules, ◌∙◌}
use Rattle.std.specs.List.{reduce}
use Rattle.model.specs.Numbers.{max_number}
use Rattle.model.proofs.Standing.{standing_distinct}
use Rattle.arrival.proofs.InRank.{counts, earlier, scan_best}
use Rattle.arrival.proofs.ranks.first_behind.Goals as goal

pub returns : goal.returns
returns c =
    let best : c.reduce.result ≡ reduce (earlier c.args.side) (filter (counts c.args.side c.args.from) c.args.orders.now) = search rules in
    best ∙ scan_best c.args.side c.args.from c.args.orders.now (standing_distinct 0 max_number c.args.orders.now c.requires)
