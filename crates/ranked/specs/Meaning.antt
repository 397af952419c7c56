-- What a ranked book means.
use Rattle.std.specs.Prelude.{ℕ, List}
use Rattle.model.specs.declared.types.Order.{Order}
use Rattle.ranked.specs.Queues.{capacity_of}
use Rattle.ranked.specs.InRank.{meaning}
use Rattle.ranked.specs.declared.table.RankedBook.{RankedBook}

-- the standing orders, ascending by number
abbrev pub orders_in : RankedBook → List Order
orders_in b = meaning b.sides

-- how many orders may stand: a row for each
abbrev pub capacity_in : RankedBook → ℕ
capacity_in b = capacity_of b.sides
