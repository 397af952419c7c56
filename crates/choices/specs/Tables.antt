-- What a book in either table means, and that it keeps what every book keeps.
use Rattle.std.specs.Prelude.{ℕ, List}
use Rattle.model.specs.declared.types.Order.{Order}
use Rattle.book.specs.Meaning.{Kept}
use Rattle.arrival.specs.Books.{standing_in as arrived, capacity_of as arrival_room, arrival_kept}
use Rattle.ranked.specs.Meaning.{orders_in as in_rank, capacity_in as ranked_room}
use Rattle.ranked.specs.Keeping.{ranked_kept}
use Rattle.choices.specs.declared.table.Table.{Table}
use Rattle.choices.specs.declared.table.Table.TheVariants.{Arrival as InArrival, Ranked as InRanked}
use Rattle.choices.specs.declared.table.TableBook.{TableBook}
use Rattle.choices.specs.declared.table.TableBook.TheVariants.{Arrival, Ranked}

-- which table it is kept in
abbrev pub table_of : TableBook → Table
table_of (Arrival b) = InArrival
table_of (Ranked b) = InRanked

-- the orders that stand
abbrev pub standing_in : TableBook → List Order
standing_in (Arrival b) = arrived b
standing_in (Ranked b) = in_rank b

-- how many orders may stand
abbrev pub capacity_of : TableBook → ℕ
capacity_of (Arrival b) = arrival_room b
capacity_of (Ranked b) = ranked_room b

-- it keeps what every book keeps
pub tables_kept : Kept standing_in capacity_of
tables_kept = record {
  standing = elim [ Arrival b ↦ arrival_kept.standing b | Ranked b ↦ ranked_kept.standing b ];
  bounded = elim [ Arrival b ↦ arrival_kept.bounded b | Ranked b ↦ ranked_kept.bounded b ];
  fitting = elim [ Arrival b ↦ arrival_kept.fitting b | Ranked b ↦ ranked_kept.fitting b ];
  limited = elim [ Arrival b ↦ arrival_kept.limited b | Ranked b ↦ ranked_kept.limited b ];
}
