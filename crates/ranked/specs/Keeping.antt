-- A ranked book keeps what holds of every book.
use Rattle.std.specs.Prelude.{◌≡◌, suc, ◌+◌, ◌≤◌, List, [], ◌∷◌, length, refl}
use Rattle.std.proofs.Math.Logic.{∥∥₁_elim}
use Rattle.std.proofs.Common.{ap, arith, length-take}
use std.HLevel.{Π_prop}
use base.Stored.{Coded-set, coded_list}
use Rattle.std.proofs.lemmas.Bool.{cond_both}
use Rattle.model.specs.declared.types.Side.{Side}
use Rattle.model.specs.declared.types.Side.TheVariants.{Buy, Sell}
use Rattle.model.specs.declared.types.Order.{Order}
use Rattle.model.specs.contracts.types.Order.{the_row}
use Rattle.model.specs.Rank.{ranked}
use Rattle.book.specs.Meaning.{Kept}
use Rattle.rows.specs.Rows.{held_prop}
use Rattle.ranked.specs.ByNumber.{earlier, file, file_all}
use Rattle.ranked.specs.Views.{view}
use Rattle.ranked.specs.Queues.{queue}
use Rattle.ranked.specs.InRank.{meaning, InRank}
use Rattle.ranked.specs.Meaning.{orders_in, capacity_in}
use Rattle.ranked.specs.declared.sides.Sides.{Sides}
use Rattle.ranked.specs.declared.table.RankedBook.{RankedBook}

-- each queue is in rank in one way at most
ranks_prop : (h : Sides) → IsProp ((s : Side) → ranked s (meaning h) ≡ queue s h)
ranks_prop h = Π_prop (λ s. Coded-set (coded_list the_row.coded) (ranked s (meaning h)) (queue s h))

-- so that being in rank can be a fact of a struct
in_rank_prop : (h : Sides) → IsProp (InRank h)
in_rank_prop h p q = λ i. record { held = held_prop (meaning h) p.held q.held i; ranks = ranks_prop h p.ranks q.ranks i }

-- the queues of a book are in rank
pub rank_in : (b : RankedBook) → InRank b.sides
rank_in b = ∥∥₁_elim b.in_rank (in_rank_prop b.sides) (λ x. x)

-- a filed order is one more
length_file : (o : Order) (l : List Order) → length (file o l) ≡ suc (length l)
length_file o [] = refl
length_file o (x ∷ l) = cond_both (earlier o x) _ _ (λ k. length k ≡ suc (suc (length l))) (λ _. refl) (λ _. ap suc (length_file o l))

-- and so it is with many
length_file_all : (xs l : List Order) → length (file_all xs l) ≡ length xs + length l
length_file_all [] l = omega arith
length_file_all (x ∷ xs) l = let i = length_file_all xs l in let f = length_file x (file_all xs l) in omega arith

-- as many orders stand as the queues have
pub length_meaning : (h : Sides) → length (meaning h) ≡ length (queue Buy h) + length (queue Sell h)
unfolding meaning
length_meaning h = let a = length_file_all (queue Sell h) [] in omega (arith, a, length_file_all (queue Buy h) (file_all (queue Sell h) []))

-- no more orders stand than there are rows
fits_in : (b : RankedBook) → length (orders_in b) ≤ capacity_in b
unfolding queue
fits_in b =
    let h = b.sides in
    omega (arith, length_meaning h, length-take h.buys (view Buy h.rows.now), length-take h.sells (view Sell h.rows.now))

-- what holds of every ranked book
pub ranked_kept : Kept orders_in capacity_in
ranked_kept = record { standing = λ b. (rank_in b).held.standing; bounded = λ b. (rank_in b).held.bounded; fitting = fits_in; limited = λ b. b.sides.small }
