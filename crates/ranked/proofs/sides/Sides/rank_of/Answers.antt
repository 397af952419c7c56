use Rattle.std.proofs.Common.{◌≡◌, ◌-◌, Bool, true, false, not, reverse, sym, ap, ◌∙◌, subst, rules, arith}
use borrow.Author.Tests.{tests}
use Rattle.std.specs.List.{position_or_len}
use Rattle.std.specs.List.Sorted.{IsPartitionPoint, IsPartitionedBy}
use Rattle.std.proofs.lemmas.List.{length-reverse, reverse-reverse}
use Rattle.std.proofs.lemmas.List.Sorted.{IsPartitionPoint-from_clause}
use Rattle.model.specs.declared.types.Order.{Order}
use Rattle.model.specs.Rank.{before}
use Rattle.ranked.specs.Views.{view}
use Rattle.ranked.specs.Queues.{queue, Descends}
use Rattle.ranked.proofs.Halves.{parted, parted_back, place_from_front, place_from_back}
use Rattle.ranked.proofs.sides.Sides.rank_of.Goals as goal

pub returns-in-Buy : goal.returns-in-Buy
unfolding view
returns-in-Buy c =
    let o = c.args.order in
    let s = o.side in
    let k = c.partition_point.result in
    let xs = c.side_rows-rows.result.now in
    let e : queue s c.args.self.now ≡ xs = sym c.side_rows-rows.ensures ∙ ap (λ t. view t xs) c.in-Buy.is in
    let d : Descends s xs = subst (Descends s) e c.requires in
    place_from_front s o xs d k c.partition_point.ensures.bound (IsPartitionPoint-from_clause (λ x. not (before s o x)) xs k c.partition_point.ensures.partitioned (parted s o xs d) (λ a r f m. search (rules, tests)))
    ∙ ap (position_or_len (before s o)) (sym e)

pub returns-in-Sell : goal.returns-in-Sell
unfolding view
returns-in-Sell c =
    let o = c.args.order in
    let s = o.side in
    let k = c.partition_point-in-Sell.result in
    let xs = c.side_rows-rows.result.now in
    let e : queue s c.args.self.now ≡ reverse xs = sym c.side_rows-rows.ensures ∙ ap (λ t. view t xs) c.in-Sell.is in
    let d : Descends s (reverse xs) = subst (Descends s) e c.requires in
    let p : Order → Bool = before s o in
    let within = IsPartitionPoint-from_clause p xs k c.partition_point-in-Sell.ensures.partitioned (subst (IsPartitionedBy p) (reverse-reverse xs) (parted_back s o (reverse xs) d)) (λ a r f m. search (rules, tests)) in
    ap (λ n. n - k) (sym (length-reverse xs))
    ∙ place_from_back s o (reverse xs) d k (omega (arith, c.partition_point-in-Sell.ensures.bound, length-reverse xs)) (subst (λ l. IsPartitionPoint (λ x. p x ≡ true) (λ x. p x ≡ false) l k) (sym (reverse-reverse xs)) within)
    ∙ ap (position_or_len p) (sym e)
