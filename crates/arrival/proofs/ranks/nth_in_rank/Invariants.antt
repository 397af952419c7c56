use Rattle.std.proofs.Common.{◌≡◌, None}
use Rattle.model.specs.Rank.{ranked}
use Rattle.book.specs.Meaning.{place}
use Rattle.arrival.proofs.ranks.nth_in_rank.Given as goal

-- the order of that place is at hand, and only before the first there is none
abbrev pub invariant-loop : goal.invariant-loop
invariant-loop l = record { here : l.at ≡ place l.counter (ranked l.side l.orders); begun : l.at ≡ None → l.counter ≡ 0 }
