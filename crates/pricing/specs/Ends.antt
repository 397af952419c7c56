-- The lowest and the highest best point, all at once and point by point.
use Rattle.std.specs.Prelude.{cond, List, [], ◌∷◌, fold, Some, None, Option, nat_lt}
use Rattle.model.specs.declared.types.Point.{Point}
use Rattle.model.specs.Rules.{Rule, best, lowest_of, highest_of}
use Rattle.pricing.specs.declared.choice.BestEnds.{BestEnds}

-- the lowest and the highest of some points
abbrev pub ends_of : List Point → Option BestEnds
ends_of [] = None
ends_of (p ∷ qs) = Some (record { lowest = lowest_of p qs; highest = highest_of p qs })

-- those of the best points
abbrev pub ends : Rule → List Point → Option BestEnds
ends r ps = ends_of (best r ps)

-- a point alone is both ends
abbrev pub alone : Point → BestEnds
alone p = record { lowest = p; highest = p }

-- the ends where p is one of the best points too
abbrev pub widened : BestEnds → Point → BestEnds
widened e p = record {
  lowest = cond (nat_lt p.price e.lowest.price) p e.lowest;
  highest = cond (nat_lt e.highest.price p.price) p e.highest;
}

-- the ends after one more point: one that goes ahead of them is alone, one behind them changes nothing, another joins them
abbrev pub ends_with : Rule → Option BestEnds → Point → BestEnds
ends_with r None p = alone p
ends_with r (Some e) p = cond (r.ahead p e.highest) (alone p) (cond (r.ahead e.highest p) e (widened e p))

-- the ends after some more points
abbrev pub ends_onward : Rule → Option BestEnds → List Point → Option BestEnds
ends_onward r e ps = fold (λ found p. Some (ends_with r found p)) e ps
