-- The points as good as a best one, and the nearest of them to a target.
use Rattle.std.specs.Prelude.{ℕ, cond, not, List, [], ◌∷◌, fold, Some, None, filter, Option}
use Rattle.model.specs.declared.types.Point.{Point}
use Rattle.model.specs.Rules.{Rule, nearer, pick}

-- the points that b does not go ahead of
abbrev pub level_with : Rule → Point → List Point → List Point
level_with r b ps = filter (λ p. not (r.ahead b p)) ps

-- the nearest of some points to a target
abbrev pub nearest_among : ℕ → List Point → Option Point
nearest_among t [] = None
nearest_among t (p ∷ qs) = Some (pick t p qs)

-- the nearest after one more point
abbrev pub nearest_with : ℕ → Option Point → Point → Point
nearest_with t None p = p
nearest_with t (Some x) p = cond (nearer t p x) p x

-- the nearest of what was found earlier and some more points
abbrev pub nearest_onward : ℕ → Option Point → List Point → Option Point
nearest_onward t earlier ps = fold (λ found p. Some (nearest_with t found p)) earlier ps
