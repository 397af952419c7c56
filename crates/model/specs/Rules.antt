-- How a price rule chooses one price.
use Rattle.std.specs.Prelude.{ℕ, ◌+◌, ◌-◌, ◌*◌, Bool, false, cond, not, ◌&&◌, ◌||◌, ltb, List, [], ◌∷◌, Some, None, filter, Option, ◌==◌, nat_lt}
use Rattle.model.specs.Types.{Point}
use Rattle.model.specs.Curve.{traded, surplus}

-- which of two points goes ahead, and a target, which is a doubled price, from the lowest and the highest best point and the indicative price
pub record Rule : Type 0 where
  pub ahead : Point → Point → Bool
  pub target : Point → Point → ℕ → ℕ

-- nothing goes ahead, and the target is twice the indicative price, since targets are doubled prices
abbrev pub nearest : Rule
nearest = record { ahead = λ a b. false; target = λ lo hi i. 2 * i }

-- nothing goes ahead, and the target is twice the highest best price where demand exceeds supply at both ends, twice the lowest where supply exceeds demand at both, else the sum of both, which is twice their middle
abbrev pub middle : Rule
middle = record {
  ahead = λ a b. false;
  target = λ lo hi i.
      cond (nat_lt lo.supply lo.demand && nat_lt hi.supply hi.demand) (2 * hi.price)
      (cond (nat_lt lo.demand lo.supply && nat_lt hi.demand hi.supply) (2 * lo.price) (lo.price + hi.price));
}

-- a layer over a rule: points that are equal by its test go to the rule below, whose target it passes on
abbrev pub over : (Point → Point → Bool) → Rule → Rule
over first below = record {
  ahead = λ a b. first a b || (not (first b a) && below.ahead a b);
  target = below.target;
}

-- the point that trades more goes ahead
abbrev pub most_traded : Rule → Rule
most_traded = over (λ a b. ltb (traded b) (traded a))

-- the point with the smaller surplus goes ahead
abbrev pub least_surplus : Rule → Rule
least_surplus = over (λ a b. ltb (surplus a) (surplus b))

-- some element passes a test
abbrev pub any : {X : Type 0} → (X → Bool) → List X → Bool
any p [] = false
any p (x ∷ xs) = p x || any p xs

-- the points that no point goes ahead of
abbrev pub best : Rule → List Point → List Point
best r ps = filter (λ p. not (any (λ q. r.ahead q p) ps)) ps

-- how far apart two numbers are
abbrev pub distance : ℕ → ℕ → ℕ
distance a b = (a - b) + (b - a)

-- a's doubled price is nearer the target than b's, or as near and higher
abbrev pub nearer : ℕ → Point → Point → Bool
nearer target a b = nat_lt (distance (2 * a.price) target) (distance (2 * b.price) target) || (distance (2 * a.price) target == distance (2 * b.price) target && nat_lt b.price a.price)

-- the nearest of some points
abbrev pub pick : ℕ → Point → List Point → Point
pick target p [] = p
pick target p (q ∷ qs) = pick target (cond (nearer target q p) q p) qs

-- the lowest of some points
abbrev pub lowest_of : Point → List Point → Point
lowest_of p [] = p
lowest_of p (q ∷ qs) = lowest_of (cond (nat_lt q.price p.price) q p) qs

-- the highest of some points
abbrev pub highest_of : Point → List Point → Point
highest_of p [] = p
highest_of p (q ∷ qs) = highest_of (cond (nat_lt p.price q.price) q p) qs

-- the target of a choice among the best points, from the lowest and the highest of them
abbrev pub target_among : Rule → ℕ → List Point → ℕ
target_among r i [] = 0
target_among r i (p ∷ qs) = r.target (lowest_of p qs) (highest_of p qs) i

-- of the best points, the nearest to the target
abbrev pub choose : Rule → ℕ → List Point → Option Point
choose r i [] = None
choose r i (p ∷ qs) = Some (pick (target_among r i (p ∷ qs)) p qs)

-- the called price with its point: the best one nearest the target
abbrev pub called : Rule → ℕ → List Point → Option Point
called r i ps = choose r i (best r ps)
