-- Which price rules are lawful.
use Rattle.std.specs.Prelude.{◌≡◌, true, false, ◌||◌}
use Rattle.model.specs.Types.{Point}
use Rattle.model.specs.Rules.{Rule, nearest, middle, most_traded, least_surplus}

-- the two laws of a price rule: no two points go ahead of each other; and where one goes ahead of another, any third is behind the first or ahead of the second
pub record Lawful (r : Rule) : Type 0 where
  pub asymmetric : (a b : Point) → r.ahead a b ≡ true → r.ahead b a ≡ false
  pub transitive : (a b c : Point) → r.ahead a b ≡ true → (r.ahead a c || r.ahead c b) ≡ true

-- the rules of the markets are lawful, and so is each layer over a lawful rule
pub record RulesAreLawful : Type 0 where
  pub nearest_is : Lawful nearest
  pub middle_is : Lawful middle
  pub most_traded_is : (r : Rule) → Lawful r → Lawful (most_traded r)
  pub least_surplus_is : (r : Rule) → Lawful r → Lawful (least_surplus r)
