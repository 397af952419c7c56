-- The rule that each choice stands for.
use Rattle.model.specs.Rules.{Rule, nearest, middle, least_surplus}
use Rattle.choices.specs.declared.rules.Rule.{Rule as Choice}
use Rattle.choices.specs.declared.rules.Rule.TheVariants.{Nearest, Balanced}

-- the nearest price, or the least surplus and then the middle
abbrev pub chosen : Choice → Rule
chosen Nearest = nearest
chosen Balanced = least_surplus middle
