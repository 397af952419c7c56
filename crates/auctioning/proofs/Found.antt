-- The point that a call finds.
use Rattle.std.proofs.Common.{◌≡◌, ◌≤◌, List, Some, None, Option, subst, arith}
use Rattle.std.proofs.lemmas.Bool.Decides.{nat_tests}
use Rattle.model.specs.declared.types.Order.{Order}
use Rattle.model.specs.declared.types.Point.{Point}
use Rattle.model.specs.Grid.{Settings}
use Rattle.model.specs.Curve.{curve, traded}
use Rattle.model.specs.Rules.{Rule, most_traded, called}
use Rattle.model.specs.Lawful.{Lawful}
use Rattle.model.specs.Making.{Valid}
use Rattle.model.specs.Auction.{if_trades, call_price}
use Rattle.model.specs.Allocations.{Found}
use Rattle.model.proofs.Choice.{call_price_found}
use Rattle.auctioning.specs.Results.{Trades}

-- something trades at it
some_trades : (c : Option Point) (x : Point) → if_trades c ≡ Some x → 1 ≤ traded x
some_trades None x e = absurd cc
some_trades (Some y) x e = grind (arith, nat_tests)

-- and its price is on the grid
pub found_trades : (r : Rule) → Lawful r → (g : Settings) → Valid g → (os : List Order) (c : Option Point) → call_price r g os ≡ c → Trades g c
found_trades r law g valid os None e = tt
found_trades r law g valid os (Some x) e = ((subst (Found r g os) e (call_price_found r law g valid os)).on, some_trades (called (most_traded r) g.indicative (curve g os)) x e)
