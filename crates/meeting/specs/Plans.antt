-- What an order meets, and what its plan says of it.
use Rattle.std.specs.Prelude.{◌≡◌, ℕ, ◌+◌, ◌-◌, min, false, cond, List, [], ◌∷◌, length, Some, None, Option, nat_le}
use Rattle.model.specs.declared.types.Side.{Side}
use Rattle.model.specs.declared.types.OrderPrice.{OrderPrice}
use Rattle.model.specs.declared.types.Order.{Order}
use Rattle.model.specs.Grid.{Settings, within}
use Rattle.model.specs.Rank.{opposite}
use Rattle.model.specs.Trading.{limit, Fill, Met, meet, active_in_rank, after_fills}
use Rattle.meeting.specs.declared.plans.Plan.{Plan}

-- what an order of q at price p meets among the orders os, about a reference price
abbrev pub meeting_of : Settings → ℕ → Side → OrderPrice → ℕ → List Order → Met
meeting_of g reference s p q os = meet (within g.static reference) s p q (active_in_rank g (opposite s) os)

-- the price of the last fill, or what is given where there is none
abbrev pub last_price_or : Option ℕ → List Fill → Option ℕ
last_price_or p [] = p
last_price_or p (f ∷ fs) = last_price_or (Some f.price) fs

-- the plan r of what an order meets among the orders os
pub record Planned (os : List Order) (m : Met) (r : Plan) : Type 0 where
  pub fills : r.fills ≡ length m.fills
  pub remaining : r.remaining ≡ m.remaining
  pub interrupted : r.interrupted ≡ m.interrupted
  pub last : r.last_price ≡ last_price_or None m.fills
  pub removed : r.removed + length (after_fills m.fills os) ≡ length os

-- a plan with one fill more, which removes a standing order that it uses up
abbrev pub with_fill : Plan → Order → Plan
with_fill t o = record {
  fills = t.fills + 1;
  removed = t.removed + cond (nat_le o.left t.remaining) 1 0;
  remaining = t.remaining - min t.remaining o.left;
  interrupted = false;
  last_price = Some (limit o.price);
}
