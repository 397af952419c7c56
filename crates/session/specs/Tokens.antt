-- What a call says of its called price, and what a strike or a put-back makes of it.
use Rattle.std.specs.Prelude.{◌≡◌, ℕ, ◌<◌, Some, None, Ok, Err, Option, Result}
use Rattle.model.specs.declared.types.Phase.TheVariants.{Called}
use Rattle.model.specs.declared.types.Point.{Point}
use Rattle.model.specs.declared.types.Refusal.{Refusal}
use Rattle.model.specs.Curve.{traded}
use Rattle.model.specs.Rules.{Rule}
use Rattle.model.specs.State.{State}
use Rattle.model.specs.Auction.{call_price}
use Rattle.session.specs.declared.called.CalledPrice.{CalledPrice}

-- the called price is that of the point that a call finds, and the session waits for its strike
abbrev pub PricedToken : Rule → State → State → Option CalledPrice → Type 0
PricedToken r s s' None = call_price r s.settings s.orders ≡ None
PricedToken r s s' (Some t) = (x : Point) × (call_price r s.settings s.orders ≡ Some x) × (t.price ≡ x.price) × (t.quantity ≡ traded x) × (0 < t.quantity) × (s'.phase ≡ Called t.price t.quantity)

-- a call that is done tells the price that it finds
abbrev pub Told : Rule → State → State → Result (Option CalledPrice) Refusal → Type 0
Told r s s' (Ok t) = PricedToken r s s' t
Told r s s' (Err e) = Unit {0}

-- what is done spends the called price; a refusal leaves it as it was
abbrev pub Spent : CalledPrice → CalledPrice → Result ℕ Refusal → Type 0
Spent t t' (Ok a) = t'.quantity ≡ 0
Spent t t' (Err e) = t' ≡ t
