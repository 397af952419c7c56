-- What members are shown of a called price.
use Rattle.std.specs.Prelude.{◌≡◌, ℕ, Some, None, Ok, Err, Option, Result}
use Rattle.model.specs.declared.types.Refusal.{Refusal}
use Rattle.session.specs.declared.called.CalledPrice.{CalledPrice}
use Rattle.desk.specs.declared.quotes.Quote.{Quote}

-- the price and the quantity of a called price
abbrev pub quote : CalledPrice → Quote
quote t = record { price = t.price; quantity = t.quantity }

-- the board after a call: the called price, or what it showed where there is none
abbrev pub board_after : Quote → Result (Option CalledPrice) Refusal → Quote
board_after board (Ok None) = board
board_after board (Ok (Some t)) = quote t
board_after board (Err e) = board

-- the quantity of a strike, as the session answers it
abbrev pub quantity_of : Result Quote Refusal → Result ℕ Refusal
quantity_of (Ok q) = Ok q.quantity
quantity_of (Err e) = Err e

-- a strike that is done was at this price
abbrev pub StruckAt : ℕ → Result Quote Refusal → Type 0
StruckAt p (Ok q) = q.price ≡ p
StruckAt p (Err e) = Unit {0}
