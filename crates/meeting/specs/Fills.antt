-- One fill of an order.
use Rattle.std.specs.Prelude.{ℕ, min}
use Rattle.model.specs.declared.types.Order.{Order}
use Rattle.model.specs.Trading.{limit, Fill}

-- a fill with a standing order, at its price
abbrev pub fill_at : Order → ℕ → Fill
fill_at o q = record { against = o.number; price = limit o.price; quantity = q }

-- the fill of what remains of an order, as far as the standing one reaches
abbrev pub fill_of : ℕ → Order → Fill
fill_of remaining o = fill_at o (min remaining o.left)
