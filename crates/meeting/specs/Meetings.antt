-- What an order meets next, from a place in rank on.
use Rattle.std.specs.Prelude.{◌≡◌, ℕ, ◌+◌, ◌-◌, ◌<◌, min, true, false, List, [], drop}
use Rattle.model.specs.declared.types.Side.{Side}
use Rattle.model.specs.declared.types.OrderPrice.{OrderPrice}
use Rattle.model.specs.declared.types.Order.{Order}
use Rattle.model.specs.Grid.{Settings, within}
use Rattle.model.specs.Trading.{Met, met, add_fill, meet}
use Rattle.book.specs.Plain.{plain}
use Rattle.walking.specs.Walks.{actives, Found}
use Rattle.meeting.specs.Fills.{fill_of}
use Rattle.meeting.specs.declared.next.Next.{Next}
use Rattle.meeting.specs.declared.next.Next.TheVariants.{Trade, Interruption, Nothing}

-- what an order of which q remains meets of the active orders in rank at or after a place
abbrev pub rest_of : Settings → ℕ → Side → OrderPrice → ℕ → List Order → ℕ → Met
rest_of g reference s p q xs from = meet (within g.static reference) s p q (actives g (drop from xs))

-- it has a fill with o, which stands at the place k
pub record Trades (g : Settings) (reference : ℕ) (s : Side) (p : OrderPrice) (q : ℕ) (xs : List Order) (from k : ℕ) (o : Order) : Type 0 where
  pub some : 0 < q
  pub found : Found g xs from k o
  pub fill : rest_of g reference s p q xs from ≡ add_fill (fill_of q o) (rest_of g reference s p (q - min q o.left) xs (k + 1))

-- it has a fill, or ends
abbrev pub Meets : Settings → ℕ → Side → OrderPrice → ℕ → List Order → ℕ → Next → Type 0
Meets g reference s p q xs from (Trade t) = Trades g reference s p q xs from t.place (plain t.order)
Meets g reference s p q xs from Interruption = rest_of g reference s p q xs from ≡ met [] q true
Meets g reference s p q xs from Nothing = rest_of g reference s p q xs from ≡ met [] q false
