-- The prices at which a security may trade today.
use Rattle.std.specs.Prelude.{◌≡◌, ℕ, zero, suc, ◌+◌, ◌-◌, ◌*◌, ◌/◌, ◌%◌, ◌≤◌, min, Bool, true, ◌&&◌, List, [], ◌∷◌, ◌==◌, nat_le}
use Rattle.model.specs.Types.{OrderPrice, Market, Limit}
use Rattle.model.specs.Numbers.{max_price}

-- the tick, the indicative price, and the absolute and the static band, in percent
pub record Settings : Type 0 where
  pub tick : ℕ
  pub indicative : ℕ
  pub absolute : ℕ
  pub static : ℕ

-- p lies within the band of w percent about the reference c; both ends belong to it
abbrev pub within : ℕ → ℕ → ℕ → Bool
within w c p = nat_le (c * (100 - w)) (100 * p) && nat_le (100 * p) (c * (100 + w))

-- p is a multiple of the tick, at most the highest price, and within the absolute band about the indicative price
abbrev pub on_grid : Settings → ℕ → Bool
on_grid g p = p % g.tick == 0 && (nat_le p max_price && within g.absolute g.indicative p)

-- p taken down to a multiple of t
abbrev pub down : ℕ → ℕ → ℕ
down t p = (p / t) * t

-- x divided by d, the fraction rounded up
abbrev pub divided_up : ℕ → ℕ → ℕ
divided_up d x = (x + (d - 1)) / d

-- p taken up to a multiple of t
abbrev pub up : ℕ → ℕ → ℕ
up t p = divided_up t p * t

-- the highest price of the grid
abbrev pub highest : Settings → ℕ
highest g = down g.tick (min max_price ((g.indicative * (100 + g.absolute)) / 100))

-- the lowest price of the grid
abbrev pub lowest : Settings → ℕ
lowest g = up g.tick (divided_up 100 (g.indicative * (100 - g.absolute)))

-- p is the least price on the grid
pub record IsLowest (g : Settings) (p : ℕ) : Type 0 where
  pub on : on_grid g p ≡ true
  pub least : (q : ℕ) → on_grid g q ≡ true → p ≤ q

-- p is the greatest price on the grid
pub record IsHighest (g : Settings) (p : ℕ) : Type 0 where
  pub on : on_grid g p ≡ true
  pub greatest : (q : ℕ) → on_grid g q ≡ true → q ≤ p

-- how many prices the grid has
abbrev pub count : Settings → ℕ
count g = ((highest g - lowest g) / g.tick) + 1

-- n prices from p up, a tick apart
abbrev pub prices_from : ℕ → ℕ → ℕ → List ℕ
prices_from t p zero = []
prices_from t p (suc n) = p ∷ prices_from t (p + t) n

-- every grid price, from the lowest up
abbrev pub grid : Settings → List ℕ
grid g = prices_from g.tick (lowest g) (count g)

-- a market order is active, a limit order is where its price is on the grid
abbrev pub active : Settings → OrderPrice → Bool
active g Market = true
active g (Limit p) = on_grid g p
