-- Settings are valid, and the numbers of their grid are small.
use Rattle.std.proofs.Common.{◌≡◌, ℕ, zero, suc, ◌+◌, ◌-◌, ◌*◌, ◌/◌, ◌%◌, ◌<◌, ◌≤◌, min, refl, ap, mul-le-mul_right, div-mul-le_self, suc-mul, arith}
use Rattle.std.proofs.lemmas.Nat.{div-mul-add, div-add-mod'}
use Rattle.model.specs.Numbers.{max_price}
use Rattle.model.specs.Grid.{Settings, divided_up, lowest, highest, count}
use Rattle.model.specs.Making.{Valid}
use Rattle.model.proofs.GridPrices.{within_band}
use Rattle.model.proofs.GridEnds.{lowest_is, highest_is}
use Rattle.grid.specs.declared.settings.Settings.{Settings as Kept}
use Rattle.grid.specs.Views.{plain}

pub valid : (s : Kept) → Valid (plain s)
valid s = record {
  tick_low = s.tick_low;
  tick_high = s.tick_high;
  indicative_low = s.indicative_low;
  indicative_high = s.indicative_high;
  on_tick = s.on_tick;
  absolute_low = s.absolute_low;
  absolute_high = s.absolute_high;
  static_low = s.static_low;
  static_high = s.static_high;
}

pub highest_small : (g : Settings) → Valid g → highest g ≤ max_price
highest_small g v = let h = within_band g (highest g) (highest_is g v).on in omega (arith, h.2)

pub ends_ordered : (g : Settings) → Valid g → lowest g ≤ highest g
ends_ordered g v = (lowest_is g v).least (highest g) (highest_is g v).on

-- a place of the grid is no higher than its highest price
pub place_small : (g : Settings) → Valid g → (j : ℕ) → j < count g → lowest g + j * g.tick ≤ max_price
place_small g v j l =
    let t : ℕ = g.tick in
    let d : ℕ = highest g - lowest g in
    omega (arith, mul-le-mul_right {m = j} {n = d / t} t (omega arith), div-mul-le_self d t, highest_small g v, ends_ordered g v)

-- a fraction rounded up, by its whole part and whether anything is over
pub divided_up_is : (d x : ℕ) → 0 < d → divided_up d x ≡ x / d + min 1 (x % d)
divided_up_is d x l = go (x % d) refl
  where
    go : (r : ℕ) → x % d ≡ r → (x + (d - 1)) / d ≡ x / d + min 1 r
    go zero e =
        let s : x + (d - 1) ≡ x / d * d + (d - 1) = omega (arith, div-add-mod' x d, e) in
        omega (arith, ap (λ n. n / d) s, div-mul-add (x / d) d (d - 1) (omega arith))
    go (suc r) e =
        let s : x + (d - 1) ≡ suc (x / d) * d + r = omega (arith, div-add-mod' x d, e, suc-mul (x / d) d) in
        omega (arith, ap (λ n. n / d) s, div-mul-add (suc (x / d)) d r (omega (arith, e)))
