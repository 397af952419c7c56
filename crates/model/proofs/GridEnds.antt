-- The ends of the grid are its least and its greatest price, and how many prices it has.
use Rattle.std.proofs.Common.{◌≡◌, ℕ, zero, suc, ◌+◌, ◌-◌, ◌*◌, ◌<◌, ◌≤◌, length, get_or, refl, ap, ◌∙◌, mul-le-mul_right, suc-mul, mul-le-mul_left, zero-mul, div-le_self, arith}
use Rattle.model.specs.Numbers.{max_count}
use Rattle.model.specs.Grid.{Settings, highest, lowest, IsLowest, IsHighest, count, prices_from, grid}
use Rattle.model.specs.Making.{Valid}
use Rattle.model.proofs.GridPrices.{within_band, first_factor, last_factor, grid_factor, factor_grid, factors_ordered}

pub lowest_is : (g : Settings) → Valid g → IsLowest g (lowest g)
lowest_is g v =
    let d = factors_ordered g v in
    record {
      on = factor_grid g v (first_factor g) (omega arith) (omega (arith, d.1));
      least = λ q h. let r = grid_factor g v q h in omega (arith, r.1, mul-le-mul_right g.tick r.2);
    }

pub highest_is : (g : Settings) → Valid g → IsHighest g (highest g)
highest_is g v =
    let d = factors_ordered g v in
    record {
      on = factor_grid g v (last_factor g) (omega (arith, d.1)) (omega arith);
      greatest = λ q h. let r = grid_factor g v q h in omega (arith, r.1, mul-le-mul_right g.tick r.3);
    }

-- a grid of one tick about an indicative price of 50,251 has the most prices
pub count_most : (g : Settings) → Valid g → count g ≤ max_count
count_most g v =
    let i : ℕ = g.indicative in
    let low = within_band g (lowest g) (lowest_is g v).on in
    let high = within_band g (highest g) (highest_is g v).on in
    let a : i * 1 ≤ i * (100 - g.absolute) = mul-le-mul_left i (omega (arith, v.absolute_high)) in
    let b : i * (100 + g.absolute) ≤ i * 199 = mul-le-mul_left i (omega (arith, v.absolute_high)) in
    omega (arith, low.1, high.2, div-le_self (highest g - lowest g) g.tick)

pub length_prices : (t p n : ℕ) → length (prices_from t p n) ≡ n
length_prices t p zero = refl
length_prices t p (suc n) = ap suc (length_prices t (p + t) n)

pub count_is : (g : Settings) → length (grid g) ≡ count g
count_is g = length_prices g.tick (lowest g) (count g)

-- the price at a place of the grid, from 0
pub price_at : (t p n j d : ℕ) → j < n → get_or (prices_from t p n) j d ≡ p + j * t
price_at t p zero j d l = absurd (omega arith)
price_at t p (suc n) zero d l = omega (arith, zero-mul t)
price_at t p (suc n) (suc j) d l = price_at t (p + t) n j d (omega arith) ∙ omega (arith, suc-mul j t)
