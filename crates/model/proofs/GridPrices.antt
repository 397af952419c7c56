-- The grid holds exactly the prices on the grid, the indicative price among them.
use Rattle.std.proofs.Common.{◌≡◌, ℕ, zero, suc, ◌+◌, ◌-◌, ◌*◌, ◌/◌, ◌%◌, ◌<◌, ◌≤◌, min, true, ◌&&◌, eqb, leb, List, [], sym, ap, ◌∙◌, subst, ⊎_elim, mul-le-mul_right, suc-mul, div-lt_iff_lt-mul, add-mul, mul-le-mul_left, div-add-mod', zero-mul, div-mul-le_self, mul-div_cancel, arith}
use native.Mathlib.Nat.{mul-mod_left}
use Rattle.std.specs.List.{ContainsAt as Has}
use Rattle.std.proofs.lemmas.Nat.{le-div}
use Rattle.std.proofs.lemmas.Bool.{and_from, and_parts, eq-eqb, eqb-true, le-leb, leb-true}
use Rattle.model.specs.Types.{Order, Point}
use Rattle.model.specs.Grid.{Settings, within, on_grid, divided_up, count, prices_from, grid}
use Rattle.model.specs.Curve.{point, curve}
use Rattle.model.specs.Making.{Valid}
use Rattle.model.proofs.Lists.{has_here, has_there, has_none, has_cases, has_map, map_has}

-- a list of prices a tick apart
prices_has : (t p n j : ℕ) → j < n → Has (prices_from t p n) (p + j * t)
prices_has t p zero j l = absurd (omega arith)
prices_has t p (suc n) zero l = subst (Has (prices_from t p (suc n))) (omega (arith, zero-mul t)) (has_here p (prices_from t (p + t) n))
prices_has t p (suc n) (suc j) l = subst (Has (prices_from t p (suc n))) (omega (arith, suc-mul j t)) (has_there p (prices_from t (p + t) n) (p + t + j * t) (prices_has t (p + t) n j (omega arith)))

has_prices : (t p n q : ℕ) → Has (prices_from t p n) q → (j : ℕ) × (j < n) × (q ≡ p + j * t)
has_prices t p zero q h = absurd (has_none q h)
has_prices t p (suc n) q h =
    ⊎_elim
    (λ e. (0, omega arith, omega (arith, zero-mul t)))
    (λ k. let r = has_prices t (p + t) n q k in (suc r.0, omega arith, omega (arith, suc-mul r.0 t)))
    (has_cases p (prices_from t (p + t) n) q h)

-- the least and the greatest price within the absolute band, on the grid or not
abbrev pub least : Settings → ℕ
least b = divided_up 100 (b.indicative * (100 - b.absolute))

abbrev pub greatest : Settings → ℕ
greatest b = min 99999 ((b.indicative * (100 + b.absolute)) / 100)

pub within_band : (g : Settings) (q : ℕ) → on_grid g q ≡ true → (q % g.tick ≡ 0) × (least g ≤ q) × (q ≤ greatest g)
within_band g q h =
    let A : ℕ = g.indicative * (100 - g.absolute) in
    let B : ℕ = g.indicative * (100 + g.absolute) in
    let r = and_parts (eqb (q % g.tick) 0) (leb q 99999 && within g.absolute g.indicative q) h in
    let u = and_parts (leb q 99999) (within g.absolute g.indicative q) r.1 in
    let w = and_parts (leb A (100 * q)) (leb (100 * q) B) u.1 in
    let top = leb-true q 99999 u.0 in
    let low = leb-true A (100 * q) w.0 in
    let high = leb-true (100 * q) B w.1 in
    (eqb-true (q % g.tick) 0 r.0, omega arith, omega arith)

from_band : (g : Settings) (q : ℕ) → q % g.tick ≡ 0 → least g ≤ q → q ≤ greatest g → on_grid g q ≡ true
from_band g q e l h =
    let A : ℕ = g.indicative * (100 - g.absolute) in
    let B : ℕ = g.indicative * (100 + g.absolute) in
    and_from (eqb (q % g.tick) 0) (leb q 99999 && within g.absolute g.indicative q) (eq-eqb (q % g.tick) 0 e)
    (and_from (leb q 99999) (within g.absolute g.indicative q) (le-leb q 99999 (omega arith))
    (and_from (leb A (100 * q)) (leb (100 * q) B) (le-leb A (100 * q) (omega arith)) (le-leb (100 * q) B (omega arith))))

-- a multiple of t is at least x when its factor is at least x over t, rounded up; at most x when its factor is at most x over t
up_le : (t x k : ℕ) → 1 ≤ t → (x ≤ k * t → (x + (t - 1)) / t ≤ k) × ((x + (t - 1)) / t ≤ k → x ≤ k * t)
up_le t x k h =
    let i = div-lt_iff_lt-mul {k = t} {x = x + (t - 1)} {y = suc k} h in
    let m = suc-mul k t in
    ((λ l. let r = i.1 (omega arith) in omega arith), λ l. let r = i.0 (omega arith) in omega arith)

le_down : (t x k : ℕ) → 1 ≤ t → (k * t ≤ x → k ≤ x / t) × (k ≤ x / t → k * t ≤ x)
le_down t x k h = ((λ l. le-div k x t h l), λ l. omega (arith, mul-le-mul_right t l, div-mul-le_self x t))

pub indicative_on_grid : (g : Settings) → Valid g → on_grid g g.indicative ≡ true
indicative_on_grid g v =
    let c : ℕ = g.indicative in
    let low : c * (100 - g.absolute) ≤ c * 100 = mul-le-mul_left c (omega arith) in
    let high : c * 100 ≤ c * (100 + g.absolute) = mul-le-mul_left c (omega arith) in
    from_band g c v.on_tick (omega arith) (omega (arith, v.indicative_high))

-- the factors of the lowest and the highest price of the grid
abbrev pub first_factor : Settings → ℕ
first_factor b = (least b + (b.tick - 1)) / b.tick

abbrev pub last_factor : Settings → ℕ
last_factor b = greatest b / b.tick

-- the factor of a price on the grid
pub grid_factor : (g : Settings) → Valid g → (q : ℕ) → on_grid g q ≡ true → (k : ℕ) × (q ≡ k * g.tick) × (first_factor g ≤ k) × (k ≤ last_factor g)
grid_factor g v q h =
    let t : ℕ = g.tick in
    let r = within_band g q h in
    let e : q ≡ q / t * t = omega (arith, div-add-mod' q t) in
    (q / t, e, (up_le t (least g) (q / t) v.tick_low).0 (subst (λ x. least g ≤ x) e r.1), (le_down t (greatest g) (q / t) v.tick_low).0 (subst (λ x. x ≤ greatest g) e r.2))

pub factor_grid : (g : Settings) → Valid g → (k : ℕ) → first_factor g ≤ k → k ≤ last_factor g → on_grid g (k * g.tick) ≡ true
factor_grid g v k l h = from_band g (k * g.tick) (mul-mod_left k g.tick) ((up_le g.tick (least g) k v.tick_low).1 l) ((le_down g.tick (greatest g) k v.tick_low).1 h)

count_factors : (g : Settings) → Valid g → (d : ℕ) → last_factor g ≡ first_factor g + d → count g ≡ d + 1
count_factors g v d e =
    let t : ℕ = g.tick in
    let w : last_factor g * t ≡ first_factor g * t + d * t = ap (λ x. x * t) e ∙ add-mul (first_factor g) d t in
    let s : last_factor g * t - first_factor g * t ≡ d * t = omega arith in
    ap (λ x. x / t + 1) s ∙ ap (λ x. x + 1) (mul-div_cancel d v.tick_low)

pub factors_ordered : (g : Settings) → Valid g → (d : ℕ) × (last_factor g ≡ first_factor g + d)
factors_ordered g v = let r = grid_factor g v g.indicative (indicative_on_grid g v) in (last_factor g - first_factor g, omega (arith, r.2, r.3))

-- a price is in the grid exactly when it is on it
grid_has : (g : Settings) → Valid g → (q : ℕ) → on_grid g q ≡ true → Has (grid g) q
grid_has g v q h =
    let t : ℕ = g.tick in
    let F : ℕ = first_factor g in
    let r = grid_factor g v q h in
    let d = factors_ordered g v in
    let j : ℕ = r.0 - F in
    let s : r.0 ≡ F + j = omega (arith, r.2) in
    let e : F * t + j * t ≡ q = sym (r.1 ∙ ap (λ x. x * t) s ∙ add-mul F j t) in
    let l : j < count g = omega (arith, count_factors g v d.0 d.1, d.1, r.3) in
    subst (Has (grid g)) e (prices_has t (F * t) (count g) j l)

has_grid : (g : Settings) → Valid g → (q : ℕ) → Has (grid g) q → on_grid g q ≡ true
has_grid g v q h =
    let t : ℕ = g.tick in
    let F : ℕ = first_factor g in
    let d = factors_ordered g v in
    let r = has_prices t (F * t) (count g) q h in
    let e : (F + r.0) * t ≡ q = add-mul F r.0 t ∙ sym r.2 in
    let l : F + r.0 ≤ last_factor g = omega (arith, count_factors g v d.0 d.1, d.1, r.1) in
    subst (λ x. on_grid g x ≡ true) e (factor_grid g v (F + r.0) (omega arith) l)

-- the point of each price on the grid is in the curve, and each point of the curve is such a point
pub curve_has : (g : Settings) → Valid g → (os : List Order) (q : ℕ) → on_grid g q ≡ true → Has (curve g os) (point g os q)
curve_has g v os q h = has_map (point g os) (grid g) q (grid_has g v q h)

pub has_curve : (g : Settings) → Valid g → (os : List Order) (x : Point) → Has (curve g os) x → (on_grid g x.price ≡ true) × (point g os x.price ≡ x)
has_curve g v os x h =
    let r = map_has (point g os) (grid g) x h in
    let e : r.0 ≡ x.price = ap (λ y. y.price) r.2 in
    (subst (λ q. on_grid g q ≡ true) e (has_grid g v r.0 r.1), subst (λ q. point g os q ≡ x) e r.2)

pub curve_not_empty : (g : Settings) → Valid g → (os : List Order) → curve g os ≡ [] → ⊥
curve_not_empty g v os e = has_none (point g os g.indicative) (subst (λ l. Has l (point g os g.indicative)) e (curve_has g v os g.indicative (indicative_on_grid g v)))
