-- A curve that is written place by place.
use Rattle.std.proofs.Common.{◌≡◌, ℕ, zero, suc, ◌+◌, ◌*◌, ◌<◌, List, [], ◌∷◌, ◌++◌, map, length, drop, set, sym, ap, ◌∙◌, append_assoc, suc-mul, suc-add, zero-mul, arith}
use Rattle.std.proofs.lemmas.List.{drop_more, set_at, length-map, map-append}
use Rattle.model.specs.declared.types.Order.{Order}
use Rattle.model.specs.declared.types.Point.{Point}
use Rattle.model.specs.Grid.{Settings, lowest, prices_from}
use Rattle.model.specs.Curve.{point}
use Rattle.model.proofs.GridEnds.{length_prices}

prices_more : (t p n : ℕ) → prices_from t p (n + 1) ≡ prices_from t p n ++ (p + n * t) ∷ []
prices_more t p zero = ap (λ x. x ∷ []) (omega (arith, zero-mul t))
prices_more t p (suc n) =
    ap (prices_from t p) (suc-add n 1)
    ∙ ap (λ ps. p ∷ ps) (prices_more t (p + t) n ∙ ap (λ x. prices_from t (p + t) n ++ x ∷ []) (omega (arith, suc-mul n t)))

-- the first n points, before what was there
abbrev pub filled : Settings → List Order → ℕ → List Point → List Point
filled g os n before = map (point g os) (prices_from g.tick (lowest g) n) ++ drop n before

pub filled_more : (g : Settings) (os : List Order) (n : ℕ) (before : List Point) → n < length before
    → set (filled g os n before) n (point g os (lowest g + n * g.tick)) ≡ filled g os (n + 1) before
filled_more g os n before l =
    let t : ℕ = g.tick in
    let ps : List ℕ = prices_from t (lowest g) n in
    let x : Point = point g os (lowest g + n * t) in
    ap (λ ys. set (map (point g os) ps ++ ys) n x) (drop_more before n x l)
    ∙ set_at (map (point g os) ps) _ (drop (n + 1) before) x n (length-map ps (point g os) ∙ length_prices t (lowest g) n)
    ∙ sym (append_assoc (map (point g os) ps) (x ∷ []) (drop (n + 1) before))
    ∙ ap (λ ys. ys ++ drop (n + 1) before) (sym (map-append (point g os) ps ((lowest g + n * t) ∷ [])) ∙ ap (map (point g os)) (sym (prices_more t (lowest g) n)))
