-- Two optimal outcomes of one auction answer the same, at the same price.
use Rattle.std.proofs.Common.{◌≡◌, ℕ, false, not, ◌&&◌, List, subst, arith}
use Rattle.std.proofs.lemmas.Bool.{or_parts}
use Rattle.std.proofs.lemmas.Bool.Decides.{nat_tests}
use Rattle.model.specs.Types.{Order, Point}
use Rattle.model.specs.Grid.{Settings}
use Rattle.model.specs.Curve.{point, curve}
use Rattle.model.specs.Rules.{Rule, most_traded, nearer}
use Rattle.model.specs.Allocations.{target_in, goes_before, deals, OptimumIsUnique}

-- of two points neither of which is nearer the prices are one
neither_nearer : (target : ℕ) (x y : Point) → nearer target x y ≡ false → nearer target y x ≡ false → x.price ≡ y.price
neither_nearer target x y h k = grind (arith, nat_tests)

neither_before : (R : Rule) (g : Settings) (os : List Order) (p q : ℕ) → goes_before R g os q p ≡ false → goes_before R g os p q ≡ false → p ≡ q
neither_before R g os p q h k =
    let x : Point = point g os p in
    let y : Point = point g os q in
    let t : ℕ = target_in R g.indicative (curve g os) in
    let u = or_parts (R.ahead y x) (not (R.ahead x y) && nearer t y x) h in
    let w = or_parts (R.ahead x y) (not (R.ahead y x) && nearer t x y) k in
    neither_nearer t x y (subst (λ b. (not b && nearer t x y) ≡ false) u.0 w.1) (subst (λ b. (not b && nearer t y x) ≡ false) w.0 u.1)

pub optimum_is_unique : OptimumIsUnique
optimum_is_unique r g os o o' p p' h k =
    let same : o.answer ≡ o'.answer = omega (arith, h.answers, k.answers, h.most p' (deals o'.records) k.feasible, k.most p (deals o.records) h.feasible) in (
      same,
      λ l.
          neither_before (most_traded r) g os p p'
          (h.first l p' (deals o'.records) k.feasible (omega (arith, same, k.answers)))
          (k.first (omega (arith, same)) p (deals o.records) h.feasible (omega (arith, same, h.answers))),
    )
