-- The nearest of points that come in two parts.
use Rattle.std.proofs.Common.{◌≡◌, ℕ, cond, not, List, [], ◌∷◌, ◌++◌, Some, Option, sym, refl, ap, ◌∙◌}
use Rattle.std.proofs.lemmas.List.Elements.{filter-append}
use Rattle.model.specs.declared.types.Point.{Point}
use Rattle.model.specs.Rules.{Rule, nearer, pick}
use Rattle.pricing.specs.Level.{level_with, nearest_among, nearest_onward}

pick_onward : (t : ℕ) (x : Point) (ps : List Point) → Some (pick t x ps) ≡ nearest_onward t (Some x) ps
pick_onward t x [] = refl
pick_onward t x (p ∷ ps) = pick_onward t (cond (nearer t p x) p x) ps

nearest_append : (t : ℕ) (ys zs : List Point) → nearest_among t (ys ++ zs) ≡ nearest_onward t (nearest_among t ys) zs
nearest_append t [] [] = refl
nearest_append t [] (z ∷ zs) = pick_onward t z zs
nearest_append t (y ∷ ys) zs = pick_onward t y (ys ++ zs) ∙ onward y ys
  where
    onward : (x : Point) (xs : List Point) → nearest_onward t (Some x) (xs ++ zs) ≡ nearest_onward t (Some (pick t x xs)) zs
    onward x [] = refl
    onward x (p ∷ ps) = onward (cond (nearer t p x) p x) ps

-- going on from the nearest of xs gives that of xs and ys
pub nearest_joined : (r : Rule) (b : Point) (t : ℕ) (o earlier : Option Point) (xs ys : List Point) → o ≡ nearest_onward t earlier (level_with r b ys)
    → earlier ≡ nearest_among t (level_with r b xs) → o ≡ nearest_among t (level_with r b (xs ++ ys))
nearest_joined r b t o earlier xs ys k e =
    k ∙ ap (λ v. nearest_onward t v (level_with r b ys)) e ∙ sym (ap (nearest_among t) (filter-append (λ p. not (r.ahead b p)) xs ys) ∙ nearest_append t (level_with r b xs) (level_with r b ys))
