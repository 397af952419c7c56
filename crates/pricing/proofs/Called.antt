-- Two passes find the called price, and what it is.
use Rattle.std.proofs.Common.{◌≡◌, ℕ, false, not, ◌&&◌, ◌||◌, List, [], ◌∷◌, Some, None, Option, sym, refl, ap, ◌∙◌, subst, arith, MatchOption}
use Rattle.std.specs.List.{ContainsAt as Has}
use Rattle.std.proofs.ByRecursion.{all-has}
use Rattle.std.proofs.lemmas.Bool.Decides.{nat_tests}
use Rattle.model.specs.declared.types.Point.{Point}
use Rattle.model.specs.Rules.{Rule, best, nearer, choose, called, lowest_of, highest_of}
use Rattle.model.specs.Lawful.{Lawful}
use Rattle.model.specs.Allocations.{target_in}
use Rattle.model.proofs.Choice.{best_has, called_chosen, called_none}
use Rattle.pricing.specs.declared.choice.BestEnds.{BestEnds}
use Rattle.pricing.specs.Ends.{ends_of, ends}
use Rattle.pricing.specs.Level.{level_with, nearest_among}
use Rattle.pricing.specs.Called.{IsBest, IsCalled}
use Rattle.pricing.proofs.Best.{level_best}
use Rattle.pricing.proofs.Ends.{highest_has}

module _ (r : Rule) (law : Lawful r) (i : ℕ) (ps : List Point) where
  -- without ends no point is called
  passes_none : None ≡ ends r ps → None ≡ called r i ps
  passes_none e = go (best r ps) e
    where
      go : (bs : List Point) → None ≡ ends_of bs → None ≡ choose r i bs
      go [] e = refl
      go (b ∷ bs) e = absurd (let z : ◌≡◌ {A = ℕ} 0 1 = cc in omega arith)

  -- with ends it is the nearest to their target
  passes_some : (e : BestEnds) → Some e ≡ ends r ps → nearest_among (r.target e.lowest e.highest i) (level_with r e.highest ps) ≡ called r i ps
  passes_some e k = go (best r ps) refl k
    where
      go : (bs : List Point) → best r ps ≡ bs → Some e ≡ ends_of bs → nearest_among (r.target e.lowest e.highest i) (level_with r e.highest ps) ≡ choose r i bs
      go [] q k = absurd (let z : ◌≡◌ {A = ℕ} 0 1 = cc in omega arith)
      go (b ∷ bs) q k =
          let h : Point = highest_of b bs in
          let w = best_has r ps h (subst (λ l. Has l h) (sym q) (highest_has b bs)) in
          let lb : level_with r h ps ≡ b ∷ bs = level_best r law ps h w.0 w.1 ∙ q in
          let x : e ≡ record { lowest = lowest_of b bs; highest = h } = cc in
          rw x (ap (nearest_among (r.target (lowest_of b bs) h i)) lb)

  called_meaning : (x : Point) → called r i ps ≡ Some x → IsCalled r i ps x
  called_meaning x e =
      let c = called_chosen r law i ps x e in
      let t : ℕ = target_in r i ps in
      let far : (y : Point) → IsBest r ps y → nearer t y x ≡ false = λ y b.
      let n = b.unbeaten x c.member in
      let f : (r.ahead y x || (not (r.ahead x y) && nearer t y x)) ≡ false = all-has (λ y. (r.ahead y x || (not (r.ahead x y) && nearer t y x)) ≡ false) ps y c.first b.listed in
      grind arith in
      record {
        best = record { listed = c.member; unbeaten = λ y m. all-has (λ z. r.ahead z x ≡ false) ps y c.unbeaten m };
        nearest = λ y b. let f = far y b in grind (arith, nat_tests);
        highest = λ y b q. let f = far y b in grind (arith, nat_tests);
      }

  meaning : (o : Option Point) → o ≡ called r i ps → MatchOption o (ps ≡ []) (IsCalled r i ps)
  meaning None e = called_none r law i ps (sym e)
  meaning (Some x) e = called_meaning x (sym e)

  -- both clauses
  abbrev pub Both : Option Point → Type 0
  Both o = (o ≡ called r i ps) × MatchOption o (ps ≡ []) (IsCalled r i ps)

  pub both_none : (o : Option Point) → o ≡ None → None ≡ ends r ps → Both o
  both_none o n e = let value : o ≡ called r i ps = n ∙ passes_none e in (value, meaning o value)

  pub both_some : (o : Option Point) (e : BestEnds) (t : ℕ) → Some e ≡ ends r ps → t ≡ r.target e.lowest e.highest i → o ≡ nearest_among t (level_with r e.highest ps) → Both o
  both_some o e t k a n = let value : o ≡ called r i ps = n ∙ ap (λ v. nearest_among v (level_with r e.highest ps)) a ∙ passes_some e k in (value, meaning o value)
