-- Pairing one trade at a time: the first buy meets the first sell, and what remains of both goes on.
use Rattle.std.proofs.Common.{◌≡◌, ℕ, ◌-◌, ◌<◌, ◌≤◌, min, leb, List, [], ◌∷◌, ◌++◌, sym, refl, ap, ◌∙◌, subst, ⊎_elim, arith}
use Rattle.std.proofs.lemmas.Bool.Decides.{nat_tests}
use Rattle.std.proofs.lemmas.Bool.{cond_both, cond-true, cond-false, leb-true, leb-false, le-leb, lt-leb, cases_lt}
use Rattle.model.specs.declared.types.Order.{Order}
use Rattle.model.specs.declared.types.TapeRecord.{TapeRecord}
use Rattle.model.specs.declared.types.TapeRecord.TheVariants.{Trade}
use Rattle.model.specs.Orders.{with_left}
use Rattle.model.specs.Auction.{Paired, paired, add_trade, pair_one, pair}
use Rattle.model.proofs.Commuting.{rest_of}

-- a buy of nothing, and an open volume of nothing, take no sell
one_empty : (p n q : ℕ) (ss : List Order) (v : ℕ) → min q v ≡ 0 → pair_one p n q ss v ≡ paired [] ss v
one_empty p n q [] v e = refl
one_empty p n q (s ∷ ss) v e = grind (arith, nat_tests)

pub pair_closed : (p : ℕ) (bs ss : List Order) (v : ℕ) → v ≡ 0 → pair p bs ss v ≡ []
pair_closed p [] ss v e = refl
pair_closed p (b ∷ bs) ss v e =
    let x = one_empty p b.number b.left ss v (omega arith) in
    ap (λ (x : Paired). x.trades ++ pair p bs x.sells x.volume) x ∙ pair_closed p bs ss v e

pub pair_no_sells : (p : ℕ) (bs : List Order) (v : ℕ) → pair p bs [] v ≡ []
pair_no_sells p [] v = refl
pair_no_sells p (b ∷ bs) v = pair_no_sells p bs v

-- the first trade, and what is left to pair
module _ (p : ℕ) (b : Order) (bs : List Order) (s : Order) (ss : List Order) (v : ℕ) (some_b : 1 ≤ b.left) (some_s : 1 ≤ s.left) (some_v : 1 ≤ v) where
  -- how much the first two trade
  abbrev first_quantity : ℕ
  first_quantity = min (min b.left s.left) v

  abbrev first_trade : TapeRecord
  first_trade = Trade b.number s.number p first_quantity

  -- the trades of a buy, and those of the others
  abbrev followed : Paired → List TapeRecord
  followed x = x.trades ++ pair p bs x.sells x.volume

  sell_remains : first_quantity < s.left → pair p (b ∷ bs) (s ∷ ss) v ≡ first_trade ∷ pair p (rest_of b first_quantity bs) (rest_of s first_quantity ss) (v - first_quantity)
  sell_remains l =
      let t : ℕ = first_quantity in
      let sells : List Order = with_left s (s.left - t) ∷ ss in
      let one : pair_one p b.number b.left (s ∷ ss) v ≡ paired (first_trade ∷ []) sells (v - t) = grind (arith, nat_tests) in
      let buys : pair p bs sells (v - t) ≡ pair p (rest_of b t bs) sells (v - t) = cond_both (leb b.left t) bs (with_left b (b.left - t) ∷ bs) (λ l. pair p bs sells (v - t) ≡ pair p l sells (v - t)) (λ _. refl) (λ w. let z : v - t ≡ 0 = omega (arith, leb-false b.left t w) in pair_closed p bs sells (v - t) z ∙ sym (pair_closed p (with_left b (b.left - t) ∷ bs) sells (v - t) z)) in
      ap followed one ∙ ap (λ l. first_trade ∷ l) (buys ∙ ap (λ l. pair p (rest_of b t bs) l (v - t)) (sym (cond-false (leb s.left t) ss sells (lt-leb s.left t l))))

  sell_filled : s.left ≤ first_quantity → pair p (b ∷ bs) (s ∷ ss) v ≡ first_trade ∷ pair p (rest_of b first_quantity bs) (rest_of s first_quantity ss) (v - first_quantity)
  sell_filled l =
      let t : ℕ = first_quantity in
      let next : Paired = pair_one p b.number (b.left - t) ss (v - t) in
      let one : pair_one p b.number b.left (s ∷ ss) v ≡ add_trade first_trade next = grind (arith, nat_tests) in
      let buys : followed next ≡ pair p (rest_of b t bs) ss (v - t) = cond_both (leb b.left t) bs (with_left b (b.left - t) ∷ bs) (λ l. followed next ≡ pair p l ss (v - t)) (λ w. ap followed (one_empty p b.number (b.left - t) ss (v - t) (omega (arith, leb-true b.left t w)))) (λ _. refl) in
      ap followed one ∙ ap (λ l. first_trade ∷ l) (buys ∙ ap (λ l. pair p (rest_of b t bs) l (v - t)) (sym (cond-true (leb s.left t) ss (with_left s (s.left - t) ∷ ss) (le-leb s.left t l))))

  pub pair_step : (t : ℕ) → t ≡ first_quantity → pair p (b ∷ bs) (s ∷ ss) v ≡ Trade b.number s.number p t ∷ pair p (rest_of b t bs) (rest_of s t ss) (v - t)
  pair_step t is = subst (λ q. pair p (b ∷ bs) (s ∷ ss) v ≡ Trade b.number s.number p q ∷ pair p (rest_of b q bs) (rest_of s q ss) (v - q)) (sym is) (⊎_elim sell_remains sell_filled (cases_lt first_quantity s.left))
