-- The last order of a side that trades is the only one of that side that trades in part.
use Rattle.std.proofs.Common.{◌≡◌, ℕ, zero, suc, ◌+◌, ◌-◌, ◌<◌, ◌≤◌, min, cond, eqb, leb, ◌⊎◌, List, [], ◌∷◌, sym, refl, ap, ◌∙◌, subst, inl, inr, ⊎_elim, arith}
use Rattle.std.specs.List.{AllByRecursion}
use Rattle.std.proofs.lemmas.Bool.Decides.{nat_tests}
use Rattle.std.proofs.lemmas.Bool.{cond_both, cond-false, cases_eq, leb-true, lt-leb}
use Rattle.model.specs.declared.types.Side.{Side}
use Rattle.model.specs.declared.types.Side.TheVariants.{Buy, Sell}
use Rattle.model.specs.declared.types.Order.{Order}
use Rattle.model.specs.declared.types.TapeRecord.{TapeRecord}
use Rattle.model.specs.declared.types.TapeRecord.TheVariants.{Trade, Withdrawal}
use Rattle.model.specs.Orders.{with_left, left_in}
use Rattle.model.specs.Records.{traded_of, total_traded}
use Rattle.model.specs.Auction.{pair}
use Rattle.model.proofs.Ranking.{Distinct}
use Rattle.model.proofs.Standing.{counts, counts_not}
use Rattle.model.proofs.Taken.{left_in_missing}
use Rattle.model.proofs.Records.{bought, sold}
use Rattle.model.proofs.Pairing.{Alive}
use Rattle.striking.specs.Meetings.{party, last_party}
use Rattle.model.proofs.Commuting.{rest_of}
use Rattle.striking.proofs.Stepping.{pair_closed, pair_no_sells, pair_step}

alive_rest : (o : Order) (t : ℕ) (os : List Order) → Alive os → Alive (rest_of o t os)
alive_rest o t os h = cond_both (leb o.left t) _ _ Alive (λ _. h) (λ e. (grind (arith, nat_tests), h))

distinct_rest : (o : Order) (t : ℕ) (os : List Order) → Distinct (o ∷ os) → Distinct (rest_of o t os)
distinct_rest o t os h = cond_both (leb o.left t) _ _ Distinct (λ _. h.1) (λ _. h)

-- what holds of a pairing by its trades, from the first on
module _ (p : ℕ) (P : List Order → List Order → List TapeRecord → Type 0) (none : (bs ss : List Order) → P bs ss [])
    (step : (b : Order) (bs : List Order) (s : Order) (ss : List Order) (t : ℕ) (ts : List TapeRecord) → 1 ≤ t → t ≤ b.left → t ≤ s.left → P (rest_of b t bs) (rest_of s t ss) ts → P (b ∷ bs) (s ∷ ss) (Trade b.number s.number p t ∷ ts)) where
  by_trades : (k : ℕ) (bs ss : List Order) (v : ℕ) → v ≤ k → Alive bs → Alive ss → P bs ss (pair p bs ss v)
  by_trades zero bs ss v l ab sb = subst (P bs ss) (sym (pair_closed p bs ss v (omega arith))) (none bs ss)
  by_trades (suc k) [] ss v l ab sb = none [] ss
  by_trades (suc k) (b ∷ bs) [] v l ab sb = subst (P (b ∷ bs) []) (sym (pair_no_sells p (b ∷ bs) v)) (none (b ∷ bs) [])
  by_trades (suc k) (b ∷ bs) (s ∷ ss) v l ab sb =
      let t : ℕ = min (min b.left s.left) v in
      ⊎_elim
      (λ z. subst (P (b ∷ bs) (s ∷ ss)) (sym (pair_closed p (b ∷ bs) (s ∷ ss) v z)) (none (b ∷ bs) (s ∷ ss)))
      (λ z.
      let some : 1 ≤ t = omega (arith, ab.0, sb.0) in
      subst (P (b ∷ bs) (s ∷ ss)) (sym (pair_step p b bs s ss v ab.0 sb.0 (omega arith) t refl))
      (step b bs s ss t (pair p (rest_of b t bs) (rest_of s t ss) (v - t)) some (omega arith) (omega arith)
      (by_trades k (rest_of b t bs) (rest_of s t ss) (v - t) (omega arith) (alive_rest b t bs ab.1) (alive_rest s t ss sb.1))))
      (cases_eq v 0)

-- a trade of something
abbrev pub Positive : TapeRecord → Type 0
Positive (Trade b s p q) = 1 ≤ q
Positive (Withdrawal n q r) = ⊥

-- what some trades take of the order n on a side
abbrev pub share : Side → ℕ → List TapeRecord → ℕ
share Buy n ts = bought n ts
share Sell n ts = sold n ts

abbrev first_number : List Order → ℕ
first_number [] = 0
first_number (o ∷ os) = o.number

-- the first order of a side trades first, and one that trades in part trades last
pub record Lasts (s : Side) (xs : List Order) (ts : List TapeRecord) : Type 0 where
  first : (ts ≡ []) ⊎ (0 < share s (first_number xs) ts)
  pub last : Distinct xs → (d n : ℕ) → 0 < share s n ts → share s n ts < left_in xs n → last_party s d ts ≡ n

lasts_none : (s : Side) (xs : List Order) → Lasts s xs []
lasts_none Buy xs = record { first = inl refl; last = λ _ d n h l. absurd (omega arith) }
lasts_none Sell xs = record { first = inl refl; last = λ _ d n h l. absurd (omega arith) }

module _ (s : Side) (x : Order) (xs : List Order) (t : ℕ) (r : TapeRecord) (ts : List TapeRecord) (some : 1 ≤ t) (enough : t ≤ x.left) (is_party : (d : ℕ) → party s d r ≡ x.number)
    (shares : (n : ℕ) → share s n (r ∷ ts) ≡ cond (eqb x.number n) t 0 + share s n ts) (i : Lasts s (rest_of x t xs) ts) where
  -- what remains has under the number of the first order, and under another
  rest_own : (n : ℕ) → x.number ≡ n → left_in (rest_of x t xs) n + t ≡ x.left + left_in xs n
  rest_own n e = cond_both (leb x.left t) _ _ (λ l. left_in l n + t ≡ x.left + left_in xs n) (λ w. omega (arith, leb-true x.left t w)) (λ w. omega (arith, counts x.number n (x.left - t) e))

  rest_other : (n : ℕ) → (x.number ≡ n → ⊥) → left_in (rest_of x t xs) n ≡ left_in xs n
  rest_other n e = cond_both (leb x.left t) _ _ (λ l. left_in l n ≡ left_in xs n) (λ _. refl) (λ _. omega (arith, counts_not x.number n (x.left - t) e))

  -- something of the first order remains that does not trade
  ends : (n : ℕ) → x.number ≡ n → t < x.left → share s n ts ≡ 0 → last_party s x.number ts ≡ n
  ends n e l z =
      let same : rest_of x t xs ≡ with_left x (x.left - t) ∷ xs = cond-false (leb x.left t) _ _ (lt-leb x.left t l) in
      ⊎_elim
      (λ empty. ap (last_party s x.number) empty ∙ e)
      (λ more. absurd (omega (arith, z, subst (λ m. 0 < share s m ts) (ap first_number same ∙ e) more)))
      i.first

  lasts_more : Lasts s (x ∷ xs) (r ∷ ts)
  lasts_more = record {
    first = inr (omega (arith, shares x.number, counts x.number x.number t refl));
    last = λ d k n h l. subst (λ m. last_party s m ts ≡ n) (sym (is_party k))
        (⊎_elim
        (λ e.
        let own = counts x.number n t e in
        let whole = counts x.number n x.left e in
        let gone : left_in xs n ≡ 0 = left_in_missing xs n (subst (λ m. AllByRecursion (λ o. m ≡ o.number → ⊥) xs) e d.0) in
        ⊎_elim
        (λ z. ends n e (omega (arith, shares n)) z)
        (λ z. i.last (distinct_rest x t xs d) x.number n (omega arith) (omega (arith, shares n, rest_own n e)))
        (cases_eq (share s n ts) 0))
        (λ e. i.last (distinct_rest x t xs d) x.number n (omega (arith, shares n, counts_not x.number n t e)) (omega (arith, shares n, counts_not x.number n t e, counts_not x.number n x.left e, rest_other n e)))
        (cases_eq x.number n));
  }

-- so of every pairing
module _ (p : ℕ) (bs ss : List Order) (v : ℕ) (ab : Alive bs) (sb : Alive ss) where
  pub pair_positive : AllByRecursion Positive (pair p bs ss v)
  pair_positive = by_trades p (λ _ _ ts. AllByRecursion Positive ts) (λ _ _. tt) (λ b bs s ss t ts some _ _ h. (some, h)) v bs ss v (omega arith) ab sb

  pub pair_lasts : Lasts Buy bs (pair p bs ss v) × Lasts Sell ss (pair p bs ss v)
  pair_lasts =
      by_trades p (λ xs ys ts. Lasts Buy xs ts × Lasts Sell ys ts) (λ xs ys. (lasts_none Buy xs, lasts_none Sell ys))
      (λ b bs s ss t ts some eb es h. (
        lasts_more Buy b bs t (Trade b.number s.number p t) ts some eb (λ d. refl) (λ n. refl) h.0,
        lasts_more Sell s ss t (Trade b.number s.number p t) ts some es (λ d. refl) (λ n. refl) h.1,
      ))
      v bs ss v (omega arith) ab sb

-- a trade shows its two parties
pub trade_loud : (b s p q n : ℕ) → 1 ≤ q → (b ≡ n) ⊎ (s ≡ n) → 1 ≤ traded_of n (Trade b s p q)
trade_loud b s p q n l e = grind (arith, nat_tests)

-- the last order of a side did trade
pub last_trades : (s : Side) (ts : List TapeRecord) → AllByRecursion Positive ts → (d n : ℕ) → last_party s d ts ≡ n → total_traded n ts ≡ 0 → d ≡ n
last_trades s [] h d n e z = e
last_trades Buy (Trade b s p q ∷ ts) h d n e z = absurd (omega (arith, trade_loud b s p q n h.0 (inl (last_trades Buy ts h.1 b n e (omega arith)))))
last_trades Sell (Trade b s p q ∷ ts) h d n e z = absurd (omega (arith, trade_loud b s p q n h.0 (inr (last_trades Sell ts h.1 s n e (omega arith)))))
last_trades s (Withdrawal m q r ∷ ts) h d n e z = absurd h.0
