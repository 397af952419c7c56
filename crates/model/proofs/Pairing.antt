-- Pairing buys with sells in rank: what is traded of each order, and of all.
use Rattle.std.proofs.Common.{◌≡◌, ℕ, ◌+◌, ◌-◌, ◌<◌, ◌≤◌, min, Bool, true, false, cond, eqb, ltb, ◌⊎◌, List, [], ◌∷◌, ◌++◌, sym, refl, ap, ◌∙◌, subst, ap₂, inl, inr, ⊎_elim, zero-add, arith}
use Rattle.std.specs.List.{AllByRecursion}
use Rattle.std.proofs.lemmas.Bool.{cases_lt, cond_both, eqb-true, ltb-false, ltb-true}
use Rattle.model.specs.Types.{Order, TapeRecord, Trade}
use Rattle.model.specs.Orders.{with_left, left_in}
use Rattle.model.specs.Records.{total_traded}
use Rattle.model.specs.Auction.{Paired, pair_one, pair}
use Rattle.model.specs.Allocations.{total_quantity, deals}
use Rattle.model.proofs.Taken.{lefts, taken, taken_none, taken_le}
use Rattle.model.proofs.Records.{bought, sold, bought_append, sold_append, quantity_append, traded_le_both}

-- of each order something is left
abbrev pub Alive : List Order → Type 0
Alive os = AllByRecursion (λ o. 1 ≤ o.left) os

cond_add : (b : Bool) (x y z : ℕ) → x + y ≡ z → cond b x 0 + cond b y 0 ≡ cond b z 0
cond_add true x y z e = e
cond_add false x y z e = refl

-- one buy n of quantity q met sells ss under an open volume v, and T was traded
record One (n q : ℕ) (ss : List Order) (v T : ℕ) (x : Paired) : Type 0 where
  amount : T ≡ min (min q (lefts ss)) v
  total : total_quantity (deals x.trades) ≡ T
  open_volume : x.volume ≡ v - T
  remaining : lefts x.sells ≡ lefts ss - T
  alive : Alive x.sells
  buys : (m : ℕ) → bought m x.trades ≡ cond (eqb n m) T 0
  sells : (m : ℕ) → sold m x.trades ≡ taken T ss m
  later : (m t : ℕ) → taken t x.sells m + taken T ss m ≡ taken (T + t) ss m

none : (p n q : ℕ) (ss : List Order) (v : ℕ) → Alive ss → 0 ≡ min (min q (lefts ss)) v → One n q ss v 0 (record { trades = []; sells = ss; volume = v })
none p n q ss v a e = record {
  amount = e;
  total = refl;
  open_volume = omega arith;
  remaining = omega arith;
  alive = a;
  buys = λ m. cond_both (eqb n m) 0 0 (λ x. 0 ≡ x) (λ _. refl) (λ _. refl);
  sells = λ m. sym (taken_none 0 ss m refl);
  later = λ m t. omega (arith, taken_none 0 ss m refl, ap (λ z. taken z ss m) (zero-add t));
}

part : (p n q : ℕ) (s : Order) (ss : List Order) (v t : ℕ) → Alive ss → t ≡ min (min q s.left) v → t < s.left
    → One n q (s ∷ ss) v t (record { trades = Trade n s.number p t ∷ []; sells = with_left s (s.left - t) ∷ ss; volume = v - t })
part p n q s ss v t a e l = record {
  amount = omega arith;
  total = omega arith;
  open_volume = refl;
  remaining = omega arith;
  alive = (omega arith, a);
  buys = λ m. omega arith;
  sells = λ m. let k : min t s.left ≡ t = omega arith in rw k (omega (arith, taken_none (t - s.left) ss m (omega arith)));
  later = λ m u.
      let none : taken (t - s.left) ss m ≡ 0 = taken_none (t - s.left) ss m (omega arith) in
      let rest : taken (u - (s.left - t)) ss m ≡ taken ((t + u) - s.left) ss m = ap (λ z. taken z ss m) (omega arith) in
      let here : cond (eqb s.number m) (min u (s.left - t)) 0 + cond (eqb s.number m) (min t s.left) 0 ≡ cond (eqb s.number m) (min (t + u) s.left) 0 = cond_add (eqb s.number m) (min u (s.left - t)) (min t s.left) (min (t + u) s.left) (omega arith) in
      omega arith;
}

whole : (p n q : ℕ) (s : Order) (ss : List Order) (v t T : ℕ) (x : Paired) → t ≡ min (min q s.left) v → s.left ≤ t → One n (q - t) ss (v - t) T x
    → One n q (s ∷ ss) v (t + T) (record { trades = Trade n s.number p t ∷ x.trades; sells = x.sells; volume = x.volume })
whole p n q s ss v t T x e l o =
    let am = o.amount in
    record {
      amount = omega arith;
      total = omega (arith, o.total);
      open_volume = omega (arith, o.open_volume);
      remaining = omega (arith, o.remaining);
      alive = o.alive;
      buys = λ m. omega (arith, o.buys m, cond_add (eqb n m) t T (t + T) refl);
      sells = λ m.
          let k : min (t + T) s.left ≡ t = omega arith in
          let j : taken ((t + T) - s.left) ss m ≡ taken T ss m = ap (λ z. taken z ss m) (omega arith) in
          rw k (omega (arith, o.sells m));
      later = λ m u.
          let k : min (t + T) s.left ≡ min ((t + T) + u) s.left = omega arith in
          let j : taken ((t + T) - s.left) ss m ≡ taken T ss m = ap (λ z. taken z ss m) (omega arith) in
          let i : taken (((t + T) + u) - s.left) ss m ≡ taken (T + u) ss m = ap (λ z. taken z ss m) (omega arith) in
          rw k (omega (arith, o.later m u));
    }

one_pairs : (p n q : ℕ) (ss : List Order) (v : ℕ) → Alive ss → (T : ℕ) × One n q ss v T (pair_one p n q ss v)
one_pairs p n q [] v a = (0, none p n q [] v tt (omega arith))
one_pairs p n q (s ∷ ss) v a =
    let t : ℕ = min (min q s.left) v in
    cond_both (eqb t 0) _ _ (λ x. (T : ℕ) × One n q (s ∷ ss) v T x)
    (λ e. let z : t ≡ 0 = eqb-true t 0 e in (0, none p n q (s ∷ ss) v a (omega arith)))
    (λ _. cond_both (ltb t s.left) _ _ (λ x. (T : ℕ) × One n q (s ∷ ss) v T x)
    (λ e. (t, part p n q s ss v t a.1 refl (ltb-true t s.left e)))
    (λ e. let r = one_pairs p n (q - t) ss (v - t) a.1 in (t + r.0, whole p n q s ss v t r.0 (pair_one p n (q - t) ss (v - t)) refl (ltb-false t s.left e) r.1)))

-- buys bs met sells ss under a volume v
pub record Pairs (bs ss : List Order) (v T : ℕ) (ts : List TapeRecord) : Type 0 where
  pub amount : T ≡ min v (min (lefts bs) (lefts ss))
  pub total : total_quantity (deals ts) ≡ T
  pub buys : (m : ℕ) → bought m ts ≡ taken T bs m
  pub sells : (m : ℕ) → sold m ts ≡ taken T ss m

-- the first buy is filled, or nothing is left for the others
filled_or_done : (q B S v T U S' v' : ℕ) → T ≡ min (min q S) v → S ≡ S' + T → v ≡ v' + T → U ≡ min v' (min B S') → (T ≡ q) ⊎ ((T < q) × (U ≡ 0))
filled_or_done q B S v T U S' v' a b c d = ⊎_elim (λ e. inr (e, omega arith)) (λ e. inl (omega arith)) (cases_lt T q)

first_amount : (q B S v T U S' v' : ℕ) → T ≡ min (min q S) v → S ≡ S' + T → v ≡ v' + T → U ≡ min v' (min B S') → T + U ≡ min v (min (q + B) S)
first_amount q B S v T U S' v' a b c d =
    ⊎_elim (λ e. full e b c d) (λ e. short e.0 e.1 a) (filled_or_done q B S v T U S' v' a b c d)
  where
    full : T ≡ q → S ≡ S' + T → v ≡ v' + T → U ≡ min v' (min B S') → T + U ≡ min v (min (q + B) S)
    full e b c d = omega arith

    short : T < q → U ≡ 0 → T ≡ min (min q S) v → T + U ≡ min v (min (q + B) S)
    short l e a = omega arith

first_pairs : (b : Order) (bs ss : List Order) (v T U : ℕ) (x : Paired) (us : List TapeRecord) → One b.number b.left ss v T x
    → Pairs bs x.sells x.volume U us → Pairs (b ∷ bs) ss v (T + U) (x.trades ++ us)
first_pairs b bs ss v T U x us o h =
    let sum : lefts ss ≡ lefts x.sells + T = omega (arith, o.remaining, o.amount) in
    let vol : v ≡ x.volume + T = omega (arith, o.open_volume, o.amount) in
    let done = filled_or_done b.left (lefts bs) (lefts ss) v T U (lefts x.sells) x.volume o.amount sum vol h.amount in
    record {
      amount = first_amount b.left (lefts bs) (lefts ss) v T U (lefts x.sells) x.volume o.amount sum vol h.amount;
      total = omega (arith, quantity_append x.trades us, o.total, h.total);
      buys = λ m. bought_append m x.trades us ∙ ap₂ ◌+◌ (o.buys m) (h.buys m) ∙ split done m;
      sells = λ m. omega (arith, sold_append m x.trades us, o.sells m, h.sells m, o.later m U);
    }
  where
    split : (T ≡ b.left) ⊎ ((T < b.left) × (U ≡ 0)) → (m : ℕ) → cond (eqb b.number m) T 0 + taken U bs m ≡ taken (T + U) (b ∷ bs) m
    split (inl e) m =
        let k : min (T + U) b.left ≡ T = omega arith in
        rw k (ap (λ z. cond (eqb b.number m) T 0 + taken z bs m) (omega arith))
    split (inr e) m =
        let k : min (T + U) b.left ≡ T = omega arith in
        rw k (omega (arith, taken_none U bs m e.1, taken_none ((T + U) - b.left) bs m (omega arith)))

all_pairs : (p : ℕ) (bs ss : List Order) (v : ℕ) → Alive ss → (T : ℕ) × Pairs bs ss v T (pair p bs ss v)
all_pairs p [] ss v a = (0, record { amount = omega arith; total = refl; buys = λ m. refl; sells = λ m. sym (taken_none 0 ss m refl) })
all_pairs p (b ∷ bs) ss v a =
    let x : Paired = pair_one p b.number b.left ss v in
    let o = one_pairs p b.number b.left ss v a in
    let r = all_pairs p bs x.sells x.volume o.1.alive in
    (o.0 + r.0, first_pairs b bs ss v o.0 r.0 x (pair p bs x.sells x.volume) o.1 r.1)

-- the volume that is traded: the most that the open volume and both sides permit
abbrev pub volume_of : List Order → List Order → ℕ → ℕ
volume_of bs ss v = min v (min (lefts bs) (lefts ss))

pub pair_pairs : (p : ℕ) (bs ss : List Order) (v : ℕ) → Alive ss → Pairs bs ss v (volume_of bs ss v) (pair p bs ss v)
pair_pairs p bs ss v a = let r = all_pairs p bs ss v a in subst (λ T. Pairs bs ss v T (pair p bs ss v)) r.1.amount r.1

pub pair_total : (p : ℕ) (bs ss : List Order) (v : ℕ) → Alive ss → total_quantity (deals (pair p bs ss v)) ≡ volume_of bs ss v
pair_total p bs ss v a = (pair_pairs p bs ss v a).total

-- no order trades more than is left of it
pub pair_limited : (p : ℕ) (bs ss : List Order) (v : ℕ) → Alive ss → (n : ℕ) → total_traded n (pair p bs ss v) ≤ left_in bs n + left_in ss n
pair_limited p bs ss v a n =
    let r = pair_pairs p bs ss v a in
    let T : ℕ = volume_of bs ss v in
    omega (arith, traded_le_both n (pair p bs ss v), r.buys n, r.sells n, taken_le T bs n, taken_le T ss n)
