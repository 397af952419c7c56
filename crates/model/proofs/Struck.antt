-- The standing orders after an auction's trades, and what its records account for.
use Rattle.std.proofs.Common.{◌≡◌, ℕ, ◌+◌, ◌-◌, ◌≤◌, Bool, true, false, cond, not, ◌&&◌, ◌||◌, eqb, leb, ◌⊎◌, List, [], ◌∷◌, map, filter, sym, refl, ap, ◌∙◌, subst, inl, inr, ⊎_elim, arith}
use Rattle.std.specs.List.{AllByRecursion}
use Rattle.std.proofs.lemmas.Bool.{and_parts, cases_eq, cond_both, eq-eqb, eqb-true, false≢true, leb-true, or_left, or_right}
use Rattle.model.specs.Types.{Buy, Sell, OrderPrice, Order, AfterAuction, TapeRecord, Trade, Withdrawal}
use Rattle.model.specs.Grid.{Settings}
use Rattle.model.specs.Orders.{Standing, with_left, is_market, lower, left_in, withdrawal}
use Rattle.model.specs.Records.{total_traded, total_withdrawn}
use Rattle.model.specs.Auction.{trades_at, apply_trades, idle, settled, struck_orders, struck_records}
use Rattle.model.specs.Laws.{accounted_for, TwoParties}
use Rattle.model.proofs.Standing.{counts, counts_not, lower_left, lower_standing, kept_standing, left_kept_both, SameOrder, map_standing, left_map, standing_alive, standing_distinct}
use Rattle.model.proofs.Records.{traded_append, withdrawn_append, traded_withdrawals, withdrawn_withdrawals, trade_of_two}
use Rattle.model.proofs.AtPrice.{Party}
use Rattle.model.proofs.Trades.{trades_limited, trades_parties, between_withdrawn, trades_apart}

-- trades within what is left lower the orders by just what they trade
module _ (lo hi : ℕ) where
  pub trades_standing : (ts : List TapeRecord) (os : List Order) → Standing lo os hi → Standing lo (apply_trades ts os) hi
  trades_standing [] os h = h
  trades_standing (Trade b s p q ∷ ts) os h = trades_standing ts (lower s q (lower b q os)) (lower_standing lo hi s q (lower b q os) (lower_standing lo hi b q os h))
  trades_standing (Withdrawal n q r ∷ ts) os h = trades_standing ts os h

  pub trades_left : (ts : List TapeRecord) (os : List Order) → Standing lo os hi → AllByRecursion TwoParties ts → ((n : ℕ) → total_traded n ts ≤ left_in os n) → (n : ℕ)
      → left_in (apply_trades ts os) n + total_traded n ts ≡ left_in os n
  trades_left [] os h a lim n = omega arith
  trades_left (Trade b s p q ∷ ts) os h a lim n =
      let two = λ (m : ℕ). trade_of_two b s q m a.0 in
      let lb = lim b in
      let tb = two b in
      let cb = counts b b q refl in
      let fb : q ≤ left_in os b = omega arith in
      let one = λ (m : ℕ). lower_left lo hi b q m os h fb in
      let ls = lim s in
      let ts' = two s in
      let cs = counts s s q refl in
      let ds = counts_not b s q a.0 in
      let os' = one s in
      let h' = lower_standing lo hi b q os h in
      let fs : q ≤ left_in (lower b q os) s = omega arith in
      let next = λ (m : ℕ). lower_left lo hi s q m (lower b q os) h' fs in
      let i = trades_left ts (lower s q (lower b q os)) (lower_standing lo hi s q (lower b q os) h') a.1
      (λ m. omega (arith, one m, next m, two m, lim m)) n in
      omega (arith, one n, next n, two n)
  trades_left (Withdrawal m q r ∷ ts) os h a lim n =
      let i = trades_left ts os h a.1 (λ k. omega (arith, lim k)) n in
      omega arith

-- orders picked by their prices, under a number of which nothing is lowered
module _ (f : OrderPrice → Bool) (n : ℕ) where
  abbrev picked : Order → ℕ → ℕ
  picked o q = cond (f o.price) (cond (eqb o.number n) q 0) 0

  picked_none : (o : Order) → picked o 0 ≡ 0
  picked_none o = cond_both (f o.price) _ _ (λ x. x ≡ 0) (λ _. cond_both (eqb o.number n) 0 0 (λ x. x ≡ 0) (λ _. refl) (λ _. refl)) (λ _. refl)

  picked_same : (o : Order) (q x y : ℕ) → (o.number ≡ n → ⊥) ⊎ (q ≡ 0) → (q ≡ 0 → x ≡ y) → picked o x ≡ picked o y
  picked_same o q x y (inl h) k = ap (λ z. cond (f o.price) z 0) (counts_not o.number n x h ∙ sym (counts_not o.number n y h))
  picked_same o q x y (inr h) k = ap (picked o) (k h)

  picked_more : (o : Order) (os : List Order) → left_in (filter (λ x. f x.price) (o ∷ os)) n ≡ picked o o.left + left_in (filter (λ x. f x.price) os) n
  picked_more o os = elim (f o.price) as (λ v. left_in (cond v (o ∷ filter (λ x. f x.price) os) (filter (λ x. f x.price) os)) n ≡ cond v (cond (eqb o.number n) o.left 0) 0 + left_in (filter (λ x. f x.price) os) n) [ true ↦ omega arith | false ↦ omega arith ]

  lower_picked : (m q : ℕ) (os : List Order) → (m ≡ n → ⊥) ⊎ (q ≡ 0) → left_in (filter (λ o. f o.price) (lower m q os)) n ≡ left_in (filter (λ o. f o.price) os) n
  lower_picked m q [] h = refl
  lower_picked m q (o ∷ os) h =
      let P : List Order → Type 0 = λ xs. left_in (filter (λ x. f x.price) xs) n ≡ left_in (filter (λ x. f x.price) (o ∷ os)) n in
      let here = picked_more o os in
      cond_both (eqb o.number m) _ _ P
      (λ e.
      let h' : (o.number ≡ n → ⊥) ⊎ (q ≡ 0) = subst (λ i. (i ≡ n → ⊥) ⊎ (q ≡ 0)) (sym (eqb-true o.number m e)) h in
      cond_both (leb o.left q) _ _ P
      (λ t. let le = leb-true o.left q t in
      let z = picked_same o q o.left 0 h' (λ k. omega arith) in
      let y = picked_none o in
      omega arith)
      (λ t. picked_more (with_left o (o.left - q)) os ∙ ap (λ x. x + left_in (filter (λ x. f x.price) os) n) (picked_same o q (o.left - q) o.left h' (λ k. omega arith)) ∙ sym here))
      (λ e. picked_more o (lower m q os) ∙ ap (λ x. picked o o.left + x) (lower_picked m q os h) ∙ sym here)

  trades_picked : (ts : List TapeRecord) (os : List Order) → total_traded n ts ≡ 0
      → left_in (filter (λ o. f o.price) (apply_trades ts os)) n ≡ left_in (filter (λ o. f o.price) os) n
  trades_picked [] os h = refl
  trades_picked (Trade b s p q ∷ ts) os h =
      let rest : total_traded n ts ≡ 0 = omega arith in
      let none : cond (eqb b n || eqb s n) q 0 ≡ 0 = omega arith in
      trades_picked ts (lower s q (lower b q os)) rest
      ∙ lower_picked s q (lower b q os) (untouched (eqb b n || eqb s n) s none (λ e. or_right (eqb b n) (eqb s n) (eq-eqb s n e)))
      ∙ lower_picked b q os (untouched (eqb b n || eqb s n) b none (λ e. or_left (eqb b n) (eqb s n) (eq-eqb b n e)))
    where
      untouched : (v : Bool) (m : ℕ) → cond v q 0 ≡ 0 → (m ≡ n → v ≡ true) → (m ≡ n → ⊥) ⊎ (q ≡ 0)
      untouched true m h k = inr h
      untouched false m h k = inl (λ e. false≢true (k e))
  trades_picked (Withdrawal m q r ∷ ts) os h = trades_picked ts os (omega arith)

-- under a number that traded no market order is idle
idle_none : (ts : List TapeRecord) (n : ℕ) (os : List Order) → (total_traded n ts ≡ 0 → ⊥) → left_in (filter (idle ts) os) n ≡ 0
idle_none ts n [] h = refl
idle_none ts n (o ∷ os) h =
    let i = idle_none ts n os h in
    cond_both (idle ts o) _ _ (λ xs. left_in xs n ≡ 0)
    (λ e.
    let z = eqb-true (total_traded o.number ts) 0 (and_parts (is_market o.price) (eqb (total_traded o.number ts) 0) e).1 in
    let c = counts_not o.number n o.left (λ k. h (subst (λ m. total_traded m ts ≡ 0) k z)) in
    omega arith)
    (λ _. i)

-- and under one that did not, all of them are
kept_past : (v : Bool) (o : Order) (n : ℕ) (xs : List Order) → (o.number ≡ n → ⊥) → left_in (cond v (o ∷ xs) xs) n ≡ left_in xs n
kept_past true o n xs h = omega (arith, counts_not o.number n o.left h)
kept_past false o n xs h = refl

idle_all : (ts : List TapeRecord) (n : ℕ) (os : List Order) → total_traded n ts ≡ 0 → left_in (filter (idle ts) os) n ≡ left_in (filter (λ o. is_market o.price) os) n
idle_all ts n [] h = refl
idle_all ts n (o ∷ os) h =
    let i = idle_all ts n os h in
    let xs : List Order = filter (idle ts) os in
    let ys : List Order = filter (λ x. is_market x.price) os in
    ⊎_elim
    (λ e. rw (eq-eqb (total_traded o.number ts) 0 (subst (λ m. total_traded m ts ≡ 0) (sym e) h))
    (elim (is_market o.price) as (λ v. left_in (cond (v && true) (o ∷ xs) xs) n ≡ left_in (cond v (o ∷ ys) ys) n) [ true ↦ omega arith | false ↦ i ]))
    (λ e. kept_past (idle ts o) o n xs e ∙ i ∙ sym (kept_past (is_market o.price) o n ys e))
    (cases_eq o.number n)

settled_same : (p : ℕ) → SameOrder (settled p)
settled_same p o = cond_both (is_market o.price) _ _ (λ (x : Order). (x.number ≡ o.number) × (x.left ≡ o.left)) (λ _. (refl, refl)) (λ _. (refl, refl))

-- any trades between different orders, within what is left: what stands and what the records show is what stood
struck_left : (p : ℕ) (ts : List TapeRecord) (lo hi : ℕ) (os : List Order) → Standing lo os hi → AllByRecursion TwoParties ts → ((n : ℕ) → total_withdrawn n ts ≡ 0)
    → ((n : ℕ) → total_traded n ts ≤ left_in os n) → (n : ℕ) → left_in os n ≡ accounted_for (struck_records ts os) (struck_orders p ts os) n
struck_left p ts lo hi os h a w lim n =
    let xs : List Order = apply_trades ts os in
    let after = trades_left lo hi ts os h a lim n in
    let gone : List TapeRecord = map (withdrawal AfterAuction) (filter (idle ts) os) in
    let t₁ = traded_append n ts gone in
    let t₂ = traded_withdrawals n AfterAuction (filter (idle ts) os) in
    let w₁ = withdrawn_append n ts gone in
    let w₂ = withdrawn_withdrawals n AfterAuction (filter (idle ts) os) in
    let w₃ = w n in
    let s₁ = left_map (settled p) (settled_same p) n (filter (λ o. not (idle ts o)) xs) in
    let s₂ = left_kept_both (idle ts) n xs in
    ⊎_elim
    (λ z.
    let i₁ = idle_all ts n os z in
    let i₂ = idle_all ts n xs z in
    let i₃ = trades_picked is_market n ts os z in
    omega arith)
    (λ z.
    let i₁ = idle_none ts n os z in
    let i₂ = idle_none ts n xs z in
    omega arith)
    (cases_eq (total_traded n ts) 0)

pub struck_standing : (p : ℕ) (ts : List TapeRecord) (lo hi : ℕ) (os : List Order) → Standing lo os hi → Standing lo (struck_orders p ts os) hi
struck_standing p ts lo hi os h = map_standing (settled p) (settled_same p) lo hi (filter (λ o. not (idle ts o)) (apply_trades ts os)) (kept_standing (λ o. not (idle ts o)) lo hi (apply_trades ts os) (trades_standing lo hi ts os h))

-- so of the trades of an auction at p
pub auction_left : (g : Settings) (p v lo hi : ℕ) (os : List Order) → Standing lo os hi → (n : ℕ)
    → left_in os n ≡ accounted_for (struck_records (trades_at g p v os) os) (struck_orders p (trades_at g p v os) os) n
auction_left g p v lo hi os h =
    struck_left p (trades_at g p v os) lo hi os h (trades_apart g p v os (standing_distinct lo hi os h))
    (λ n. between_withdrawn p (Party g Buy p os) (Party g Sell p os) n (trades_at g p v os) (trades_parties g p v os))
    (λ n. trades_limited g p v os (standing_alive lo hi os h) n)
