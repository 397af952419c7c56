-- What some records show traded, withdrawn, bought and sold of an order, and in all.
use Rattle.std.proofs.Common.{◌≡◌, ℕ, ◌+◌, ◌≤◌, Bool, true, false, cond, ◌||◌, eqb, List, [], ◌∷◌, ◌++◌, map, sym, refl, ap, ◌∙◌, arith}
use Rattle.std.specs.List.{AllByRecursion}
use Rattle.std.proofs.lemmas.Bool.{eqb-true}
use Rattle.model.specs.Types.{Order, Reason, TapeRecord, Trade, Withdrawal}
use Rattle.model.specs.Orders.{left_in, withdrawal}
use Rattle.model.specs.Records.{total_traded, total_withdrawn}
use Rattle.model.specs.Allocations.{quantity_of, total_quantity, deals, all_at}
use Rattle.model.specs.Laws.{TwoParties}

-- two tapes together
pub traded_append : (n : ℕ) (xs ys : List TapeRecord) → total_traded n (xs ++ ys) ≡ total_traded n xs + total_traded n ys
traded_append n [] ys = omega arith
traded_append n (x ∷ xs) ys = let i = traded_append n xs ys in omega arith

pub withdrawn_append : (n : ℕ) (xs ys : List TapeRecord) → total_withdrawn n (xs ++ ys) ≡ total_withdrawn n xs + total_withdrawn n ys
withdrawn_append n [] ys = omega arith
withdrawn_append n (Trade b s p q ∷ xs) ys = withdrawn_append n xs ys
withdrawn_append n (Withdrawal m q r ∷ xs) ys = let i = withdrawn_append n xs ys in omega arith

-- withdrawals of some orders show what was left of them, and no trade
pub traded_withdrawals : (n : ℕ) (reason : Reason) (os : List Order) → total_traded n (map (withdrawal reason) os) ≡ 0
traded_withdrawals n reason [] = refl
traded_withdrawals n reason (o ∷ os) = let i = traded_withdrawals n reason os in omega arith

pub withdrawn_withdrawals : (n : ℕ) (reason : Reason) (os : List Order) → total_withdrawn n (map (withdrawal reason) os) ≡ left_in os n
withdrawn_withdrawals n reason [] = refl
withdrawn_withdrawals n reason (o ∷ os) = let i = withdrawn_withdrawals n reason os in omega arith

-- what records buy of the order n, and what they sell of it
abbrev pub bought : ℕ → List TapeRecord → ℕ
bought n [] = 0
bought n (Trade b s p q ∷ ts) = cond (eqb b n) q 0 + bought n ts
bought n (Withdrawal m q r ∷ ts) = bought n ts

abbrev pub sold : ℕ → List TapeRecord → ℕ
sold n [] = 0
sold n (Trade b s p q ∷ ts) = cond (eqb s n) q 0 + sold n ts
sold n (Withdrawal m q r ∷ ts) = sold n ts

pub bought_append : (n : ℕ) (ts us : List TapeRecord) → bought n (ts ++ us) ≡ bought n ts + bought n us
bought_append n [] us = omega arith
bought_append n (Trade b s p q ∷ ts) us = omega (arith, bought_append n ts us)
bought_append n (Withdrawal m q r ∷ ts) us = bought_append n ts us

pub sold_append : (n : ℕ) (ts us : List TapeRecord) → sold n (ts ++ us) ≡ sold n ts + sold n us
sold_append n [] us = omega arith
sold_append n (Trade b s p q ∷ ts) us = omega (arith, sold_append n ts us)
sold_append n (Withdrawal m q r ∷ ts) us = sold_append n ts us

pub quantity_append : (ts us : List TapeRecord) → total_quantity (deals (ts ++ us)) ≡ total_quantity (deals ts) + total_quantity (deals us)
quantity_append [] us = omega arith
quantity_append (Trade b s p q ∷ ts) us = omega (arith, quantity_append ts us)
quantity_append (Withdrawal m q r ∷ ts) us = quantity_append ts us

-- what is traded of an order is bought of it or sold of it
pub traded_le_both : (n : ℕ) (ts : List TapeRecord) → total_traded n ts ≤ bought n ts + sold n ts
traded_le_both n [] = omega arith
traded_le_both n (Trade b s p q ∷ ts) = grind (arith, traded_le_both n ts)
traded_le_both n (Withdrawal m q r ∷ ts) = omega (arith, traded_le_both n ts)

pub bought_le_traded : (n : ℕ) (ts : List TapeRecord) → bought n ts ≤ total_traded n ts
bought_le_traded n [] = omega arith
bought_le_traded n (Trade b s p q ∷ ts) = grind (arith, bought_le_traded n ts)
bought_le_traded n (Withdrawal m q r ∷ ts) = omega (arith, bought_le_traded n ts)

pub sold_le_traded : (n : ℕ) (ts : List TapeRecord) → sold n ts ≤ total_traded n ts
sold_le_traded n [] = omega arith
sold_le_traded n (Trade b s p q ∷ ts) = grind (arith, sold_le_traded n ts)
sold_le_traded n (Withdrawal m q r ∷ ts) = omega (arith, sold_le_traded n ts)

-- the deals of records trade what the records trade
pub quantity_of_deals : (n : ℕ) (ts : List TapeRecord) → quantity_of n (deals ts) ≡ total_traded n ts
quantity_of_deals n [] = refl
quantity_of_deals n (Trade b s p q ∷ ts) = ap (λ x. cond (eqb b n || eqb s n) q 0 + x) (quantity_of_deals n ts)
quantity_of_deals n (Withdrawal m q r ∷ ts) = omega (arith, quantity_of_deals n ts)

-- withdrawals are no deals
pub deals_withdrawn : (ts : List TapeRecord) (reason : Reason) (os : List Order) → deals (ts ++ map (withdrawal reason) os) ≡ deals ts
deals_withdrawn [] reason [] = refl
deals_withdrawn [] reason (o ∷ os) = deals_withdrawn [] reason os
deals_withdrawn (Trade b s p q ∷ ts) reason os = ap (λ ds. record { buy = b; sell = s; quantity = q } ∷ ds) (deals_withdrawn ts reason os)
deals_withdrawn (Withdrawal n q r ∷ ts) reason os = deals_withdrawn ts reason os

pub at_withdrawn : (p : ℕ) (ts : List TapeRecord) (reason : Reason) (os : List Order) → all_at p ts → all_at p (ts ++ map (withdrawal reason) os)
at_withdrawn p [] reason [] h = tt
at_withdrawn p [] reason (o ∷ os) h = at_withdrawn p [] reason os h
at_withdrawn p (Trade b s x q ∷ ts) reason os h = (h.0, at_withdrawn p ts reason os h.1)
at_withdrawn p (Withdrawal n q r ∷ ts) reason os h = at_withdrawn p ts reason os h

-- a trade counts once under each of its two numbers
pub trade_of_two : (b s q n : ℕ) → (b ≡ s → ⊥) → cond (eqb b n || eqb s n) q 0 ≡ cond (eqb b n) q 0 + cond (eqb s n) q 0
trade_of_two b s q n h = go (eqb b n) refl (eqb s n) refl
  where
    go : (x : Bool) → eqb b n ≡ x → (y : Bool) → eqb s n ≡ y → cond (x || y) q 0 ≡ cond x q 0 + cond y q 0
    go true e true f = absurd (h (eqb-true b n e ∙ sym (eqb-true s n f)))
    go true e false f = omega arith
    go false e true f = omega arith
    go false e false f = omega arith

pub withdrawals_apart : (reason : Reason) (os : List Order) → AllByRecursion TwoParties (map (withdrawal reason) os)
withdrawals_apart reason [] = tt
withdrawals_apart reason (o ∷ os) = (tt, withdrawals_apart reason os)
