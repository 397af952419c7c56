-- What becomes of market orders after the trades of a strike.
use Rattle.std.proofs.Common.{◌≡◌, ℕ, ◌≤◌, Bool, true, cond, not, ◌&&◌, ◌||◌, eqb, List, [], ◌∷◌, map, filter, refl, ◌∙◌, subst, arith}
use Rattle.std.specs.List.{AllByRecursion}
use Rattle.std.proofs.lemmas.Bool.Decides.{nat_tests}
use Rattle.std.proofs.lemmas.Bool.{cond-true, eq-eqb, or_left, or_right}
use Rattle.model.specs.declared.types.OrderPrice.TheVariants.{Limit}
use Rattle.model.specs.declared.types.Order.{Order}
use Rattle.model.specs.declared.types.TapeRecord.{TapeRecord}
use Rattle.model.specs.declared.types.TapeRecord.TheVariants.{Trade, Withdrawal}
use Rattle.model.specs.Numbers.{max_price, in_range}
use Rattle.model.specs.Orders.{lower, with_price, is_market}
use Rattle.model.specs.Records.{total_traded}
use Rattle.model.specs.Calls.{is_market_order}
use Rattle.model.specs.Auction.{apply_trades, idle, settled}
use Rattle.model.proofs.Ranking.{Distinct}
use Rattle.striking.specs.Settled.{turned}
use Rattle.model.proofs.Commuting.{Lacks}
use Rattle.striking.proofs.Lasting.{Positive}

-- an order turned into a limit order at p, where it is the market order n
abbrev pub settle : ℕ → ℕ → Order → Order
settle n p o = cond (eqb o.number n && is_market o.price) (with_price o (Limit p)) o

map_missing : (n p : ℕ) (os : List Order) → Lacks n os → map (settle n p) os ≡ os
map_missing n p [] h = refl
map_missing n p (o ∷ os) h = grind (arith, nat_tests, h.0, map_missing n p os h.1)

-- turning is settling each
pub turned_map : (n p : ℕ) (os : List Order) → in_range 1 max_price p ≡ true → Distinct os → turned n p os ≡ map (settle n p) os
turned_map n p [] r d = refl
turned_map n p (o ∷ os) r d =
    let i = turned_map n p os r d.1 in
    let m : o.number ≡ n → map (settle n p) os ≡ os = λ e. map_missing n p os (subst (λ k. Lacks k os) e d.0) in
    grind (arith, nat_tests, r, i, m)

-- an order traded exactly where its number is b or s
abbrev pub Told : List TapeRecord → ℕ → ℕ → Order → Type 0
Told ts b s o = eqb (total_traded o.number ts) 0 ≡ not (eqb o.number b || eqb o.number s)

abbrev pub no_market : Order → Bool
no_market o = not (is_market_order o)

-- the orders after both were turned
module _ (ts : List TapeRecord) (p b s : ℕ) where
  abbrev both : List Order → List Order
  both os = map (settle s p) (map (settle b p) os)

  -- without the market orders they are the settled orders without the idle ones
  pub settled_kept : (os : List Order) → AllByRecursion (Told ts b s) os → filter no_market (both os) ≡ map (settled p) (filter (λ o. not (idle ts o)) os)
  settled_kept [] h = refl
  settled_kept (o ∷ os) h = grind (arith, h.0, settled_kept os h.1)

  -- and the market orders are the idle ones
  pub idle_kept : (os : List Order) → AllByRecursion (Told ts b s) os → filter is_market_order (both os) ≡ filter (idle ts) os
  idle_kept [] h = refl
  idle_kept (o ∷ os) h = grind (arith, h.0, idle_kept os h.1)

-- the trades leave the idle orders as they were
module _ (us : List TapeRecord) where
  idle_lower : (n q : ℕ) (os : List Order) → (total_traded n us ≡ 0 → ⊥) → filter (idle us) (lower n q os) ≡ filter (idle us) os
  idle_lower n q [] h = refl
  idle_lower n q (o ∷ os) h = grind (arith, nat_tests, h, idle_lower n q os h)

  pub idle_trades : (ts : List TapeRecord) (os : List Order) → AllByRecursion Positive ts → ((n : ℕ) → total_traded n ts ≤ total_traded n us) → filter (idle us) (apply_trades ts os) ≡ filter (idle us) os
  idle_trades [] os h w = refl
  idle_trades (Trade b s p q ∷ ts) os h w =
      idle_trades ts (lower s q (lower b q os)) h.1 (λ n. omega (arith, w n))
      ∙ idle_lower s q (lower b q os) (λ z. omega (arith, h.0, w s, z, cond-true (eqb b s || eqb s s) q 0 (or_right (eqb b s) (eqb s s) (eq-eqb s s refl))))
      ∙ idle_lower b q os (λ z. omega (arith, h.0, w b, z, cond-true (eqb b b || eqb s b) q 0 (or_left (eqb b b) (eqb s b) (eq-eqb b b refl))))
  idle_trades (Withdrawal n q r ∷ ts) os h w = absurd h.0
