-- A walk over the orders of a side that may trade at a price.
use Rattle.std.proofs.Common.{◌≡◌, ℕ, ◌+◌, ◌≤◌, Bool, true, false, cond, ◌&&◌, List, [], ◌∷◌, length, drop, Some, None, filter, Option, sym, refl, ap, ◌∙◌, subst, ⊎_elim, arith}
use Rattle.std.specs.Bool.{then_some}
use Rattle.std.specs.Option.{MatchOption}
use Rattle.std.specs.List.{ContainsAt as Has, AllByRecursion}
use Rattle.std.proofs.lemmas.Bool.{cond-true, cases_Bool, both_ways}
use Rattle.std.proofs.ByRecursion.{All-drop, all-has, all_has_itself, All-weaker, kept_by_passes}
use Rattle.model.specs.declared.types.Order.{Order}
use Rattle.model.specs.declared.types.Side.{Side}
use Rattle.model.specs.Grid.{Settings, active}
use Rattle.model.specs.Curve.{allows, takes_part}
use Rattle.model.specs.Rank.{ranked}
use Rattle.model.specs.Auction.{at_price}
use Rattle.model.proofs.Lists.{Pairwise, has_here, kept_has, pairwise_drop, pairwise_kept, kept_none}
use Rattle.model.proofs.Ranking.{Wider, ranked_wider, of_side, all_ranked, ranked_has}
use Rattle.walking.specs.Walks.{actives, Found, Next}
use Rattle.model.specs.Orders.{Standing}
use Rattle.model.proofs.Lengths.{length_ranked}
use Rattle.model.proofs.Standing.{standing_alive}
use Rattle.book.specs.Plain.{plain}
use Rattle.book.specs.Meaning.{max_capacity}
use Rattle.walking.specs.declared.placed.Placed.{Placed}
use Rattle.striking.specs.Parties.{willing, parties, First}
use Rattle.model.proofs.Commuting.{kept_ranked}

-- of the orders of a side, those that take part are the active ones that allow the price
parts_willing : (g : Settings) (s : Side) (p : ℕ) (xs : List Order) → AllByRecursion (λ x. of_side s x ≡ true) xs → filter (takes_part g s p) xs ≡ willing s p (actives g xs)
parts_willing g s p [] h = refl
parts_willing g s p (x ∷ xs) h =
    let i = parts_willing g s p xs h.1 in
    let ks : List Order = filter (takes_part g s p) xs in
    ap (λ b. cond (b && (active g x.price && allows s x.price p)) (x ∷ ks) ks) h.0
    ∙ elim (active g x.price) as (λ a. cond (a && allows s x.price p) (x ∷ ks) ks ≡ willing s p (cond a (x ∷ actives g xs) (actives g xs))) [ true ↦ ap (λ l. cond (allows s x.price p) (x ∷ l) l) i | false ↦ i ]

pub at_price_parties : (g : Settings) (s : Side) (p : ℕ) (os : List Order) → at_price g s p os ≡ parties g s p 0 os
at_price_parties g s p os = sym (kept_ranked (takes_part g s p) s os) ∙ parts_willing g s p (ranked s os) (all_ranked (λ x. of_side s x ≡ true) s os (kept_by_passes (of_side s) os))

-- where the first of some active orders in rank does not allow the price, no later one does
none_willing : (s : Side) (p : ℕ) (o : Order) (ys : List Order) → AllByRecursion (λ y. Wider s o.price y.price) ys → allows s o.price p ≡ false → willing s p (o ∷ ys) ≡ []
none_willing s p o ys h e =
    kept_none (λ x. allows s x.price p) (o ∷ ys) (
      e,
      All-weaker (λ y. Wider s o.price y.price) (λ y. allows s y.price p ≡ false) (λ y w. ⊎_elim (λ t. absurd (both_ways (allows s o.price p) e (w p t))) (λ t. t) (cases_Bool (allows s y.price p))) ys h,
    )

module _ (g : Settings) (s : Side) (p : ℕ) (os : List Order) (from k : ℕ) (o : Order) (f : Found g (ranked s os) from k o) where
  party_here : allows s o.price p ≡ true → parties g s p from os ≡ o ∷ parties g s p (k + 1) os
  party_here e = ap (willing s p) f.onward ∙ cond-true (allows s o.price p) _ _ e

  party_none : allows s o.price p ≡ false → parties g s p from os ≡ []
  party_none e =
      let wide : Pairwise (λ x y. Wider s x.price y.price) (actives g (drop from (ranked s os))) = pairwise_kept (λ x y. Wider s x.price y.price) (λ x. active g x.price) (drop from (ranked s os)) (pairwise_drop (λ x y. Wider s x.price y.price) from (ranked s os) (ranked_wider s os)) in
      let here : Pairwise (λ x y. Wider s x.price y.price) (o ∷ actives g (drop (k + 1) (ranked s os))) = subst (Pairwise (λ x y. Wider s x.price y.price)) f.onward wide in
      ap (willing s p) f.onward ∙ none_willing s p o (actives g (drop (k + 1) (ranked s os))) here.0 e

-- an order at a place in rank stands, on that side
module _ (s : Side) (os : List Order) where
  pub has_at_place : (k : ℕ) (o : Order) (xs : List Order) → drop k (ranked s os) ≡ o ∷ xs → Has (ranked s os) o
  has_at_place k o xs e = all-has (Has (ranked s os)) (drop k (ranked s os)) o (All-drop (Has (ranked s os)) k (ranked s os) (all_has_itself (ranked s os))) (subst (λ l. Has l o) (sym e) (has_here o xs))

  pub ranked_stands : (o : Order) → Has (ranked s os) o → Has os o × (of_side s o ≡ true)
  ranked_stands o h = kept_has (of_side s) os o (ranked_has s os o h)

-- the first active order is the first party, or there is none
first_is : (g : Settings) (s : Side) (p hi : ℕ) (os : List Order) (from : ℕ) (f : Placed) → Standing 0 os hi → length os ≤ max_capacity → Found g (ranked s os) from f.place (plain f.order) → (b : Bool) → b ≡ allows s f.order.price p → First g s p os from (then_some b f)
first_is g s p hi os from f st few h true e = record {
  place = omega (arith, h.place, length_ranked s os, few);
  some = all-has (λ x. 1 ≤ x.left) os (plain f.order) (standing_alive 0 hi os st) (ranked_stands s os (plain f.order) (has_at_place s os f.place (plain f.order) _ h.here)).0;
  here = h.here;
  none_between = h.none_between;
  onward = h.onward;
  first = party_here g s p os from f.place (plain f.order) h (sym e);
}
first_is g s p hi os from f st few h false e = party_none g s p os from f.place (plain f.order) h (sym e)

-- so what passes of the first active order is the first party
pub first_passing : (g : Settings) (s : Side) (p hi : ℕ) (os : List Order) (from : ℕ) (a r : Option Placed) (Test : Placed → Bool → Type 0) → Standing 0 os hi → length os ≤ max_capacity → Next g (ranked s os) from a
    → ((f : Placed) (b : Bool) → Test f b → b ≡ allows s (plain f.order).price p) → MatchOption a (r ≡ None) (λ f. (b : Bool) × Test f b × (r ≡ then_some b f)) → First g s p os from r
first_passing g s p hi os from None r Test st few n t h = subst (First g s p os from) (sym h) (ap (willing s p) n)
first_passing g s p hi os from (Some f) r Test st few n t h = subst (First g s p os from) (sym h.2) (first_is g s p hi os from f st few n h.0 (t f h.0 h.1))
