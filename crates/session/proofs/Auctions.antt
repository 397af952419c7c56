-- An auction as a call for a price, and then its strike or its put-back.
use Rattle.std.proofs.Common.{◌≡◌, ℕ, zero, suc, ◌+◌, ◌<◌, true, cond, List, length, Some, Ok, Err, Result, is_err, sym, refl, ap, ◌∙◌, subst, add-zero, arith}
use Rattle.std.proofs.lemmas.Bool.{eq-eqb}
use Rattle.model.specs.declared.types.Phase.TheVariants.{Random, Called}
use Rattle.model.specs.declared.types.Point.{Point}
use Rattle.model.specs.declared.types.Refusal.{Refusal}
use Rattle.model.specs.declared.types.TapeRecord.{TapeRecord}
use Rattle.model.specs.Numbers.{code}
use Rattle.model.specs.Curve.{traded}
use Rattle.model.specs.Records.{written}
use Rattle.model.specs.Rules.{Rule}
use Rattle.model.specs.State.{State, Outcome, is_random, refuse, unless}
use Rattle.model.specs.Auction.{call_price}
use Rattle.model.specs.Calls.{begun, priced, call_result, call_refusal, call, struck, strike, put_back, auction_after, auction}
use Rattle.model.specs.Views.{Came}
use Rattle.model.proofs.Sound.{unless_both}
use Rattle.session.specs.declared.called.CalledPrice.{CalledPrice}
use Rattle.session.specs.Tokens.{PricedToken, Spent}
use Rattle.model.proofs.Course.{random_is}

-- no refusal has the number 0
code_some : (r : Refusal) → 0 < code r
code_some r = grind arith

unless_done : (k : ℕ) (s : State) (o : Outcome) → k ≡ 0 → unless k s o ≡ o
unless_done k s o e = rw e refl

unless_refused : (k : ℕ) (s : State) (o : Outcome) → 0 < k → unless k s o ≡ refuse k s
unless_refused zero s o l = absurd (omega arith)
unless_refused (suc n) s o l = refl

-- the price that is called is put back
put_back_called : (s : State) (p v : ℕ) → s.phase ≡ Called p v → put_back s p v ≡ begun s
put_back_called s p v e = rw (e, eq-eqb p p refl, eq-eqb v v refl) refl

-- the random period that goes on is the one before the call
back_is : (s : State) (x : Point) → s.phase ≡ Random → (begun (priced s x).state).state ≡ s
back_is s x e = rw (add-zero (s.used + 0), add-zero s.used, ← e) refl

-- a strike of what is the same
moved : {s s' : State} {t t' : List TapeRecord} {p p' v v' : ℕ} {a : Result ℕ Refusal} {end : State} {tape : List TapeRecord} → s ≡ s' → t ≡ t' → p ≡ p' → v ≡ v'
    → Came (strike s (length t) p v) a end t s.used tape → Came (strike s' (length t') p' v') a end t' s'.used tape
moved es et ep ev h = rw (es, et, ep, ev) at h

-- the session after a strike: where it is refused, the price is put back
abbrev pub ended : State → CalledPrice → Result ℕ Refusal → State
ended s t r = cond (is_err r) (put_back s t.price t.quantity).state s

module _ (r : Rule) (s : State) (scratch : ℕ) (before : List TapeRecord) (s₁ : State) (tape₁ : List TapeRecord) (t : CalledPrice) (told : PricedToken r s s₁ (Some t)) (k : Came (call r s (length before) scratch) (Ok 0) s₁ before s.used tape₁) where
  abbrev x : Point
  x = told.0

  abbrev st : State
  st = (priced s x).state

  abbrev strikes : Outcome
  strikes = strike st (length before) x.price (traded x)

  call_priced : call r s (length before) scratch ≡ priced s x
  call_priced =
      unless_both (λ o. o.refusal ≡ 0 → o ≡ priced s x) (call_refusal s scratch) s (call_result s (length before) (call_price r s.settings s.orders))
      (λ n z. absurd (omega arith)) (λ _ _. ap (call_result s (length before)) told.1) (sym k.refusal)

  auction_is : auction r s (length before) scratch ≡ unless strikes.refusal s strikes
  auction_is = ap (λ o. auction_after s (length before) o o.refusal) call_priced

  state_is : s₁ ≡ st
  state_is = k.state ∙ ap (λ o. o.state) call_priced

  tape_is : tape₁ ≡ before
  tape_is = k.tape ∙ ap (λ o. written before s.used o.records) call_priced

  module _ (s₂ : State) (tape₂ : List TapeRecord) where
    struck_is : (a : Result ℕ Refusal) → Came (strike s₁ (length tape₁) t.price t.quantity) a s₂ tape₁ s₁.used tape₂ → Came strikes a s₂ before s.used tape₂
    struck_is a h = subst (λ n. Came strikes a s₂ before n tape₂) (add-zero s.used) (moved state_is tape_is told.2 told.3 h)

    -- the auction, by what its strike came to
    pub auction_ended : (a : Result ℕ Refusal) → Came (strike s₁ (length tape₁) t.price t.quantity) a s₂ tape₁ s₁.used tape₂
        → (t' : CalledPrice) → Spent t t' a → (s₃ : State) → is_random s.phase ≡ true → s₃ ≡ ended s₂ t' a → Came (auction r s (length before) scratch) a s₃ before s.used tape₂
    auction_ended (Ok q) h t' spent s₃ random end =
        let h' = struck_is (Ok q) h in
        subst (λ o. Came o (Ok q) s₃ before s.used tape₂) (sym (auction_is ∙ unless_done strikes.refusal s strikes (sym h'.refusal)))
        (subst (λ z. Came strikes (Ok q) z before s.used tape₂) (sym end) h')
    auction_ended (Err e) h t' spent s₃ random end =
        let h' = struck_is (Err e) h in
        let some : 0 < strikes.refusal = subst (λ n. 0 < n) h'.refusal (code_some e) in
        let refused : strikes ≡ refuse strikes.refusal st = unless_both (λ o. 0 < o.refusal → o ≡ refuse o.refusal st) _ st (struck st x.price (traded x)) (λ n _. refl) (λ _ l. absurd (omega arith)) some in
        let left : s₂ ≡ st = h'.state ∙ ap (λ o. o.state) refused in
        let back : put_back s₂ t'.price t'.quantity ≡ begun st =
        ap (λ z. put_back s₂ z.price z.quantity) spent ∙ ap (λ z. put_back z t.price t.quantity) left
        ∙ ap (λ z. put_back st z t.quantity) told.2 ∙ ap (λ z. put_back st x.price z) told.3 ∙ put_back_called st x.price (traded x) refl in
        subst (λ o. Came o (Err e) s₃ before s.used tape₂) (sym (auction_is ∙ unless_refused strikes.refusal s strikes some))
        (record {
          refusal = h'.refusal;
          answer = refl;
          state = end ∙ ap (λ o. o.state) back ∙ back_is s x (random_is s.phase random);
          tape = h'.tape ∙ ap (λ o. written before s.used o.records) refused;
        })
