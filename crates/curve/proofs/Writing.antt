-- A run of points, written one side at a time.
use Rattle.std.proofs.Common.{◌≡◌, ℕ, ◌+◌, ◌-◌, ◌*◌, ◌<◌, ◌≤◌, Bool, true, false, cond, ltb, leb, List, map, length, get_or, set, sym, ap, ◌∙◌, subst, ⊎_elim, mul-le-mul_right, arith}
use Rattle.std.proofs.lemmas.List.{get_or_default, get_or-map, get_or-set_other, get_or-set_same, length-map, same_lists}
use Rattle.std.proofs.lemmas.Bool.{both_ways, cases_eq, cond-false, cond-true, le-leb, le-ltb, leb-false, lt-leb, lt-ltb, ltb-false}
use Rattle.std.proofs.lemmas.Bool.Decides.{nat_tests}
use Rattle.model.specs.declared.types.Side.{Side}
use Rattle.model.specs.declared.types.Side.TheVariants.{Buy, Sell}
use Rattle.model.specs.declared.types.OrderPrice.TheVariants.{Limit}
use Rattle.model.specs.declared.types.Order.{Order}
use Rattle.model.specs.declared.types.Point.{Point}
use Rattle.model.specs.Grid.{Settings, prices_from}
use Rattle.model.specs.Curve.{allows, volume, point}
use Rattle.model.specs.Rank.{ranked}
use Rattle.model.proofs.GridEnds.{length_prices, price_at}
use Rattle.walking.specs.Walks.{actives}
use Rattle.curve.specs.declared.marks.Mark.{Mark}
use Rattle.curve.specs.Reaching.{left_at, onward, Reached}
use Rattle.curve.specs.Runs.{place_in_turn, with_volume, SideWritten}
use Rattle.curve.proofs.Volumes.{volume_in_rank}

-- whether the place k of n comes before turn j
abbrev is_past : Side → ℕ → ℕ → ℕ → Bool
is_past Buy n j k = leb n (j + k)
is_past Sell n j k = ltb k j

here_not : (s : Side) (n j : ℕ) → j < n → is_past s n j (place_in_turn s n j) ≡ false
here_not Buy n j h = lt-leb n (j + (n - (j + 1))) (omega arith)
here_not Sell n j h = le-ltb j j (omega arith)

here_then : (s : Side) (n j : ℕ) → j < n → is_past s n (j + 1) (place_in_turn s n j) ≡ true
here_then Buy n j h = le-leb n (j + 1 + (n - (j + 1))) (omega arith)
here_then Sell n j h = lt-ltb j (j + 1) (omega arith)

others : (s : Side) (n j k : ℕ) → j < n → (k ≡ place_in_turn s n j → ⊥) → is_past s n (j + 1) k ≡ is_past s n j k
others Buy n j k h d = grind (arith, nat_tests)
others Sell n j k h d = grind (arith, nat_tests)

none_first : (s : Side) (n k : ℕ) → k < n → is_past s n 0 k ≡ false
none_first Buy n k h = lt-leb n (0 + k) (omega arith)
none_first Sell n k h = le-ltb k 0 (omega arith)

all_last : (s : Side) (n j k : ℕ) → k < n → n ≤ j → is_past s n j k ≡ true
all_last Buy n j k h e = le-leb n (j + k) (omega arith)
all_last Sell n j k h e = lt-ltb k j (omega arith)

-- the limit at the price of a turn allows the prices of later turns, and its own
goes_on : (s : Side) (n j k from t : ℕ) → j < n → k < n → is_past s n (j + 1) k ≡ false → allows s (Limit (from + place_in_turn s n j * t)) (from + k * t) ≡ true
goes_on Buy n j k from t h l e =
    let le : k ≤ n - (j + 1) = omega (arith, leb-false n (j + 1 + k) e) in
    le-leb (from + k * t) (from + (n - (j + 1)) * t) (omega (arith, mul-le-mul_right t le))
goes_on Sell n j k from t h l e =
    let le : j ≤ k = omega (arith, ltb-false k (j + 1) e) in
    le-leb (from + j * t) (from + k * t) (omega (arith, mul-le-mul_right t le))

allows_own : (s : Side) (p : ℕ) → allows s (Limit p) p ≡ true
allows_own Buy p = le-leb p p (omega arith)
allows_own Sell p = le-leb p p (omega arith)

-- before turn j: what the mark counted is right at the prices to come, and the points of the places past are written
pub record Written (g : Settings) (s : Side) (xs : List Order) (from : ℕ) (start : List Point) (j : ℕ) (m : Mark) (points : List Point) : Type 0 where
  pub ahead : (k : ℕ) → k < length start → is_past s (length start) j k ≡ false → onward g s xs m (from + k * g.tick) ≡ left_at s (from + k * g.tick) (actives g xs)
  pub shown : (k : ℕ) (d : Point) → k < length start
      → get_or points k d ≡ cond (is_past s (length start) j k) (with_volume s (get_or start k d) (from + k * g.tick) (left_at s (from + k * g.tick) (actives g xs))) (get_or start k d)

module _ (g : Settings) (s : Side) (xs : List Order) (from : ℕ) (start : List Point) where
  abbrev wanted : ℕ → Point → Point
  wanted k d = with_volume s (get_or start k d) (from + k * g.tick) (left_at s (from + k * g.tick) (actives g xs))

  pub written_none : (m : Mark) → ((q : ℕ) → onward g s xs m q ≡ left_at s q (actives g xs)) → Written g s xs from start 0 m start
  written_none m h = record {
    ahead = λ k l _. h (from + k * g.tick);
    shown = λ k d l. sym (cond-false (is_past s (length start) 0 k) _ _ (none_first s (length start) k l));
  }

  module _ (j : ℕ) (m : Mark) (points : List Point) (h : Written g s xs from start j m points) (l : j < length start) where
    pub written_more : length points ≡ length start → (i : ℕ) → i ≡ place_in_turn s (length start) j → i < length start → (p : ℕ) → p ≡ from + i * g.tick → (r : Mark) → Reached g s xs p m r
        → (x : Point) (w : Point) → w ≡ with_volume s (get_or points i x) p r.total → Written g s xs from start (j + 1) r (set points i w)
    written_more long i ei li p ep r reach x w ew = record {
      ahead = λ k lk e. reach.further (from + k * g.tick) (subst (λ v. allows s (Limit v) (from + k * g.tick) ≡ true) (sym price) (goes_on s n j k from g.tick l lk e)) ∙ h.ahead k lk (⊎_elim (λ q. absurd (both_ways (is_past s n (j + 1) k) e (subst (λ v. is_past s n (j + 1) v ≡ true) (sym (q ∙ ei)) (here_then s n j l)))) (λ d. sym (others s n j k l (λ q. d (q ∙ sym ei))) ∙ e) (cases_eq k i));
      shown = λ k d lk. ⊎_elim (λ q. subst (λ v. get_or (set points i w) v d ≡ cond (is_past s n (j + 1) v) (wanted v d) (get_or start v d)) (sym q) (own d)) (λ q. get_or-set_other points i k w d q ∙ h.shown k d lk ∙ ap (λ v. cond v (wanted k d) (get_or start k d)) (sym (others s n j k l (λ z. q (z ∙ sym ei))))) (cases_eq k i);
    }
      where
        n : ℕ
        n = length start

        price : p ≡ from + place_in_turn s n j * g.tick
        price = ep ∙ ap (λ v. from + v * g.tick) ei

        before : is_past s n j i ≡ false
        before = subst (λ v. is_past s n j v ≡ false) (sym ei) (here_not s n j l)

        total : r.total ≡ left_at s (from + i * g.tick) (actives g xs)
        total = omega (arith, reach.none_left, reach.further p (allows_own s p), subst (λ v. onward g s xs m v ≡ left_at s v (actives g xs)) (sym ep) (h.ahead i li before), ap (λ v. left_at s v (actives g xs)) ep)

        was : (d : Point) → get_or points i x ≡ get_or start i d
        was d = get_or_default points i x d (omega arith) ∙ h.shown i d li ∙ cond-false (is_past s n j i) _ _ before

        own : (d : Point) → get_or (set points i w) i d ≡ cond (is_past s n (j + 1) i) (wanted i d) (get_or start i d)
        own d =
            get_or-set_same points i w d (omega arith)
            ∙ ew
            ∙ ap (λ v. with_volume s v p r.total) (was d)
            ∙ ap (λ v. with_volume s (get_or start i d) v r.total) ep
            ∙ ap (with_volume s (get_or start i d) (from + i * g.tick)) total
            ∙ sym (cond-true (is_past s n (j + 1) i) _ _ (subst (λ v. is_past s n (j + 1) v ≡ true) (sym ei) (here_then s n j l)))

-- after the last turn every point has the side's volume
pub written_all : (g : Settings) (s : Side) (os : List Order) (from : ℕ) (start : List Point) (j : ℕ) (m : Mark) (points : List Point) → Written g s (ranked s os) from start j m points → length start ≤ j
    → SideWritten g os s from start points
written_all g s os from start j m points h e k d l =
    h.shown k d l
    ∙ cond-true (is_past s (length start) j k) _ _ (all_last s (length start) j k l e)
    ∙ ap (with_volume s (get_or start k d) (from + k * g.tick)) (volume_in_rank g s (from + k * g.tick) os)

-- a run with both sides written
pub written_both : (g : Settings) (os : List Order) (from : ℕ) (start once twice : List Point) → length once ≡ length start → length twice ≡ length once
    → SideWritten g os Buy from start once → SideWritten g os Sell from once twice → twice ≡ map (point g os) (prices_from g.tick from (length start))
written_both g os from start once twice e f buys sells =
    let n : ℕ = length start in
    let ps : List ℕ = prices_from g.tick from n in
    let ln : length ps ≡ n = length_prices g.tick from n in
    same_lists twice (map (point g os) ps) (f ∙ e ∙ sym (length-map ps (point g os) ∙ ln))
    (λ k d l.
    let lk : k < n = omega arith in
    let p : ℕ = from + k * g.tick in
    sells k d (omega arith)
    ∙ ap (λ x. with_volume Sell x p (volume g Sell p os)) (buys k d lk)
    ∙ sym (get_or-map (point g os) ps k 0 d (omega arith) ∙ ap (point g os) (price_at g.tick from n k 0 lk)))
