-- What one turn of a loop over a list of calls keeps.
use Rattle.std.proofs.Common.{◌≡◌, ℕ, zero, suc, ◌+◌, ◌<◌, ◌≤◌, leb, List, [], ◌∷◌, ◌++◌, map, length, get_or, take, drop, set, sym, refl, ap, ◌∙◌, subst, append_assoc, append-nil, arith, length-append}
use Rattle.std.proofs.lemmas.List.{get_or_default, length-set, length-map, length-drop, drop-drop, take_more_set, drop-set-lt, drop_more, drop_all, take-append-drop}
use Rattle.std.proofs.lemmas.Bool.{leb-true}
use Rattle.model.specs.Types.{Point, WrongPhase, ScratchTooShort, TapeRecord, Call, Enter, Withdraw, BeginRandom, Auction, Close, Answer}
use Rattle.model.specs.Numbers.{no_refusal}
use Rattle.model.specs.Grid.{count, grid}
use Rattle.model.specs.Curve.{point, curve}
use Rattle.model.specs.Rules.{Rule}
use Rattle.model.specs.Records.{written}
use Rattle.model.specs.State.{State, is_random, Outcome, ask}
use Rattle.model.specs.Calls.{call_refusal, scratch_called}
use Rattle.model.specs.Run.{step, run, after, records, written_answer, scratch_step, scratch_run, Ran}
use Rattle.model.proofs.GridEnds.{count_is}
use Rattle.model.proofs.Sound.{Sound, ask_yes}
use Rattle.model.proofs.Conserved.{step_sound}
use Rattle.model.proofs.Tapes.{written_append, length_written}
use Rattle.model.proofs.OnTape.{step_placed}

pub length_curve : (s : State) → length (curve s.settings s.orders) ≡ count s.settings
length_curve s = length-map (grid s.settings) (point s.settings s.orders) ∙ count_is s.settings

length_called : (s : State) (x : List Point) (n : ℕ) → call_refusal s (length x) ≡ n → length (scratch_called s x n) ≡ length x
length_called s x zero z =
    let k : ℕ = count s.settings in
    let room : ℕ = ask (leb k (length x)) ScratchTooShort no_refusal in
    let a = ask_yes (is_random s.phase) WrongPhase room (omega arith) z in
    let b = ask_yes (leb k (length x)) ScratchTooShort no_refusal (omega arith) a.1 in
    let le : k ≤ length x = leb-true k (length x) b.0 in
    length-append (curve s.settings s.orders) (drop k x) ∙ omega (arith, length_curve s, length-drop k x, le)
length_called s x (suc n) z = refl

-- a call leaves the scratch as long as it was
pub length_scratch_step : (s : State) (c : Call) (x : List Point) → length (scratch_step s c x) ≡ length x
length_scratch_step s (Enter e) x = refl
length_scratch_step s (Withdraw m n) x = refl
length_scratch_step s BeginRandom x = refl
length_scratch_step s Auction x = length_called s x (call_refusal s (length x)) refl
length_scratch_step s Close x = refl

-- every call has an outcome
pub length_run : (r : Rule) (T X : ℕ) (s : State) (cs : List Call) → length (run r T X s cs) ≡ length cs
length_run r T X s [] = refl
length_run r T X s (c ∷ cs) = ap suc (length_run r T X (step r T X s c).state cs)

-- what is left of the calls, from the session s, gives the whole run
pub record Sofar (r : Rule) (T X : ℕ) (before s : State) (cs : List Call) (i : ℕ) (a₀ a : List Answer) (t₀ t : List TapeRecord) (x₀ x : List Point) : Type 0 where
  pub state : after s (run r T X s (drop i cs)) ≡ after before (run r T X before cs)
  pub answers : take i a ++ map written_answer (run r T X s (drop i cs)) ≡ map written_answer (run r T X before cs)
  pub rest : drop i a ≡ drop i a₀
  pub tape : written t s.used (records (run r T X s (drop i cs))) ≡ written t₀ before.used (records (run r T X before cs))
  pub scratch : scratch_run s (drop i cs) (run r T X s (drop i cs)) x ≡ scratch_run before cs (run r T X before cs) x₀
  pub tape_long : length t ≡ T
  pub scratch_long : length x ≡ X
  pub wide : length a ≡ length a₀
  pub sound : Sound s

module _ {r : Rule} {T X : ℕ} {before s : State} {cs : List Call} {i : ℕ} {a₀ a : List Answer} {t₀ t : List TapeRecord} {x₀ x : List Point} (h : Sofar r T X before s cs i a₀ a t₀ t x₀ x) where
  -- one call more
  pub more : (c : Call) → i < length cs → i < length a → c ≡ get_or cs i c
      → (s' : State) → s' ≡ (step r T X s c).state
      → (v : Answer) → v ≡ written_answer (step r T X s c)
      → (t' : List TapeRecord) → t' ≡ written t s.used (step r T X s c).records
      → (x' : List Point) → x' ≡ scratch_step s c x
      → Sofar r T X before s' cs (i + 1) a₀ (set a i v) t₀ t' x₀ x'
  more c lt la read s' es v ev t' et x' ex =
      let o : Outcome = step r T X s c in
      let later : List Call = drop (i + 1) cs in
      let left : drop i cs ≡ c ∷ later = drop_more cs i c lt ∙ ap (λ y. y ∷ later) (sym read) in
      let os : List Outcome = run r T X o.state later in
      record {
        state = ap (λ y. after y (run r T X y later)) es ∙ ap (λ l. after s (run r T X s l)) (sym left) ∙ h.state;
        answers =
            ap (λ y. take (i + 1) (set a i v) ++ map written_answer (run r T X y later)) es
            ∙ ap (λ l. l ++ map written_answer os) (take_more_set a i v la)
            ∙ append_assoc (take i a) (v ∷ []) (map written_answer os)
            ∙ ap (λ w. take i a ++ w ∷ map written_answer os) ev
            ∙ ap (λ l. take i a ++ map written_answer (run r T X s l)) (sym left)
            ∙ h.answers;
        rest = drop-set-lt (i + 1) a i v (omega arith) ∙ sym (drop-drop 1 i a) ∙ ap (drop 1) h.rest ∙ drop-drop 1 i a₀;
        tape =
            ap (λ y. written t' y.used (records (run r T X y later))) es
            ∙ ap (λ l. written l o.state.used (records os)) et
            ∙ ap (λ n. written (written t s.used o.records) n (records os)) (step_placed r T X s c).counted
            ∙ written_append t s.used o.records (records os)
            ∙ ap (λ l. written t s.used (records (run r T X s l))) (sym left)
            ∙ h.tape;
        scratch =
            ap (λ y. scratch_run y later (run r T X y later) x') es
            ∙ ap (λ l. scratch_run o.state later os l) ex
            ∙ ap (λ l. scratch_run s l (run r T X s l) x) (sym left)
            ∙ h.scratch;
        tape_long = ap length et ∙ length_written t s.used o.records ∙ h.tape_long;
        scratch_long = ap length ex ∙ length_scratch_step s c x ∙ h.scratch_long;
        wide = length-set a i v ∙ h.wide;
        sound = subst Sound (sym es) (step_sound r T X s h.sound c);
      }

  -- the call read with any default
  pub more_at : (d : Call) → i < length cs → i < length a
      → (s' : State) → s' ≡ (step r T X s (get_or cs i d)).state
      → (v : Answer) → v ≡ written_answer (step r T X s (get_or cs i d))
      → (t' : List TapeRecord) → t' ≡ written t s.used (step r T X s (get_or cs i d)).records
      → (x' : List Point) → x' ≡ scratch_step s (get_or cs i d) x
      → Sofar r T X before s' cs (i + 1) a₀ (set a i v) t₀ t' x₀ x'
  more_at d lt la = more (get_or cs i d) lt la (get_or_default cs i d (get_or cs i d) lt)

  -- no call left
  pub done : length cs ≤ i → i ≤ length cs → Ran r T X before s cs a₀ a t₀ t x₀ x
  done le ge =
      let none : drop i cs ≡ [] = drop_all i cs le in
      let whole : List Outcome = run r T X before cs in
      let end : i ≡ length whole = omega (arith, length_run r T X before cs) in
      record {
        state = ap (λ l. after s (run r T X s l)) (sym none) ∙ h.state;
        answers =
            sym (take-append-drop i a)
            ∙ ap (λ l. take i a ++ l) h.rest
            ∙ ap (λ l. l ++ drop i a₀) (sym (append-nil (take i a)) ∙ ap (λ l. take i a ++ map written_answer (run r T X s l)) (sym none) ∙ h.answers)
            ∙ ap (λ n. map written_answer whole ++ drop n a₀) end;
        tape = ap (λ l. written t s.used (records (run r T X s l))) (sym none) ∙ h.tape;
        scratch = ap (λ l. scratch_run s l (run r T X s l) x) (sym none) ∙ h.scratch;
      }
