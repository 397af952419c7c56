-- The whole promise: every list of calls keeps the laws, from any session that is made.
use Rattle.std.proofs.Common.{◌≡◌, ℕ, ◌%◌, ◌≤◌, true, ◌&&◌, eqb, leb, List, [], ◌∷◌, refl, arith}
use Rattle.std.specs.List.{AllByRecursion}
use Rattle.std.proofs.ByRecursion.{All-append}
use Rattle.std.proofs.lemmas.Bool.{and_parts, eqb-true, false≢true, leb-true}
use Rattle.model.specs.Types.{Order, SettingsOutOfRange, IndicativePrice, BookNotEmpty, Call}
use Rattle.model.specs.Numbers.{max_tick, max_price, max_band, max_number, in_range, no_refusal}
use Rattle.model.specs.Rules.{Rule}
use Rattle.model.specs.State.{State, Outcome, ask}
use Rattle.model.specs.Making.{settings_in_range, indicative_allowed, is_empty, SessionsAreMadeNew}
use Rattle.model.specs.Run.{step, run, records}
use Rattle.model.specs.Lawful.{Lawful}
use Rattle.model.specs.Laws.{each_call, unchanged, in_course, optimal, in_rank, while_trading, TwoParties, TheSessionKeepsItsLaws}
use Rattle.model.proofs.Sound.{ask_yes, Sound, new_sound}
use Rattle.model.proofs.Conserved.{step_sound, run_accounted}
use Rattle.model.proofs.Trading.{step_uncrossed}
use Rattle.model.proofs.Auctions.{step_optimal}
use Rattle.model.proofs.Priority.{step_in_rank}
use Rattle.model.proofs.Parties.{step_apart}
use Rattle.model.proofs.Course.{step_unchanged, step_in_course}
use Rattle.model.proofs.OnTape.{run_on_tape}

module _ (r : Rule) (law : Lawful r) (tape scratch : ℕ) where
  -- what holds of each call of a sound session holds of each call of a list
  run_each : (L : State → Call → Outcome → Type 0) → ((s : State) → Sound s → (c : Call) → L s c (step r tape scratch s c)) → (s : State) → Sound s
      → (cs : List Call) → each_call L s cs (run r tape scratch s cs)
  run_each L each s h [] = tt
  run_each L each s h (c ∷ cs) = (each s h c, run_each L each (step r tape scratch s c).state (step_sound r tape scratch s h c) cs)

  run_trading : (s : State) → Sound s → while_trading s.phase s → (cs : List Call) → AllByRecursion (λ o. while_trading o.state.phase o.state) (run r tape scratch s cs)
  run_trading s h t [] = tt
  run_trading s h t (c ∷ cs) =
      let k = step_uncrossed s h t r law tape scratch c in
      (k, run_trading (step r tape scratch s c).state (step_sound r tape scratch s h c) k cs)

  run_parties : (s : State) → Sound s → (cs : List Call) → AllByRecursion TwoParties (records (run r tape scratch s cs))
  run_parties s h [] = tt
  run_parties s h (c ∷ cs) =
      let o : Outcome = step r tape scratch s c in
      All-append TwoParties o.records (records (run r tape scratch o.state cs)) (step_apart r tape scratch s h c) (run_parties o.state (step_sound r tape scratch s h c) cs)

pub the_session_keeps_its_laws : TheSessionKeepsItsLaws
the_session_keeps_its_laws r law tape scratch s new cs =
    let h = new_sound s new in
    record {
      refusals = run_each r law tape scratch unchanged (λ t k c. step_unchanged r tape scratch t c) s h cs;
      course = run_each r law tape scratch in_course (λ t k c. step_in_course r tape scratch t c) s h cs;
      auctions = run_each r law tape scratch (optimal r) (λ t k c. step_optimal r t k law tape scratch c) s h cs;
      priority = run_each r law tape scratch in_rank (λ t k c. step_in_rank r t k tape scratch c) s h cs;
      trading = run_trading r law tape scratch s h (rw new.phase tt) cs;
      conserved = run_accounted r tape scratch s new cs;
      parties = run_parties r law tape scratch s h cs;
      taped = run_on_tape r tape scratch s new cs;
    }

-- what making asks is what a new session has
pub sessions_are_made_new : SessionsAreMadeNew
sessions_are_made_new g last os capacity z =
    let a = ask_yes (settings_in_range g last) SettingsOutOfRange indicative (omega arith) z in
    let b = ask_yes (indicative_allowed g) IndicativePrice empty (omega arith) a.1 in
    let c = ask_yes (is_empty os) BookNotEmpty no_refusal (omega arith) b.1 in
    let t = and_parts (in_range 1 max_tick g.tick) (in_range 1 max_band g.absolute && (in_range 1 max_band g.static && leb last max_number)) a.0 in
    let w = and_parts (in_range 1 max_band g.absolute) (in_range 1 max_band g.static && leb last max_number) t.1 in
    let v = and_parts (in_range 1 max_band g.static) (leb last max_number) w.1 in
    let i = and_parts (in_range 1 max_price g.indicative) (eqb (g.indicative % g.tick) 0) b.0 in
    let tick = range 1 max_tick g.tick t.0 in
    let absolute = range 1 max_band g.absolute w.0 in
    let static = range 1 max_band g.static v.0 in
    let price = range 1 max_price g.indicative i.0 in
    record {
      valid = record { tick_low = tick.0; tick_high = tick.1; indicative_low = price.0; indicative_high = price.1; on_tick = eqb-true (g.indicative % g.tick) 0 i.1; absolute_low = absolute.0; absolute_high = absolute.1; static_low = static.0; static_high = static.1 };
      phase = refl;
      reference = refl;
      unwritten = refl;
      empty = no_order os c.0;
      last = leb-true last max_number v.1;
    }
  where
    empty : ℕ
    empty = ask (is_empty os) BookNotEmpty no_refusal

    indicative : ℕ
    indicative = ask (indicative_allowed g) IndicativePrice empty

    range : (low high n : ℕ) → in_range low high n ≡ true → (low ≤ n) × (n ≤ high)
    range low high n h = let k = and_parts (leb low n) (leb n high) h in (leb-true low n k.0, leb-true n high k.1)

    no_order : (os : List Order) → is_empty os ≡ true → os ≡ []
    no_order [] h = refl
    no_order (o ∷ os) h = absurd (false≢true h)
