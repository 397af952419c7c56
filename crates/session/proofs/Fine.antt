-- What a session keeps is kept by every call: its called price, its reference price, and the numbers that stand.
use Rattle.std.proofs.Common.{◌≡◌, ℕ, zero, suc, ◌-◌, ◌*◌, ◌≤◌, true, not, ltb, List, Some, None, Option, Result, sym, refl, subst, arith}
use native.Mathlib.Nat.{one-le-mul}
use Rattle.std.proofs.lemmas.Bool.{and_from, and_parts, lt-ltb}
use Rattle.model.specs.declared.types.Call.TheVariants.{Enter}
use Rattle.model.specs.declared.types.Entry.{Entry}
use Rattle.model.specs.declared.types.Phase.TheVariants.{Called}
use Rattle.model.specs.declared.types.Point.{Point}
use Rattle.model.specs.declared.types.Refusal.{Refusal}
use Rattle.model.specs.declared.types.TapeRecord.{TapeRecord}
use Rattle.model.specs.Grid.{Settings, on_grid}
use Rattle.model.specs.Curve.{traded}
use Rattle.model.specs.Rules.{Rule, nearest}
use Rattle.model.specs.Lawful.{Lawful}
use Rattle.model.specs.Making.{Valid}
use Rattle.model.specs.Orders.{find, left_of}
use Rattle.model.specs.State.{State, Outcome, unless}
use Rattle.model.specs.Auction.{call_price, trades_at}
use Rattle.model.specs.Calls.{is_market_order, unpriced, call_result, call, struck, strike, withdrawn, withdraw, closed, close}
use Rattle.model.specs.Entry.{enter}
use Rattle.model.specs.Views.{Came}
use Rattle.model.proofs.Conserved.{step_sound}
use Rattle.model.proofs.GridPrices.{within_band}
use Rattle.model.proofs.Standing.{kept_standing, lower_standing}
use Rattle.model.proofs.Struck.{struck_standing}
use Rattle.book.specs.declared.meaning.Book.{Ghosts as BookMembers}
use Rattle.pricing.specs.declared.rule.PriceRule.{Ghosts as RuleMembers}
use Rattle.auctioning.specs.Results.{Trades}
use Rattle.auctioning.proofs.Found.{found_trades}
use Rattle.session.specs.declared.session.Session.{Session}
use Rattle.session.specs.Called.{called_fine}
use Rattle.session.specs.Views.{state, Sound}

-- a called price is on the grid with something that trades at it, the reference price is a price, and no number that stands is above the last one given
pub record Fine (s : State) : Type 0 where
  pub called : called_fine s.settings s.phase ≡ true
  pub reference : 1 ≤ s.reference
  pub sound : Sound s

-- a session has it by its type
pub fine_of : {B R : Type 0} {b : BookMembers B} {r : RuleMembers R} (s : Session B R b r) → Fine (state b.orders b.capacity s)
fine_of s = record { called = s.called; reference = s.reference; sound = s.sound }

-- a session that came to an outcome has it where the outcome has
pub came_fine : {o : Outcome} {r : Result ℕ Refusal} {s : State} {before : List TapeRecord} {used : ℕ} {after : List TapeRecord} → Came o r s before used after → Fine o.state → Fine s
came_fine k f = subst Fine (sym k.state) f

-- a refusal keeps the session
unless_fine : (n : ℕ) (s : State) (o : Outcome) → Fine s → Fine o.state → Fine (unless n s o).state
unless_fine zero s o f h = h
unless_fine (suc n) s o f h = f

call_result_fine : (s : State) (tape : ℕ) (c : Option Point) → Trades s.settings c → Fine s → Fine (call_result s tape c).state
call_result_fine s tape None t f =
    unless_fine _ s (unpriced s) f (record { called = refl; reference = f.reference; sound = kept_standing (λ o. not (is_market_order o)) 0 s.last s.orders f.sound })
call_result_fine s tape (Some x) t f =
    record { called = and_from (on_grid s.settings x.price) (ltb 0 (traded x)) t.0 (lt-ltb 0 (traded x) (omega (arith, t.1))); reference = f.reference; sound = f.sound }

pub call_fine : (r : Rule) → Lawful r → (s : State) → Valid s.settings → (tape scratch : ℕ) → Fine s → Fine (call r s tape scratch).state
call_fine r law s valid tape scratch f =
    let c : Option Point = call_price r s.settings s.orders in
    unless_fine _ s (call_result s tape c) f (call_result_fine s tape c (found_trades r law s.settings valid s.orders c refl) f)

-- a grid price is at least 1
grid_some : (g : Settings) → Valid g → (p : ℕ) → on_grid g p ≡ true → 1 ≤ p
grid_some g valid p h =
    let some : 1 ≤ g.indicative * (100 - g.absolute) = one-le-mul valid.indicative_low (omega (arith, valid.absolute_high)) in
    omega (arith, (within_band g p h).1)

-- a price that is struck is the called one, which is on the grid
pub strike_fine : (s : State) → Valid s.settings → (tape p v : ℕ) → s.phase ≡ Called p v → Fine s → Fine (strike s tape p v).state
strike_fine s valid tape p v e f =
    let on : on_grid s.settings p ≡ true = (and_parts (on_grid s.settings p) (ltb 0 v) (rw e at f.called)).0 in
    unless_fine _ s (struck s p v) f (record { called = refl; reference = grid_some s.settings valid p on; sound = struck_standing p (trades_at s.settings p v s.orders) 0 s.last s.orders f.sound })

pub withdraw_fine : (s : State) (tape m n : ℕ) → Fine s → Fine (withdraw s tape m n).state
withdraw_fine s tape m n f =
    unless_fine _ s (withdrawn s n) f (record { called = f.called; reference = f.reference; sound = lower_standing 0 s.last n (left_of (find n s.orders)) s.orders f.sound })

pub close_fine : (s : State) (tape : ℕ) → Fine s → Fine (close s tape).state
close_fine s tape f = unless_fine _ s (closed s) f (record { called = refl; reference = f.reference; sound = omega arith })

-- no number that stands is above a new order's, which is then the last one given
pub enter_sound : (s : State) → Valid s.settings → (tape : ℕ) (e : Entry) → Fine s → Sound (enter s tape e).state
enter_sound s valid tape e f = (step_sound nearest tape 0 s (record { valid = valid; standing = f.sound }) (Enter e)).standing
