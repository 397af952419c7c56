-- How a session is made.
use Rattle.std.specs.Prelude.{◌≡◌, ℕ, ◌%◌, ◌≤◌, Bool, true, false, ◌&&◌, List, [], ◌∷◌, ◌==◌, nat_le}
use Rattle.model.specs.Types.{Order, PreOpening, SettingsOutOfRange, IndicativePrice, BookNotEmpty}
use Rattle.model.specs.Numbers.{max_tick, max_price, max_band, max_number, in_range, no_refusal}
use Rattle.model.specs.Grid.{Settings}
use Rattle.model.specs.State.{State, ask}

-- the tick, both bands and the last order number are within their limits
abbrev pub settings_in_range : Settings → ℕ → Bool
settings_in_range g last = in_range 1 max_tick g.tick && (in_range 1 max_band g.absolute && (in_range 1 max_band g.static && nat_le last max_number))

-- the indicative price is from 1 to the highest price, and a multiple of the tick
abbrev pub indicative_allowed : Settings → Bool
indicative_allowed g = in_range 1 max_price g.indicative && g.indicative % g.tick == 0

-- no order stands
abbrev pub is_empty : List Order → Bool
is_empty [] = true
is_empty (o ∷ os) = false

-- the questions of the settings, before those that follow
abbrev pub ask_settings : Settings → ℕ → ℕ → ℕ
ask_settings g last rest = ask (settings_in_range g last) SettingsOutOfRange (ask (indicative_allowed g) IndicativePrice rest)

-- the questions of making, in their order
abbrev pub make_refusal : Settings → ℕ → List Order → ℕ
make_refusal g last os = ask_settings g last (ask (is_empty os) BookNotEmpty no_refusal)

-- the session that is made of settings, a last order number and a book where no question refuses
abbrev pub made : Settings → ℕ → List Order → ℕ → State
made g last os capacity = record { settings = g; phase = PreOpening; reference = g.indicative; last = last; used = 0; orders = os; capacity = capacity }

-- settings within their limits
pub record Valid (g : Settings) : Type 0 where
  pub tick_low : 1 ≤ g.tick
  pub tick_high : g.tick ≤ max_tick
  pub indicative_low : 1 ≤ g.indicative
  pub indicative_high : g.indicative ≤ max_price
  pub on_tick : g.indicative % g.tick ≡ 0
  pub absolute_low : 1 ≤ g.absolute
  pub absolute_high : g.absolute ≤ max_band
  pub static_low : 1 ≤ g.static
  pub static_high : g.static ≤ max_band

-- a session as it is made
pub record New (s : State) : Type 0 where
  pub valid : Valid s.settings
  pub phase : s.phase ≡ PreOpening
  pub reference : s.reference ≡ s.settings.indicative
  pub unwritten : s.used ≡ 0
  pub empty : s.orders ≡ []
  pub last : s.last ≤ max_number

-- a session that no question refuses to make is new
abbrev pub SessionsAreMadeNew : Type 0
SessionsAreMadeNew = (g : Settings) (last : ℕ) (os : List Order) (capacity : ℕ) → make_refusal g last os ≡ no_refusal → New (made g last os capacity)
