-- What a call answers, the sound sessions, and what the calls that enter nothing keep.
use Rattle.std.proofs.Common.{◌≡◌, ℕ, zero, suc, ◌+◌, ◌<◌, ◌≤◌, Bool, true, false, not, ◌&&◌, ◌||◌, eqb, ltb, leb, List, [], ◌∷◌, map, length, Some, None, filter, Option, sym, refl, subst, arith}
use Rattle.std.proofs.lemmas.Bool.{and_parts, leb-true}
use Rattle.model.specs.Types.{Entry, Order, Point, Phase, Random, Trading, Closed, Refusal, WrongPhase, UnknownMember, Quantity, Price, ConditionOutsideTrading, NumbersExhausted, CapacityReached, TapeFull, ForeignCalledPrice, ScratchTooShort, ByMember, AfterAuction, AtClose, TapeRecord, Withdrawal}
use Rattle.model.specs.Numbers.{max_member, max_quantity, max_number, in_range, code, no_refusal}
use Rattle.model.specs.Grid.{count}
use Rattle.model.specs.Curve.{traded}
use Rattle.model.specs.Rules.{Rule}
use Rattle.model.specs.Orders.{Standing, find, lower, left_of, left_in, withdrawal}
use Rattle.model.specs.State.{State, takes_orders, is_random, is_trading, Outcome, refuse, advance, done, ask, unless, fits}
use Rattle.model.specs.Entry.{accepted, price_allowed, unconditional, enter}
use Rattle.model.specs.Auction.{call_price, trades_at}
use Rattle.model.specs.Calls.{withdrawn, withdraw, begun, begin_random, closed, close, is_market_order, unpriced, priced, call_result, call_refusal, struck, strike, auction_after, auction}
use Rattle.model.specs.Making.{Valid, New}
use Rattle.model.specs.Laws.{accounted_for}
use Rattle.model.proofs.Standing.{lower_left, lower_standing, kept_standing, left_kept_both, find_left}
use Rattle.model.proofs.Records.{traded_withdrawals, withdrawn_withdrawals}
use Rattle.model.proofs.Struck.{struck_standing, auction_left}

-- behind questions a call is refused, or done where all are answered yes
pub unless_both : (P : Outcome → Type 0) (k : ℕ) (s : State) (o : Outcome) → ((n : ℕ) → P (refuse (suc n) s)) → (k ≡ 0 → P o) → P (unless k s o)
unless_both P zero s o r d = d refl
unless_both P (suc n) s o r d = r n

pub ask_yes : (b : Bool) (r : Refusal) (rest : ℕ) → 0 < code r → ask b r rest ≡ 0 → (b ≡ true) × (rest ≡ 0)
ask_yes true r rest h k = (refl, k)
ask_yes false r rest h k = absurd (omega arith)

-- an order of which every question is answered yes
pub record Admitted (s : State) (tape : ℕ) (e : Entry) : Type 0 where
  pub phase : takes_orders s.phase ≡ true
  pub member : in_range 1 max_member e.member ≡ true
  pub quantity : in_range 1 max_quantity e.quantity ≡ true
  pub price : price_allowed s.settings e.price ≡ true
  pub condition : (unconditional e.condition || is_trading s.phase) ≡ true
  pub numbers : ltb s.last max_number ≡ true
  pub capacity : leb (length (accepted s e).state.orders) s.capacity ≡ true
  pub places : fits s tape (accepted s e).records ≡ true

-- its quantity is at least 1
pub admitted_some : (s : State) (tape : ℕ) (e : Entry) → Admitted s tape e → 1 ≤ e.quantity
admitted_some s tape e a = leb-true 1 e.quantity (and_parts (leb 1 e.quantity) (leb e.quantity max_quantity) a.quantity).0

-- an order that is entered is refused, or is admitted and accepted
pub enter_cases : (s : State) (e : Entry) (tape : ℕ) (P : Outcome → Type 0) → ((n : ℕ) → P (refuse (suc n) s)) → (Admitted s tape e → P (accepted s e)) → P (enter s tape e)
enter_cases s e tape P refused done =
    unless_both P (ask (takes_orders s.phase) WrongPhase members) s o refused
    (λ z.
    let a = ask_yes (takes_orders s.phase) WrongPhase members (omega arith) z in
    let b = ask_yes (in_range 1 max_member e.member) UnknownMember quantities (omega arith) a.1 in
    let c = ask_yes (in_range 1 max_quantity e.quantity) Quantity prices (omega arith) b.1 in
    let d = ask_yes (price_allowed s.settings e.price) Price conditions (omega arith) c.1 in
    let f = ask_yes (unconditional e.condition || is_trading s.phase) ConditionOutsideTrading numbers (omega arith) d.1 in
    let g = ask_yes (ltb s.last max_number) NumbersExhausted room (omega arith) f.1 in
    let h = ask_yes (leb (length o.state.orders) s.capacity) CapacityReached places (omega arith) g.1 in
    let i = ask_yes (fits s tape o.records) TapeFull no_refusal (omega arith) h.1 in
    done (record { phase = a.0; member = b.0; quantity = c.0; price = d.0; condition = f.0; numbers = g.0; capacity = h.0; places = i.0 }))
  where
    o : Outcome
    o = accepted s e

    places : ℕ
    places = ask (fits s tape o.records) TapeFull no_refusal

    room : ℕ
    room = ask (leb (length o.state.orders) s.capacity) CapacityReached places

    numbers : ℕ
    numbers = ask (ltb s.last max_number) NumbersExhausted room

    conditions : ℕ
    conditions = ask (unconditional e.condition || is_trading s.phase) ConditionOutsideTrading numbers

    prices : ℕ
    prices = ask (price_allowed s.settings e.price) Price conditions

    quantities : ℕ
    quantities = ask (in_range 1 max_quantity e.quantity) Quantity prices

    members : ℕ
    members = ask (in_range 1 max_member e.member) UnknownMember quantities

-- the strike of an auction at the point that is called
abbrev pub struck_at : State → Point → Outcome
struck_at s x = struck (priced s x).state x.price (traded x)

-- an auction is refused and leaves the session, or finds no price, or is struck at the price that it calls; where it is done it began in the random period, and its records find places
pub auction_cases : (r : Rule) (s : State) (tape scratch : ℕ) (P : Outcome → Type 0) → ((n : ℕ) → P (refuse (suc n) s))
    → (is_random s.phase ≡ true → call_price r s.settings s.orders ≡ None → fits s tape (unpriced s).records ≡ true → P (unpriced s))
    → (is_random s.phase ≡ true → (x : Point) → call_price r s.settings s.orders ≡ Some x → fits (priced s x).state tape (struck_at s x).records ≡ true → P (struck_at s x))
    → P (auction r s tape scratch)
auction_cases r s tape scratch P refused none some =
    unless_both After (call_refusal s scratch) s (call_result s tape (call_price r s.settings s.orders)) refused
    (λ z. found (ask_yes (is_random s.phase) WrongPhase room (omega arith) z).0 (call_price r s.settings s.orders) refl)
  where
    room : ℕ
    room = ask (leb (count s.settings) scratch) ScratchTooShort no_refusal

    After : Outcome → Type 0
    After o = P (auction_after s tape o o.refusal)

    found : is_random s.phase ≡ true → (y : Option Point) → call_price r s.settings s.orders ≡ y → After (call_result s tape y)
    found b None e =
        unless_both After (ask (fits s tape (unpriced s).records) TapeFull no_refusal) s (unpriced s) refused
        (λ z. none b e (ask_yes (fits s tape (unpriced s).records) TapeFull no_refusal (omega arith) z).0)
    found b (Some x) e =
        let t : State = (priced s x).state in
        let k : Outcome = strike t tape x.price (traded x) in
        let called : Bool = eqb x.price x.price && eqb (traded x) (traded x) in
        let places : ℕ = ask (fits t tape (struck_at s x).records) TapeFull no_refusal in
        unless_both P k.refusal s k refused
        (unless_both (λ o. o.refusal ≡ 0 → P o) (ask called ForeignCalledPrice places) t (struck_at s x)
        (λ n z. absurd (omega arith))
        (λ z _. some b x e (ask_yes (fits t tape (struck_at s x).records) TapeFull no_refusal (omega arith) (ask_yes called ForeignCalledPrice places (omega arith) z).1).0))

-- a session between two calls: settings within their limits, orders under ascending numbers up to the last one given
pub record Sound (s : State) : Type 0 where
  pub valid : Valid s.settings
  pub standing : Standing 0 s.orders s.last

pub new_sound : (s : State) → New s → Sound s
new_sound s n = record { valid = n.valid; standing = subst (λ os. Standing 0 os s.last) (sym n.empty) (omega arith) }

-- an outcome by which so much was entered under each number: what stood and was entered is traded, withdrawn or stands
pub record Keeps (s : State) (entered : ℕ → ℕ) (o : Outcome) : Type 0 where
  pub settings : o.state.settings ≡ s.settings
  pub standing : Standing 0 o.state.orders o.state.last
  pub later : s.last ≤ o.state.last
  pub conserved : (n : ℕ) → left_in s.orders n + entered n ≡ accounted_for o.records o.state.orders n

pub keeps_sound : (s : State) (entered : ℕ → ℕ) (o : Outcome) → Sound s → Keeps s entered o → Sound o.state
keeps_sound s entered o h k = record { valid = rw k.settings h.valid; standing = k.standing }

abbrev pub nothing : ℕ → ℕ
nothing n = 0

module _ (s : State) (h : Sound s) where
  pub refuse_keeps : (k : ℕ) (entered : ℕ → ℕ) → ((n : ℕ) → entered n ≡ 0) → Keeps s entered (refuse k s)
  refuse_keeps k entered z = record { settings = refl; standing = h.standing; later = omega arith; conserved = λ n. omega (arith, z n) }

  refused : (k : ℕ) → Keeps s nothing (refuse (suc k) s)
  refused k = refuse_keeps (suc k) nothing (λ n. refl)

  -- a call that gives no number
  done_keeps : (a : ℕ) (ph : Phase) (ref : ℕ) (recs : List TapeRecord) (os : List Order) → Standing 0 os s.last
      → ((n : ℕ) → left_in s.orders n ≡ accounted_for recs os n) → Keeps s nothing (done a recs (advance s ph ref s.last recs os))
  done_keeps a ph ref recs os st e = record { settings = refl; standing = st; later = omega arith; conserved = λ n. omega (arith, e n) }

  pub begin_random_keeps : Keeps s nothing (begin_random s)
  begin_random_keeps = unless_both (Keeps s nothing) _ s (begun s) refused (λ _. done_keeps 0 Random s.reference [] s.orders h.standing (λ n. omega arith))

  pub close_keeps : (tape : ℕ) → Keeps s nothing (close s tape)
  close_keeps tape =
      unless_both (Keeps s nothing) _ s (closed s) refused
      (λ _. done_keeps (length s.orders) Closed s.reference (map (withdrawal AtClose) s.orders) [] (omega arith)
      (λ n. omega (arith, traded_withdrawals n AtClose s.orders, withdrawn_withdrawals n AtClose s.orders)))

  pub withdraw_keeps : (tape m k : ℕ) → Keeps s nothing (withdraw s tape m k)
  withdraw_keeps tape m k =
      let q : ℕ = left_of (find k s.orders) in
      let e : q ≡ left_in s.orders k = find_left 0 s.last k s.orders h.standing in
      unless_both (Keeps s nothing) _ s (withdrawn s k) refused
      (λ _. done_keeps q s.phase s.reference (Withdrawal k q ByMember ∷ []) (lower k q s.orders) (lower_standing 0 s.last k q s.orders h.standing)
      (λ n. omega (arith, lower_left 0 s.last k q n s.orders h.standing (omega arith))))

  pub auction_keeps : (r : Rule) (tape scratch : ℕ) → Keeps s nothing (auction r s tape scratch)
  auction_keeps r tape scratch =
      auction_cases r s tape scratch (Keeps s nothing) refused
      (λ _ _ _. done_keeps 0 Trading s.reference (map (withdrawal AfterAuction) (filter is_market_order s.orders)) (filter (λ o. not (is_market_order o)) s.orders) (kept_standing (λ o. not (is_market_order o)) 0 s.last s.orders h.standing)
      (λ n. omega (arith, traded_withdrawals n AfterAuction (filter is_market_order s.orders), withdrawn_withdrawals n AfterAuction (filter is_market_order s.orders), left_kept_both is_market_order n s.orders)))
      (λ _ x _ _. record {
        settings = refl;
        standing = struck_standing x.price (trades_at s.settings x.price (traded x) s.orders) 0 s.last s.orders h.standing;
        later = omega arith;
        conserved = λ n. omega (arith, auction_left s.settings x.price (traded x) 0 s.last s.orders h.standing n);
      })
