-- The known outcomes 1 to 10 of the rules: one table, and one test that all of it holds.
use Rattle.std.specs.Prelude.{ℕ, Bool, true, false, not, ◌&&◌, List, [], ◌∷◌, ◌++◌, ◌==◌}
use Rattle.model.specs.Types.{Side, Buy, Sell, OrderPrice, Market, Limit, Condition, Plain, FillOrKill, ImmediateOrCancel, Order, Phase, ConditionUnmet, TapeRecord, Trade, Withdrawal, Call, Enter, BeginRandom, Auction}
use Rattle.model.specs.Numbers.{reason_code}
use Rattle.model.specs.Grid.{Settings, active}
use Rattle.model.specs.Rules.{Rule, nearest, middle, least_surplus}
use Rattle.model.specs.State.{State, is_pre_opening, is_trading, Outcome}
use Rattle.model.specs.Making.{made}
use Rattle.model.specs.Run.{run, after, records}

-- a standing order by its number, its price and what is left of it
pub record Stands : Type 0 where
  pub number : ℕ
  pub price : OrderPrice
  pub left : ℕ

-- calls of a new session with the tape, the standing orders and the phase that they lead to; or prices that are active, and prices that are not
pub data Case : Type 0 where
  day : Rule → List Call → List TapeRecord → List Stands → (Phase → Bool) → Case
  activity : Settings → List ℕ → List ℕ → Case

-- two prices are one
abbrev pub same_price : OrderPrice → OrderPrice → Bool
same_price Market Market = true
same_price Market (Limit q) = false
same_price (Limit p) Market = false
same_price (Limit p) (Limit q) = p == q

-- two records are one
abbrev pub same_record : TapeRecord → TapeRecord → Bool
same_record (Trade b s p q) (Trade b' s' p' q') = b == b' && (s == s' && (p == p' && q == q'))
same_record (Trade b s p q) (Withdrawal n r k) = false
same_record (Withdrawal n q r) (Trade b s p k) = false
same_record (Withdrawal n q r) (Withdrawal n' q' r') = n == n' && (q == q' && reason_code r == reason_code r')

-- an order stands as the case says
abbrev pub stands_so : Order → Stands → Bool
stands_so o x = o.number == x.number && (same_price o.price x.price && o.left == x.left)

-- the elements of two lists pass a test, one by one
abbrev pub one_by_one : {X Y : Type 0} → (X → Y → Bool) → List X → List Y → Bool
one_by_one p [] [] = true
one_by_one p [] (y ∷ ys) = false
one_by_one p (x ∷ xs) [] = false
one_by_one p (x ∷ xs) (y ∷ ys) = p x y && one_by_one p xs ys

-- every element passes a test
abbrev pub every : {X : Type 0} → (X → Bool) → List X → Bool
every p [] = true
every p (x ∷ xs) = p x && every p xs

-- tick 1, indicative price 100, absolute band 20, static band 10
abbrev pub today : State
today = made (record { tick = 1; indicative = 100; absolute = 20; static = 10 }) 0 [] 10

-- a case comes out as it says
abbrev pub holds : Case → Bool
holds (day r cs recs stand ph) =
    let os : List Outcome = run r 100 100 today cs in
    let s : State = after today os in
    one_by_one same_record (records os) recs && (one_by_one stands_so s.orders stand && ph s.phase)
holds (activity g actives others) = every (λ p. active g (Limit p)) actives && every (λ p. not (active g (Limit p))) others

-- an order of some member
abbrev pub order : Side → OrderPrice → ℕ → Condition → Call
order s p q c = Enter (record { member = 7; side = s; price = p; quantity = q; condition = c })

-- a buy without a condition
abbrev pub buy : OrderPrice → ℕ → Call
buy p q = order Buy p q Plain

-- a sell without a condition
abbrev pub sell : OrderPrice → ℕ → Call
sell p q = order Sell p q Plain

-- the random period and its auction
abbrev pub opening : List Call
opening = BeginRandom ∷ Auction ∷ []

-- what stands of the order n
abbrev pub left : ℕ → OrderPrice → ℕ → Stands
left n p q = record { number = n; price = p; left = q }

-- least surplus over middle
abbrev pub balanced : Rule
balanced = least_surplus middle

-- known outcomes 1 to 10
abbrev pub table : List Case
table =
    -- buy 50 at 106, sell 50 at 98: nearest 100, middle 102
    day nearest (buy (Limit 106) 50 ∷ sell (Limit 98) 50 ∷ opening) (Trade 1 2 100 50 ∷ []) [] is_trading
    ∷ day balanced (buy (Limit 106) 50 ∷ sell (Limit 98) 50 ∷ opening) (Trade 1 2 102 50 ∷ []) [] is_trading
    -- buy 50 at 103, sell 50 at 98: middle 101
    ∷ day balanced (buy (Limit 103) 50 ∷ sell (Limit 98) 50 ∷ opening) (Trade 1 2 101 50 ∷ []) [] is_trading
    -- buy 80 at 105, sell 50 at 98: nearest 100, middle 105
    ∷ day nearest (buy (Limit 105) 80 ∷ sell (Limit 98) 50 ∷ opening) (Trade 1 2 100 50 ∷ []) (left 1 (Limit 105) 30 ∷ []) is_trading
    ∷ day balanced (buy (Limit 105) 80 ∷ sell (Limit 98) 50 ∷ opening) (Trade 1 2 105 50 ∷ []) (left 1 (Limit 105) 30 ∷ []) is_trading
    -- buy 50 at 105, sell 80 at 98: middle 98
    ∷ day balanced (buy (Limit 105) 50 ∷ sell (Limit 98) 80 ∷ opening) (Trade 1 2 98 50 ∷ []) (left 2 (Limit 98) 30 ∷ []) is_trading
    -- market buy 30, market sell 20: nearest 100, middle 120; 10 stand at it
    ∷ day nearest (buy Market 30 ∷ sell Market 20 ∷ opening) (Trade 1 2 100 20 ∷ []) (left 1 (Limit 100) 10 ∷ []) is_trading
    ∷ day balanced (buy Market 30 ∷ sell Market 20 ∷ opening) (Trade 1 2 120 20 ∷ []) (left 1 (Limit 120) 10 ∷ []) is_trading
    -- buy 10 at 121, sell 10 at 90: no price
    ∷ day nearest (buy (Limit 121) 10 ∷ sell (Limit 90) 10 ∷ opening) [] (left 1 (Limit 121) 10 ∷ left 2 (Limit 90) 10 ∷ []) is_trading
    -- indicative price 95, absolute band 10: 86 and 104 active, 85 and 105 not
    ∷ activity (record { tick = 1; indicative = 95; absolute = 10; static = 10 }) (86 ∷ 104 ∷ []) (85 ∷ 105 ∷ [])
    -- buys 10 at 102, 10 market and 10 at 103, sell 25 at 100: nearest 100, to the market buy, the one at 103, then 5 to the one at 102
    ∷ day nearest (buy (Limit 102) 10 ∷ buy Market 10 ∷ buy (Limit 103) 10 ∷ sell (Limit 100) 25 ∷ opening) (Trade 2 4 100 10 ∷ Trade 3 4 100 10 ∷ Trade 1 4 100 5 ∷ []) (left 1 (Limit 102) 5 ∷ []) is_trading
    -- trading; sells 5 at 109 and 5 at 111, buy 8 at 112: 5 trade, 3 stand, trading is interrupted
    ∷ day nearest (opening ++ sell (Limit 109) 5 ∷ sell (Limit 111) 5 ∷ buy (Limit 112) 8 ∷ []) (Trade 3 1 109 5 ∷ []) (left 2 (Limit 111) 5 ∷ left 3 (Limit 112) 3 ∷ []) is_pre_opening
    -- fill-or-kill: none trade, no interruption
    ∷ day nearest (opening ++ sell (Limit 109) 5 ∷ sell (Limit 111) 5 ∷ order Buy (Limit 112) 8 FillOrKill ∷ []) (Withdrawal 3 8 ConditionUnmet ∷ []) (left 1 (Limit 109) 5 ∷ left 2 (Limit 111) 5 ∷ []) is_trading
    -- immediate-or-cancel: 5 trade, trading is interrupted
    ∷ day nearest (opening ++ sell (Limit 109) 5 ∷ sell (Limit 111) 5 ∷ order Buy (Limit 112) 8 ImmediateOrCancel ∷ []) (Trade 3 1 109 5 ∷ Withdrawal 3 3 ConditionUnmet ∷ []) (left 2 (Limit 111) 5 ∷ []) is_pre_opening
    -- trading; sell 5 at 101, market buy 7: 5 trade, 2 stand at 101
    ∷ day nearest (opening ++ sell (Limit 101) 5 ∷ buy Market 7 ∷ []) (Trade 2 1 101 5 ∷ []) (left 2 (Limit 101) 2 ∷ []) is_trading
    ∷ []

-- every one of them holds
abbrev pub all_hold : Bool
all_hold = every holds table
