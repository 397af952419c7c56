-- The trades that could be made at a grid price, and the best an auction can do.
use Rattle.std.specs.Prelude.{◌≡◌, ℕ, ◌+◌, ◌<◌, ◌≤◌, Bool, true, false, cond, not, ◌&&◌, ◌||◌, List, [], ◌∷◌, Some, None, Option, ◌==◌}
use Rattle.std.specs.List.{AllByRecursion}
use Rattle.model.specs.Types.{Side, Buy, Sell, Order, Point, TapeRecord, Trade, Withdrawal}
use Rattle.model.specs.Grid.{Settings, on_grid}
use Rattle.model.specs.Curve.{takes_part, point, curve, traded}
use Rattle.model.specs.Rules.{Rule, most_traded, best, nearer, target_among}
use Rattle.model.specs.Orders.{find, left_in}
use Rattle.model.specs.State.{Outcome}

-- a trade that anybody may propose at a price
pub record Deal : Type 0 where
  pub buy : ℕ
  pub sell : ℕ
  pub quantity : ℕ

-- what some deals trade of the order n
abbrev pub quantity_of : ℕ → List Deal → ℕ
quantity_of n [] = 0
quantity_of n (d ∷ ds) = cond (d.buy == n || d.sell == n) d.quantity 0 + quantity_of n ds

-- what some deals trade in all
abbrev pub total_quantity : List Deal → ℕ
total_quantity [] = 0
total_quantity (d ∷ ds) = d.quantity + total_quantity ds

-- an active order of side s was found that allows p
abbrev pub may_trade : Settings → Side → ℕ → Option Order → Type 0
may_trade g s p None = ⊥
may_trade g s p (Some o) = takes_part g s p o ≡ true

-- a feasible allocation at a grid price: deals between active buys and active sells that allow it, no order beyond what is left of it
pub record Feasible (g : Settings) (os : List Order) (p : ℕ) (ds : List Deal) : Type 0 where
  pub grid : on_grid g p ≡ true
  pub parties : AllByRecursion (λ d. may_trade g Buy p (find d.buy os) × may_trade g Sell p (find d.sell os)) ds
  pub limited : (n : ℕ) → quantity_of n ds ≤ left_in os n

-- the target of a call, from the lowest and the highest best point of its curve
abbrev pub target_in : Rule → ℕ → List Point → ℕ
target_in r i ps = target_among r i (best r ps)

-- price q goes before price p: its point goes ahead, or neither does and it is nearer the target, or as near and higher
abbrev pub goes_before : Rule → Settings → List Order → ℕ → ℕ → Bool
goes_before r g os q p =
    let x : Point = point g os q in
    let y : Point = point g os p in
    r.ahead x y || (not (r.ahead y x) && nearer (target_in r g.indicative (curve g os)) x y)

-- no grid price trades more than v
abbrev pub AtMost : Settings → List Order → ℕ → Type 0
AtMost g os v = (q : ℕ) → on_grid g q ≡ true → traded (point g os q) ≤ v

-- x is the point of a grid price, no grid price trades more, and none goes before it
pub record FirstPrice (r : Rule) (g : Settings) (os : List Order) (x : Point) : Type 0 where
  pub on : on_grid g x.price ≡ true
  pub is : point g os x.price ≡ x
  pub most : AtMost g os (traded x)
  pub first : (q : ℕ) → on_grid g q ≡ true → goes_before (most_traded r) g os q x.price ≡ false

-- what a call finds: the first price, or none where nothing trades at any grid price
abbrev pub Found : Rule → Settings → List Order → Option Point → Type 0
Found r g os None = AtMost g os 0
Found r g os (Some x) = FirstPrice r g os x

-- the trades among some records, as deals
abbrev pub deals : List TapeRecord → List Deal
deals [] = []
deals (Trade b s p q ∷ rs) = record { buy = b; sell = s; quantity = q } ∷ deals rs
deals (Withdrawal n q r ∷ rs) = deals rs

-- every trade is at price p
abbrev pub all_at : ℕ → List TapeRecord → Type 0
all_at p [] = Unit {0}
all_at p (Trade b s x q ∷ rs) = (x ≡ p) × all_at p rs
all_at p (Withdrawal n q r ∷ rs) = all_at p rs

-- an auction answers the quantity of its trades, which are a feasible allocation at one grid price; none trades more, and where something trades no price with one that trades as much goes before
pub record Optimal (r : Rule) (g : Settings) (os : List Order) (o : Outcome) (p : ℕ) : Type 0 where
  pub answers : o.answer ≡ total_quantity (deals o.records)
  pub one_price : all_at p o.records
  pub feasible : Feasible g os p (deals o.records)
  pub most : (q : ℕ) (ds : List Deal) → Feasible g os q ds → total_quantity ds ≤ o.answer
  pub first : 0 < o.answer → (q : ℕ) (ds : List Deal) → Feasible g os q ds → o.answer ≤ total_quantity ds → goes_before (most_traded r) g os q p ≡ false

-- the law of optimal auctions settles what an auction answers and, where something trades, its price
abbrev pub OptimumIsUnique : Type 0
OptimumIsUnique = (r : Rule) (g : Settings) (os : List Order) (o o' : Outcome) (p p' : ℕ) → Optimal r g os o p → Optimal r g os o' p' → (o.answer ≡ o'.answer) × (0 < o.answer → p ≡ p')
