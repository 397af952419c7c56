-- An auction that is done is optimal: its trades are a feasible allocation, none trades more, and its price is the first.
use Rattle.std.proofs.Common.{◌≡◌, ℕ, true, List, [], map, filter, sym, ap, ◌∙◌, subst, arith}
use Rattle.std.proofs.ByRecursion.{All-weaker}
use Rattle.model.specs.Types.{Buy, Sell, Order, Point, AfterAuction, TapeRecord, Call, Enter, Withdraw, BeginRandom, Auction, Close}
use Rattle.model.specs.Grid.{Settings, on_grid}
use Rattle.model.specs.Curve.{traded}
use Rattle.model.specs.Rules.{Rule}
use Rattle.model.specs.Orders.{find, withdrawal}
use Rattle.model.specs.State.{State}
use Rattle.model.specs.Auction.{trades_at, idle, struck_records}
use Rattle.model.specs.Calls.{is_market_order, unpriced, auction}
use Rattle.model.specs.Run.{step}
use Rattle.model.specs.Lawful.{Lawful}
use Rattle.model.specs.Allocations.{total_quantity, may_trade, Feasible, deals, Optimal, AtMost, FirstPrice, Found}
use Rattle.model.specs.Laws.{optimal}
use Rattle.model.proofs.GridPrices.{indicative_on_grid}
use Rattle.model.proofs.Ranking.{Distinct}
use Rattle.model.proofs.Standing.{standing_alive, standing_distinct}
use Rattle.model.proofs.Records.{quantity_of_deals, deals_withdrawn, at_withdrawn}
use Rattle.model.proofs.Pairing.{Alive}
use Rattle.model.proofs.AtPrice.{Party}
use Rattle.model.proofs.Trades.{trades_limited, trades_total, trades_parties, between_at, between_deals}
use Rattle.model.proofs.Volumes.{party_may_trade, feasible_traded}
use Rattle.model.proofs.Choice.{call_price_found}
use Rattle.model.proofs.Sound.{struck_at, auction_cases, Sound}

-- the trades at a price of the grid are a feasible allocation
trades_feasible : (g : Settings) (os : List Order) → Distinct os → Alive os → (p v : ℕ) → on_grid g p ≡ true → Feasible g os p (deals (trades_at g p v os))
trades_feasible g os distinct alive p v on = record {
  grid = on;
  parties = All-weaker (λ d. Party g Buy p os d.buy × Party g Sell p os d.sell) (λ d. may_trade g Buy p (find d.buy os) × may_trade g Sell p (find d.sell os))
      (λ d h. (party_may_trade g Buy p d.buy os distinct h.0, party_may_trade g Sell p d.sell os distinct h.1))
      (deals (trades_at g p v os)) (between_deals p (Party g Buy p os) (Party g Sell p os) (trades_at g p v os) (trades_parties g p v os));
  limited = λ n. omega (arith, quantity_of_deals n (trades_at g p v os), trades_limited g p v os alive n);
}

module _ (r : Rule) (s : State) (h : Sound s) where
  abbrev g : Settings
  g = s.settings

  abbrev os : List Order
  os = s.orders

  distinct : Distinct os
  distinct = standing_distinct 0 s.last os h.standing

  alive : Alive os
  alive = standing_alive 0 s.last os h.standing

  -- where nothing trades at any grid price, no feasible allocation does
  unpriced_optimal : AtMost g os 0 → Optimal r g os (unpriced s) g.indicative
  unpriced_optimal most =
      let none : deals (map (withdrawal AfterAuction) (filter is_market_order os)) ≡ [] = deals_withdrawn [] AfterAuction (filter is_market_order os) in
      record {
        answers = sym (ap total_quantity none);
        one_price = at_withdrawn g.indicative [] AfterAuction (filter is_market_order os) tt;
        feasible = subst (Feasible g os g.indicative) (sym none) (record { grid = indicative_on_grid g h.valid; parties = tt; limited = λ n. omega arith });
        most = λ q ds f. omega (arith, feasible_traded g os q ds distinct f, most q f.grid);
        first = λ l q ds f m. absurd (omega arith);
      }

  -- the trades at the price that is called are the most, and the price is the first
  struck_optimal : (x : Point) → FirstPrice r g os x → Optimal r g os (struck_at s x) x.price
  struck_optimal x b =
      let p : ℕ = x.price in
      let v : ℕ = traded x in
      let ts : List TapeRecord = trades_at g p v os in
      let same : deals (struck_records ts os) ≡ deals ts = deals_withdrawn ts AfterAuction (filter (idle ts) os) in
      record {
        answers = sym (ap total_quantity same ∙ trades_total g p v os alive (omega (arith, ap traded b.is)));
        one_price = at_withdrawn p ts AfterAuction (filter (idle ts) os) (between_at p (Party g Buy p os) (Party g Sell p os) ts (trades_parties g p v os));
        feasible = subst (Feasible g os p) (sym same) (trades_feasible g os distinct alive p v b.on);
        most = λ q ds f. omega (arith, feasible_traded g os q ds distinct f, b.most q f.grid);
        first = λ l q ds f m. b.first q f.grid;
      }

  auction_optimal : Lawful r → (tape scratch : ℕ) → (auction r s tape scratch).refusal ≡ 0 → (p : ℕ) × Optimal r g os (auction r s tape scratch) p
  auction_optimal law tape scratch =
      let found = call_price_found r law g h.valid os in
      auction_cases r s tape scratch (λ o. o.refusal ≡ 0 → (p : ℕ) × Optimal r g os o p)
      (λ n z. absurd (omega arith))
      (λ _ e _ _. (g.indicative, unpriced_optimal (subst (Found r g os) e found)))
      (λ _ x e _ _. (x.price, struck_optimal x (subst (Found r g os) e found)))

  -- so is every call of a list
  pub step_optimal : Lawful r → (tape scratch : ℕ) (c : Call) → optimal r s c (step r tape scratch s c)
  step_optimal law tape scratch (Enter e) = tt
  step_optimal law tape scratch (Withdraw m n) = tt
  step_optimal law tape scratch BeginRandom = tt
  step_optimal law tape scratch Auction = auction_optimal law tape scratch
  step_optimal law tape scratch Close = tt
