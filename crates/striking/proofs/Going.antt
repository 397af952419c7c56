-- A pairing on its way: what is still to trade completes what was traded.
use Rattle.std.proofs.Common.{◌≡◌, ℕ, ◌-◌, ◌<◌, ◌≤◌, List, [], ◌∷◌, ◌++◌, length, Some, None, Option, sym, ap, ◌∙◌, subst, append_assoc, length-append, arith}
use Rattle.model.specs.declared.types.Side.TheVariants.{Buy, Sell}
use Rattle.model.specs.declared.types.Order.{Order}
use Rattle.model.specs.declared.types.TapeRecord.{TapeRecord}
use Rattle.model.specs.Grid.{Settings}
use Rattle.model.specs.Auction.{trades_at, apply_trade, apply_trades}
use Rattle.tape.specs.declared.tapes.Tape.{Tape}
use Rattle.tape.specs.Tapes.{room, Recorded}
use Rattle.tape.proofs.Recording.{recorded_more, room_after}
use Rattle.striking.specs.declared.meetings.Meeting.{Meeting}
use Rattle.striking.specs.Parties.{Passed}
use Rattle.striking.specs.Meetings.{Meets, trade_record, reached, last_party}

-- the trades us, behind the last meeting, end as the trades ts do
abbrev pub Follows : List TapeRecord → List TapeRecord → Option Meeting → Type 0
Follows ts us None = us ≡ ts
Follows ts us (Some m) = (last_party Buy m.buy.order.number us ≡ last_party Buy 0 ts) × (last_party Sell m.sell.order.number us ≡ last_party Sell 0 ts)

follows_more : (ts us us' : List TapeRecord) (p : ℕ) (last : Option Meeting) (m : Meeting) → Follows ts us last → us ≡ trade_record p m ∷ us' → Follows ts us' (Some m)
follows_more ts us us' p None m h e = (ap (last_party Buy 0) (sym e ∙ h), ap (last_party Sell 0) (sym e ∙ h))
follows_more ts us us' p (Some l) m h e = (ap (last_party Buy l.buy.order.number) (sym e) ∙ h.0, ap (last_party Sell l.sell.order.number) (sym e) ∙ h.1)

-- the trades ts of the orders os, of which those on the tape were made; no active order stands before the places of the last meeting
pub record Going (g : Settings) (p : ℕ) (ts : List TapeRecord) (os now : List Order) (t₀ t : Tape) (v : ℕ) (last : Option Meeting) : Type 0 where
  pub made : List TapeRecord
  pub all : made ++ trades_at g p v now ≡ ts
  pub orders : apply_trades (trades_at g p v now) now ≡ apply_trades ts os
  pub records : Recorded t₀ t made
  pub follows : Follows ts (trades_at g p v now) last
  pub buys : Passed g Buy now (reached Buy last)
  pub sells : Passed g Sell now (reached Sell last)

module _ (g : Settings) (p : ℕ) (os : List Order) (t₀ : Tape) where
  module _ (ts : List TapeRecord) (now : List Order) (t : Tape) (v : ℕ) (last : Option Meeting) (h : Going g p ts os now t₀ t v last) where
    -- the next trade has a place
    pub going_place : (m : Meeting) → Meets g p v now m → length ts ≤ room t₀ → 0 < room t
    going_place m k l = omega (arith, l, room_after t₀ t h.made h.records, ap length h.all, length-append h.made (trades_at g p v now), ap length k.trades)

    -- after it
    pub going_more : (m : Meeting) (now' : List Order) (t' : Tape) → Meets g p v now m → now' ≡ apply_trade (trade_record p m) now → Recorded t t' (trade_record p m ∷ []) → Going g p ts os now' t₀ t' (v - m.quantity) (Some m)
    going_more m now' t' k e r =
        let us : List TapeRecord = trades_at g p (v - m.quantity) (apply_trade (trade_record p m) now) in
        subst (λ l. Going g p ts os l t₀ t' (v - m.quantity) (Some m)) (sym e) (record {
          made = h.made ++ trade_record p m ∷ [];
          all = append_assoc h.made (trade_record p m ∷ []) us ∙ ap (λ l. h.made ++ l) (sym k.trades) ∙ h.all;
          orders = ap (λ l. apply_trades l now) (sym k.trades) ∙ h.orders;
          records = recorded_more t₀ t t' h.made (trade_record p m ∷ []) h.records r;
          follows = follows_more ts (trades_at g p v now) us p last m h.follows k.trades;
          buys = k.buys;
          sells = k.sells;
        })
