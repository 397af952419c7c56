-- What a change of the rows, seen from one end, does to the queues.
use Rattle.std.proofs.Common.{◌≡◌, ℕ, suc, ◌+◌, ◌^◌, ◌<◌, ◌≤◌, cond, List, [], ◌∷◌, ◌++◌, length, take, drop, set, sym, ap, ◌∙◌, arith}
use lib.Seq.{take-set-lt}
use Rattle.std.specs.List.{insert, remove}
use Rattle.std.proofs.lemmas.List.Edits.{insert-append_left, remove-append_left, insert_end, length-insert, length-remove}
use Rattle.std.proofs.lemmas.List.{length-take-le, drop-set-lt, take_at, drop_at, append_assoc, length-append}
use Rattle.model.specs.declared.types.Side.{Side}
use Rattle.model.specs.declared.types.Side.TheVariants.{Buy, Sell}
use Rattle.model.specs.declared.types.Order.{Order}
use Rattle.model.specs.Rank.{opposite, same_side}
use Rattle.ranked.specs.Views.{view}
use Rattle.ranked.specs.Queues.{count_of, capacity_of, queue, HasRoom, Changed}
use Rattle.ranked.specs.declared.sides.Sides.{Sides}
use Rattle.ranked.proofs.Views.{length_view, other_view, far_end, halves}

-- the queue of the other side leaves room for n orders of a side
abbrev pub Room : Side → Sides → ℕ → Type 0
Room s h n = n + count_of (opposite s) h ≤ capacity_of h

-- as it does for those of the side
pub room_of : (s : Side) (h : Sides) → Room s h (count_of s h)
room_of Buy h = h.fits
room_of Sell h = let f = h.fits in omega arith

-- a row is free, said of either side
pub free_of : (s : Side) (h : Sides) → HasRoom h → Room s h (count_of s h + 1)
free_of Buy h f = omega arith
free_of Sell h f = omega arith

-- a queue is as long as its side has orders
pub length_queue : (s : Side) (h : Sides) → length (queue s h) ≡ count_of s h
unfolding queue
length_queue s h = length-take-le (count_of s h) (view s h.rows.now) (omega (arith, length_view s h.rows.now, room_of s h))

-- so that its orders can be counted
pub few_orders : (s : Side) (h : Sides) (xs : List Order) → xs ≡ queue s h → length xs < 2 ^ 64
few_orders s h xs e = let f = room_of s h in let m = h.small in omega (arith, ap length e, length_queue s h)

-- there are as many rows, and as many orders of the other side, as there were
pub record Beside (s : Side) (h k : Sides) : Type 0 where
  pub rows : length k.rows.now ≡ length h.rows.now
  pub others : count_of (opposite s) k ≡ count_of (opposite s) h

-- what changes only among the first m rows of a side leaves the other queue
other_queue : (s : Side) (h k : Sides) (m : ℕ) → Beside s h k → Room s h m → drop m (view s k.rows.now) ≡ drop m (view s h.rows.now) → queue (opposite s) k ≡ queue (opposite s) h
unfolding queue
other_queue s h k m b f d =
    let v = h.rows.now in
    let w = k.rows.now in
    let n = count_of (opposite s) h in
    let same = far_end (view s v) (view s w) m n (length_view s w ∙ b.rows ∙ sym (length_view s v)) (omega (arith, length_view s v)) d in
    ap (λ l. take l (view (opposite s) w)) b.others ∙ ap (take n) (other_view s w) ∙ same ∙ sym (ap (take n) (other_view s v))

-- and its own queue is what is seen from its end
seen : (s : Side) (h k : Sides) (xs : List Order) (m : ℕ) → Beside s h k → take (count_of s k) (view s k.rows.now) ≡ xs → Room s h m → drop m (view s k.rows.now) ≡ drop m (view s h.rows.now) → (t : Side) → queue t k ≡ cond (same_side t s) xs (queue t h)
unfolding queue
seen Buy h k xs m b e f d Buy = e
seen Buy h k xs m b e f d Sell = other_queue Buy h k m b f d
seen Sell h k xs m b e f d Buy = other_queue Sell h k m b f d
seen Sell h k xs m b e f d Sell = e

changed : (s : Side) (h k : Sides) (xs : List Order) (m : ℕ) → Beside s h k → take (count_of s k) (view s k.rows.now) ≡ xs → Room s h m → drop m (view s k.rows.now) ≡ drop m (view s h.rows.now) → Changed s xs h k
changed s h k xs m b e f d = record { queues = seen s h k xs m b e f d; room = b.rows }

-- a row is written over
pub replaced : (s : Side) (h k : Sides) (i : ℕ) (o : Order) → i < count_of s h → Beside s h k → count_of s k ≡ count_of s h → view s k.rows.now ≡ set (view s h.rows.now) i o → Changed s (set (queue s h) i o) h k
unfolding queue
replaced s h k i o l b c e =
    let v = view s h.rows.now in
    let n = count_of s h in
    changed s h k (set (take n v) i o) n b
    (ap (λ z. take z (view s k.rows.now)) c ∙ ap (take n) e ∙ take-set-lt n v i o l) (room_of s h) (ap (drop n) e ∙ drop-set-lt n v i o l)

-- a row is put in, and the last one goes
pub put_in : (s : Side) (h k : Sides) (i n : ℕ) (o : Order) → n ≡ count_of s h → Room s h (n + 1) → i ≤ n → Beside s h k → count_of s k ≡ n + 1 → view s k.rows.now ≡ insert (remove (view s h.rows.now) n) i o → Changed s (insert (queue s h) i o) h k
unfolding queue
put_in s h k i n o q f l b c e =
    let v = view s h.rows.now in
    let w = view s k.rows.now in
    let back = drop (suc n) v in
    let m : length (take n v) ≡ n = length-take-le n v (omega (arith, length_view s h.rows.now)) in
    let split : w ≡ insert (take n v) i o ++ back = e ∙ insert-append_left (take n v) back i o (omega (arith, m)) in
    let long : length (insert (take n v) i o) ≡ n + 1 = omega (arith, length-insert (take n v) i o (omega (arith, m)), m) in
    let up : n + 1 ≡ suc n = omega arith in
    changed s h k (insert (take (count_of s h) v) i o) (n + 1) b
    (ap (λ z. take z w) c ∙ ap (take (n + 1)) split ∙ take_at (insert (take n v) i o) back (n + 1) long ∙ ap (λ z. insert (take z v) i o) q)
    f
    (ap (drop (n + 1)) split ∙ drop_at (insert (take n v) i o) back (n + 1) long ∙ ap (λ z. drop z v) (sym up))

-- a row is taken out, and becomes the last
pub taken_out : (s : Side) (h k : Sides) (i n : ℕ) (x : Order) → n + 1 ≡ count_of s h → i ≤ n → Beside s h k → count_of s k ≡ n → view s k.rows.now ≡ insert (remove (view s h.rows.now) i) n x → Changed s (remove (queue s h) i) h k
unfolding queue
taken_out s h k i n x q l b c e =
    let v = view s h.rows.now in
    let w = view s k.rows.now in
    let room = room_of s h in
    let front = take (n + 1) v in
    let back = drop (suc n) v in
    let m : length front ≡ n + 1 = length-take-le (n + 1) v (omega (arith, length_view s h.rows.now)) in
    let less : length (remove front i) ≡ n = omega (arith, length-remove front i (omega (arith, m)), m) in
    let out : remove v i ≡ remove front i ++ back = ap (λ z. remove z i) (sym (halves v n)) ∙ remove-append_left front back i (omega (arith, m)) in
    let end : insert (remove front i) n x ≡ remove front i ++ x ∷ [] = ap (λ z. insert (remove front i) z x) (sym less) ∙ insert_end (remove front i) x in
    let put : w ≡ (remove front i ++ x ∷ []) ++ back = e ∙ ap (λ z. insert z n x) out ∙ insert-append_left (remove front i) back n x (omega (arith, less)) ∙ ap (λ z. z ++ back) end in
    let split : w ≡ remove front i ++ (x ∷ back) = put ∙ append_assoc (remove front i) (x ∷ []) back in
    let long : length (remove front i ++ x ∷ []) ≡ n + 1 = omega (arith, less, length-append (remove front i) (x ∷ [])) in
    let up : n + 1 ≡ suc n = omega arith in
    changed s h k (remove (take (count_of s h) v) i) (n + 1) b
    (ap (λ z. take z w) c ∙ ap (take n) split ∙ take_at (remove front i) (x ∷ back) n less ∙ ap (λ z. remove (take z v) i) q)
    (omega (arith, room))
    (ap (drop (n + 1)) put ∙ drop_at (remove front i ++ x ∷ []) back (n + 1) long ∙ ap (λ z. drop z v) (sym up))
