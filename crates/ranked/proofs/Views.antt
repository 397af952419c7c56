-- A view read and written at one place, and the rotation and the copy by which rows move.
use Rattle.std.proofs.Common.{◌≡◌, ℕ, suc, ◌+◌, ◌-◌, ◌<◌, ◌≤◌, List, [], ◌∷◌, ◌++◌, reverse, length, get_or, take, drop, set, sym, refl, ap, ◌∙◌, ap₂, arith, drop-cons, add-one}
use Rattle.std.proofs.Math.Seq.{paste, take-suc}
use borrow.Rule.Slice.PartMut.{put_mid, mid_of}
use Rattle.std.specs.List.{insert, remove, between}
use Rattle.std.proofs.lemmas.List.Edits.{insert-append_left, remove-append_left, insert_end, length-remove}
use Rattle.std.proofs.lemmas.List.{length-reverse, length-drop, length-take-le, get_or-reverse, get_or-take, set_split, set_at, reverse-reverse, reverse-append, append_assoc, take-take, take_at, drop_at, drop-take, drop-drop, take-append-drop}
use Rattle.std.proofs.lemmas.Slice.{between_is, between_to_end}
use Rattle.model.specs.declared.types.Side.{Side}
use Rattle.model.specs.declared.types.Side.TheVariants.{Buy, Sell}
use Rattle.model.specs.declared.types.Order.{Order}
use Rattle.model.specs.Rank.{opposite}
use Rattle.ranked.specs.Views.{view, row_index}

-- a view has all rows
pub length_view : (s : Side) (rows : List Order) → length (view s rows) ≡ length rows
unfolding view
length_view Buy rows = refl
length_view Sell rows = length-reverse rows

-- the front and the rest of a list, from its back
reverse_take : {X : Type 0} (k : ℕ) (l : List X) → reverse (take k l) ≡ drop (length l - k) (reverse l)
reverse_take k l =
    let e = ap reverse (sym (take-append-drop k l)) ∙ reverse-append (take k l) (drop k l) in
    sym (ap (drop (length l - k)) e ∙ drop_at (reverse (drop k l)) (reverse (take k l)) (length l - k) (length-reverse (drop k l) ∙ length-drop k l))

reverse_drop : {X : Type 0} (k : ℕ) (l : List X) → reverse (drop k l) ≡ take (length l - k) (reverse l)
reverse_drop k l =
    let e = ap reverse (sym (take-append-drop k l)) ∙ reverse-append (take k l) (drop k l) in
    sym (ap (take (length l - k)) e ∙ take_at (reverse (drop k l)) (reverse (take k l)) (length l - k) (length-reverse (drop k l) ∙ length-drop k l))

-- a front and a rest, and an element between them
reverse_cut : {X : Type 0} (k m : ℕ) (l : List X) → reverse (take k l ++ drop m l) ≡ take (length l - m) (reverse l) ++ drop (length l - k) (reverse l)
reverse_cut k m l = let a = reverse_take k l in let b = reverse_drop m l in reverse-append (take k l) (drop m l) ∙ cc

reverse_put : {X : Type 0} (k m : ℕ) (x : X) (l : List X) → reverse (take k l ++ x ∷ drop m l) ≡ take (length l - m) (reverse l) ++ x ∷ drop (length l - k) (reverse l)
reverse_put k m x l =
    let a = reverse_take k l in
    let b = reverse_drop m l in
    let c : reverse (x ∷ drop m l) ≡ reverse (drop m l) ++ x ∷ [] = reverse-append (x ∷ []) (drop m l) in
    reverse-append (take k l) (x ∷ drop m l) ∙ ap (λ t. t ++ reverse (take k l)) c ∙ append_assoc (reverse (drop m l)) (x ∷ []) (reverse (take k l)) ∙ cc

-- an element written, put in, and taken out
reverse_set : {X : Type 0} (l : List X) (i : ℕ) (a : X) → i < length l → reverse (set l (length l - 1 - i) a) ≡ set (reverse l) i a
reverse_set l i a h =
    let k = length l - 1 - i in
    let n : length l - suc k ≡ i = omega arith in
    let m : length l - k ≡ suc i = omega arith in
    let e = set_split l k a (omega arith) in
    let f = set_split (reverse l) i a (omega (arith, length-reverse l)) in
    ap reverse e ∙ reverse_put k (suc k) a l ∙ cc

reverse_insert : {X : Type 0} (l : List X) (i : ℕ) (x : X) → reverse (insert l i x) ≡ insert (reverse l) (length l - i) x
reverse_insert l i x = reverse_put i i x l

reverse_remove : {X : Type 0} (l : List X) (i : ℕ) → i < length l → reverse (remove l i) ≡ remove (reverse l) (length l - 1 - i)
reverse_remove l i h =
    let n : length l - suc i ≡ length l - 1 - i = omega arith in
    let m : length l - i ≡ suc (length l - 1 - i) = omega arith in
    reverse_cut i (suc i) l ∙ cc

-- a row written in a view
pub view_set : (s : Side) (rows : List Order) (i : ℕ) (o : Order) → i < length rows → view s (set rows (row_index (length rows) s i) o) ≡ set (view s rows) i o
unfolding view
view_set Buy rows i o h = refl
view_set Sell rows i o h = reverse_set rows i o h

-- and read
pub view_at : (s : Side) (rows : List Order) (i : ℕ) (d : Order) → i < length rows → get_or (view s rows) i d ≡ get_or rows (row_index (length rows) s i) d
unfolding view
view_at Buy rows i d h = refl
view_at Sell rows i d h = get_or-reverse rows i d h

-- the view of the other side is the same backwards
pub other_view : (s : Side) (rows : List Order) → view (opposite s) rows ≡ reverse (view s rows)
unfolding view
other_view Buy rows = refl
other_view Sell rows = sym (reverse-reverse rows)

-- the first n elements from the back see nothing of a change among the first m
pub far_end : {X : Type 0} (v w : List X) (m n : ℕ) → length w ≡ length v → m + n ≤ length v → drop m w ≡ drop m v → take n (reverse w) ≡ take n (reverse v)
far_end {X} v w m n l h e = half w (omega arith) ∙ ap (λ t. take n (reverse t)) e ∙ sym (half v h)
  where
    half : (x : List X) → m + n ≤ length x → take n (reverse x) ≡ take n (reverse (drop m x))
    half x k = let k' : n ≤ length x - m = omega arith in sym (ap (take n) (reverse_drop m x) ∙ take-take n (length x - m) (reverse x) k')

-- a list up to the j-th element and from there on
pub halves : {X : Type 0} (xs : List X) (j : ℕ) → take (j + 1) xs ++ drop (suc j) xs ≡ xs
halves xs j = let e : j + 1 ≡ suc j = omega arith in rw e (take-append-drop (suc j) xs)

-- the part from i up to j, turned one back
module _ {X : Type 0} (xs part : List X) (i j : ℕ) (d : X) (from : i ≤ j) (within : j < length xs) where
  -- the elements up to j, and those above it
  abbrev front : List X
  front = take (j + 1) xs

  abbrev back : List X
  back = drop (suc j) xs

  long : length front ≡ j + 1
  long = length-take-le (j + 1) xs (omega arith)

  -- where the part lies
  placed : put_mid i (j + 1 - i) xs part ≡ take i front ++ (part ++ back)
  placed =
      let e : i + (j + 1 - i) ≡ suc j = omega arith in
      let low : take i front ≡ take i xs = take-take i (j + 1) xs (omega arith) in
      let high : drop (j + 1 - i) (drop i xs) ≡ back = drop-drop (j + 1 - i) i xs ∙ ap (λ k. drop k xs) e in
      cc

  -- the i-th element moves to the place of the j-th
  pub turned_back : part ≡ drop 1 (mid_of i (j + 1 - i) xs) ++ take 1 (mid_of i (j + 1 - i) xs) → put_mid i (j + 1 - i) xs part ≡ insert (remove xs i) j (get_or xs i d)
  turned_back e =
      let x = get_or xs i d in
      let within' : i < length front = omega (arith, long) in
      let n : length (remove front i) ≡ j = omega (arith, length-remove front i within', long) in
      let mid : mid_of i (j + 1 - i) xs ≡ x ∷ drop (suc i) front = between_is xs i (j + 1) ∙ drop-cons front i d within' ∙ ap (λ y. y ∷ drop (suc i) front) (get_or-take (j + 1) xs i d (omega arith)) in
      let to : part ≡ drop (suc i) front ++ x ∷ [] = e ∙ ap (λ m. drop 1 m ++ take 1 m) mid in
      let joined : take i front ++ ((drop (suc i) front ++ x ∷ []) ++ back) ≡ (remove front i ++ x ∷ []) ++ back = simp append_assoc in
      let out : remove xs i ≡ remove front i ++ back = ap (λ l. remove l i) (sym (halves xs j)) ∙ remove-append_left front back i within' in
      let end : insert (remove front i) j x ≡ remove front i ++ x ∷ [] = ap (λ k. insert (remove front i) k x) (sym n) ∙ insert_end (remove front i) x in
      placed ∙ ap (λ p. take i front ++ (p ++ back)) to ∙ joined ∙ sym (ap (λ l. insert l j x) out ∙ insert-append_left (remove front i) back j x (omega (arith, n)) ∙ ap (λ l. l ++ back) end)

-- an element put at an earlier place, after those from there on were copied over the place where it was
pub put_before : {X : Type 0} (xs : List X) (i j : ℕ) (x : X) → i ≤ j → j < length xs → set (paste xs (i + 1) (drop i xs) (j - i)) i x ≡ insert (remove xs j) i x
put_before xs i j x from within =
    let mid = take (j - i) (drop i xs) in
    let back = drop (suc j) xs in
    let up : i + (j - i) ≡ j = omega arith in
    let end : i + 1 + (j - i) ≡ suc j = omega arith in
    let first : take (i + 1) xs ≡ take i xs ++ get_or xs i x ∷ [] = ap (λ n. take n xs) (add-one i) ∙ take-suc xs i x (omega arith) in
    let pasted : paste xs (i + 1) (drop i xs) (j - i) ≡ take i xs ++ get_or xs i x ∷ (mid ++ back) =
    ap₂ (λ l n. (l ++ mid) ++ drop n xs) first end ∙ append_assoc (take i xs ++ get_or xs i x ∷ []) mid back ∙ append_assoc (take i xs) (get_or xs i x ∷ []) (mid ++ back) in
    let rest : drop i (take j xs) ≡ mid = ap (λ n. drop i (take n xs)) (sym up) ∙ drop-take i (j - i) xs in
    let low : take i (take j xs) ≡ take i xs = take-take i j xs from in
    let inserted : insert (remove xs j) i x ≡ (take i (take j xs) ++ x ∷ drop i (take j xs)) ++ back = insert-append_left (take j xs) back i x (omega (arith, length-take-le j xs (omega arith))) in
    ap (λ l. set l i x) pasted ∙ set_at (take i xs) (get_or xs i x) (mid ++ back) x i (length-take-le i xs (omega arith))
    ∙ sym (inserted ∙ ap₂ (λ l m. (l ++ x ∷ m) ++ back) low rest ∙ append_assoc (take i xs) (x ∷ mid) back)

-- an element moved from one place to another, from the back
reverse_moved : {X : Type 0} (l : List X) (i j p q : ℕ) (x : X) → i < length l → j < length l → p ≡ length l - 1 - i → q ≡ length l - 1 - j → reverse (insert (remove l i) j x) ≡ insert (remove (reverse l) p) q x
reverse_moved l i j p q x h k e f =
    let n : length (remove l i) - j ≡ q = omega (arith, length-remove l i h) in
    reverse_insert (remove l i) j x ∙ cc (reverse_remove l i h)

-- a place of a side is a row of the slice
pub row_within : (s : Side) (count i : ℕ) → i < count → row_index count s i < count
row_within Buy count i h = h
row_within Sell count i h = omega arith

-- a row moved from one place of a side to another
pub view_moved : (s : Side) (rows : List Order) (i j : ℕ) (d : Order) → i < length rows → j < length rows → view s (insert (remove rows (row_index (length rows) s i)) (row_index (length rows) s j) (get_or rows (row_index (length rows) s i) d)) ≡ insert (remove (view s rows) i) j (get_or (view s rows) i d)
unfolding view
view_moved Buy rows i j d h k = refl
view_moved Sell rows i j d h k =
    let p : ℕ = length rows - 1 - i in
    let q : ℕ = length rows - 1 - j in
    reverse_moved rows p q i j (get_or rows p d) (omega arith) (omega arith) (omega arith) (omega arith) ∙ ap (insert (remove (reverse rows) i) j) (sym (get_or-reverse rows i d h))

-- a row written over the one that was put in
pub put_over : {X : Type 0} (xs : List X) (i : ℕ) (x y : X) → i ≤ length xs → set (insert xs i x) i y ≡ insert xs i y
put_over xs i x y h = set_at (take i xs) x (drop i xs) y i (length-take-le i xs h)

-- the last n elements, from the back
pub last_rows : {X : Type 0} (xs rest : List X) (i n : ℕ) → i + n ≡ length xs → rest ≡ between i (length xs) xs → reverse rest ≡ take n (reverse xs)
last_rows xs rest i n h e =
    let m : length xs - i ≡ n = omega arith in
    ap reverse (e ∙ between_to_end xs i (length xs) (omega arith)) ∙ reverse_drop i xs ∙ ap (λ k. take k (reverse xs)) m
