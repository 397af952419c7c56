-- Values that are written place by place, each as it is turned.
use Rattle.std.proofs.Common.{◌≡◌, ℕ, ◌+◌, ◌<◌, ◌≤◌, List, [], ◌∷◌, ◌++◌, map, length, take, drop, get_or, set, sym, ap, ◌∙◌, append_assoc, arith}
use Rattle.std.proofs.lemmas.List.{drop_more, take_more, set_at, length-map, length-take-le, map-append, take_all}

-- one value more
pub filled_more : {A B : Type 0} (f : A → B) (vs : List A) (places : List B) (i : ℕ) (v : A) (it : B) → i < length vs → i < length places → v ≡ get_or vs i v → it ≡ f v
    → set (map f (take i vs) ++ drop i places) i it ≡ map f (take (i + 1) vs) ++ drop (i + 1) places
filled_more {A = A} {B = B} f vs places i v it h room e turned =
    let front : List B = map f (take i vs) in
    let rest : List B = drop (i + 1) places in
    ap (λ ys. set (front ++ ys) i it) (drop_more places i it room)
    ∙ set_at front _ rest it i (length-map (take i vs) f ∙ length-take-le i vs (omega arith))
    ∙ sym (append_assoc front (it ∷ []) rest)
    ∙ ap (λ y. (front ++ y ∷ []) ++ rest) (turned ∙ ap f e)
    ∙ ap (λ ys. ys ++ rest) (sym (map-append f (take i vs) (get_or vs i v ∷ [])) ∙ ap (map f) (sym (take_more vs i v h)))

-- all values are written, with room for more
pub filled_all : {A B : Type 0} (f : A → B) (vs : List A) (places : List B) (i : ℕ) → i ≤ length vs → length vs ≤ i → i < length places → map f (take i vs) ++ drop i places ≡ map f (take (length places) vs) ++ drop (length vs) places
filled_all f vs places i h all room =
    let n : i ≡ length vs = omega arith in
    ap (λ xs. map f xs ++ drop i places) (take_all i vs all ∙ sym (take_all (length places) vs (omega arith)))
    ∙ ap (λ k. map f (take (length places) vs) ++ drop k places) n
