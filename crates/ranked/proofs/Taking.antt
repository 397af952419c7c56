-- The orders of a side taken one at a time: from the front of their rows, or from the back.
use Rattle.std.proofs.Common.{List, [], ◌∷◌, reverse, length, Some, None, Option, Bor, Iter, ap, ◌∙◌, rules}
use Rattle.std.specs.Iterator.{YieldsFirstRef, MakesProgress, item_count}
use Rattle.std.specs.Slice.Iter.{iter_rest, iter_steps, iter_steps_back}
use Rattle.std.proofs.lemmas.List.{reverse-append, nil_from_length}

-- one is taken from the front
pub from_front : {X : Type 0} (v w : Iter X) (r : Option (Bor X)) → iter_steps v r w → YieldsFirstRef iter_rest v r w
from_front v w None h = let e = nil_from_length (iter_rest v) h.0 in (e, ap iter_rest h.1 ∙ e)
from_front v w (Some x) h = h

-- one is taken from the back
pub from_back : {X : Type 0} (v w : Iter X) (r : Option (Bor X)) → iter_steps_back v r w → YieldsFirstRef (λ s. reverse (iter_rest s)) v r w
from_back v w None h = let e = ap reverse (nil_from_length (iter_rest v) h.0) in (e, ap (λ s. reverse (iter_rest s)) h.1 ∙ e)
from_back v w (Some x) h = ap reverse h ∙ reverse-append (iter_rest w) (x.now ∷ [])

-- so that fewer are left
pub fewer : {S A : Type 0} (rest : S → List A) (s t : S) (r : Option (Bor A)) → YieldsFirstRef rest s r t → MakesProgress (λ _. Unit {0}) (item_count rest) s r t
fewer rest s t None e = search rules
fewer rest s t (Some x) e = let l = ap length e in search rules
