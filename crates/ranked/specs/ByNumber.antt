-- Orders put together by number.
use Rattle.std.specs.Prelude.{Bool, cond, List, [], ◌∷◌, nat_lt}
use Rattle.model.specs.declared.types.Order.{Order}

-- an element put into a sorted list
abbrev pub filed : {X : Type 0} → (X → X → Bool) → X → List X → List X
filed lt o [] = o ∷ []
filed lt o (x ∷ xs) = cond (lt o x) (o ∷ x ∷ xs) (x ∷ filed lt o xs)

-- order a has the lower number
abbrev pub earlier : Order → Order → Bool
earlier a b = nat_lt a.number b.number

-- an order filed by its number
abbrev pub file : Order → List Order → List Order
file o xs = filed earlier o xs

-- each of some orders filed by its number
abbrev pub file_all : List Order → List Order → List Order
file_all [] l = l
file_all (x ∷ xs) l = file x (file_all xs l)

-- the orders of two queues by number
abbrev pub by_number : List Order → List Order → List Order
by_number buys sells = file_all buys (file_all sells [])
