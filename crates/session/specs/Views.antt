-- What a session stands for, given the ghost members of its book.
use Rattle.std.specs.Prelude.{ℕ, List}
use Rattle.model.specs.declared.types.Order.{Order}
use Rattle.model.specs.Orders.{Standing}
use Rattle.model.specs.State.{State}
use Rattle.model.specs.Views.{view}
use Rattle.book.specs.declared.meaning.Book.{Ghosts as BookMembers}
use Rattle.pricing.specs.declared.rule.PriceRule.{Ghosts as RuleMembers}
use Rattle.grid.specs.Views.{plain}
use Rattle.session.specs.declared.session.Session.{Session}

-- the session in the definition's words
abbrev pub state : {B R : Type 0} {b : BookMembers B} {r : RuleMembers R} → (B → List Order) → (B → ℕ) → Session B R b r → State
state orders capacity s = view (plain s.settings) s.day (orders s.book) (capacity s.book)

-- no standing order has a number above the last one given, as in every session
abbrev pub Sound : State → Type 0
Sound s = Standing 0 s.orders s.last
