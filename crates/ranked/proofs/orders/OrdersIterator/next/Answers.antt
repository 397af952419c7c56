use Rattle.ranked.specs.Views.{view}
use Rattle.std.specs.Slice.Iter.{iter_rest}
use Rattle.ranked.proofs.Taking.{from_front, from_back, fewer}
use Rattle.ranked.proofs.orders.OrdersIterator.next.Goals as goal

pub returns-in-Buy-clause-steps : goal.returns-in-Buy-clause-steps
unfolding view
returns-in-Buy-clause-steps c = rw c.in-Buy.is (from_front c.args.self.now.rows c.next.new.self c.next.result c.next.ensures.steps)

pub returns-in-Sell-clause-steps : goal.returns-in-Sell-clause-steps
unfolding view
returns-in-Sell-clause-steps c = rw c.in-Sell.is (from_back c.args.self.now.rows c.next_back.new.self c.next_back.result c.next_back.ensures.steps)

pub returns-in-Buy-clause-goes : goal.returns-in-Buy-clause-goes
returns-in-Buy-clause-goes c = fewer (λ s. view s.side (iter_rest s.rows)) _ _ c.next.result (returns-in-Buy-clause-steps c)

pub returns-in-Sell-clause-goes : goal.returns-in-Sell-clause-goes
returns-in-Sell-clause-goes c = fewer (λ s. view s.side (iter_rest s.rows)) _ _ c.next_back.result (returns-in-Sell-clause-steps c)
