use Rattle.std.proofs.Common.{◌≤◌, map, length, sym, ◌∙◌, subst}
use Rattle.model.specs.declared.types.Reason.TheVariants.{AtClose}
use Rattle.model.specs.Orders.{withdrawal}
use Rattle.tape.specs.Tapes.{room, Recorded}
use Rattle.withdrawing.proofs.Walk.{all_chosen, none_left}
use Rattle.withdrawing.proofs.withdrawals.withdraw_all.Goals as goal

pub withdraw_chosen-requires : goal.withdraw_chosen-requires
withdraw_chosen-requires g c = subst (λ l. length l ≤ room c.args.tape.now) (sym (all_chosen (g.B.Book.orders c.args.book.now))) c.requires

pub returns-clause-after : goal.returns-clause-after
returns-clause-after g c = c.withdraw_chosen.ensures.after ∙ none_left (g.B.Book.orders c.args.book.now)

pub returns-clause-records : goal.returns-clause-records
returns-clause-records g c = subst (λ l. Recorded c.args.tape.now c.withdraw_chosen.new.tape (map (withdrawal AtClose) l)) (all_chosen (g.B.Book.orders c.args.book.now)) c.withdraw_chosen.ensures.records
