use Rattle.std.proofs.Common.{◌≡◌, Some, sym, ap, ◌∙◌, subst, ◌∷◌, []}
use Rattle.model.specs.Numbers.{max_number}
use Rattle.model.specs.declared.types.Reason.TheVariants.{ByMember}
use Rattle.model.specs.declared.types.TapeRecord.TheVariants.{Withdrawal}
use Rattle.model.specs.Orders.{find, lower, left_of}
use Rattle.book.specs.Plain.{plain, as_plain}
use Rattle.tape.specs.Tapes.{Recorded}
use Rattle.withdrawing.proofs.Found.{found_number, found_takes}
use Rattle.withdrawing.proofs.withdrawals.withdraw_one.Goals as goal

pub withdraw_whole-requires-clause-whole : goal.withdraw_whole-requires-clause-whole
withdraw_whole-requires-clause-whole g c =
    let book = c.args.book.now in
    found_takes max_number c.args.number (plain c.unwrap-order.result) (g.B.Book.orders book) (g.B.Book.kept.standing book) (sym (ap as_plain c.unwrap-order.ensures) ∙ c.find.ensures)

pub returns : goal.returns
returns g c =
    let os = g.B.Book.orders c.args.book.now in
    let o = plain c.unwrap-order.result in
    let e : Some o ≡ find c.args.number os = sym (ap as_plain c.unwrap-order.ensures) ∙ c.find.ensures in
    let i = found_number c.args.number o os e in
    record {
      answer = ap left_of e;
      after = c.withdraw_whole.ensures.after ∙ ap (λ n. lower n o.left os) i;
      room = c.withdraw_whole.ensures.room;
      records = subst (λ n. Recorded c.args.tape.now c.withdraw_whole.new.tape (Withdrawal n o.left ByMember ∷ [])) i c.withdraw_whole.ensures.records;
    }
