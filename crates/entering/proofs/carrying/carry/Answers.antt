use Rattle.std.proofs.Common.{ℕ, ◌+◌, List, map, arith}
use Rattle.model.specs.declared.types.TapeRecord.{TapeRecord}
use Rattle.model.specs.Trading.{Fill, trade_of}
use Rattle.tape.specs.Tapes.{Recorded}
use Rattle.tape.proofs.Recording.{recorded_more}
use Rattle.grid.specs.Views.{plain}
use Rattle.meeting.specs.Plans.{meeting_of}
use Rattle.entering.specs.Accepted.{some_fills, own_record}
use Rattle.entering.proofs.Placing.{some_recorded, none_recorded, room_left}
use Rattle.entering.proofs.carrying.carry.Goals as goal
use Rattle.entering.proofs.carrying.carry.Goals.{then-course-gt0, else-course-gt0}

pub settle-requires : goal.settle-requires
settle-requires g c =
    let e = c.args.entry in
    let rec : Fill → TapeRecord = trade_of e.side (c.args.day.now.last + 1) in
    let n : ℕ = c.args.course.fills in
    let fs : List Fill = (meeting_of (plain c.args.settings.now) c.args.day.now.reference e.side e.price e.quantity (g.B.Book.orders c.args.book.now)).fills in
    let a = c.args.tape.now in
    let b = c.if-course-gt0.tape in
    let traded : Recorded a b (map rec (some_fills n fs)) = elim c.if-course-gt0.branch [ then-course-gt0 w ↦ some_recorded rec n fs a b w.if-course-gt0.true w.carry_out.new.tape w.carry_out.ensures.tape w.tape-is | else-course-gt0 w ↦ none_recorded rec n fs a b w.if-course-gt0.false w.tape-is ] in
    omega (arith, c.requires.places, room_left rec n fs a b c.requires.fills traded)

pub returns-clause-tape : goal.returns-clause-tape
returns-clause-tape g c =
    let e = c.args.entry in
    let o = c.args.course in
    let rec : Fill → TapeRecord = trade_of e.side (c.args.day.now.last + 1) in
    let fs : List Fill = (meeting_of (plain c.args.settings.now) c.args.day.now.reference e.side e.price e.quantity (g.B.Book.orders c.args.book.now)).fills in
    let a = c.args.tape.now in
    let b = c.if-course-gt0.tape in
    let traded : Recorded a b (map rec (some_fills o.fills fs)) = elim c.if-course-gt0.branch [ then-course-gt0 w ↦ some_recorded rec o.fills fs a b w.if-course-gt0.true w.carry_out.new.tape w.carry_out.ensures.tape w.tape-is | else-course-gt0 w ↦ none_recorded rec o.fills fs a b w.if-course-gt0.false w.tape-is ] in
    recorded_more a b c.settle.new.tape (map rec (some_fills o.fills fs)) (own_record (c.args.day.now.last + 1) o.remaining o.fate) traded c.settle.ensures.tape
