-- The paths in turn: the first that takes the input answers, and one that does not has changed nothing.
use Rattle.std.proofs.Common.{refl}
use Rattle.in_place.specs.Answer.{answer_of}
use Rattle.one_stroke.proofs.Strokes.{after_none}
use Rattle.in_place.proofs.call.next_message.Goals as goal

pub returns-in-Some : goal.returns-in-Some
returns-in-Some c =
    let a = c.args in
    let w = c.within in
    let o = c.at_once in
    let no = c.if-within.false in
    after_none (answer_of c.handed.result) o.new.held o.new.rows o.new.payload w.new.held a.rows.now w.new.payload a.held.now a.rows.now a.input.now a.payload.now (w.ensures.numbers no) refl (w.ensures.buffer no)
    (rw c.handed.ensures (o.ensures.taken c.in-Some.used c.in-Some.is))

pub returns : goal.returns
returns c =
    let a = c.args in
    let w = c.within in
    let o = c.at_once in
    let t = c.by_turns in
    let no = c.if-within.false in
    let none = c.in_default.is in
    after_none (answer_of t.result) t.new.held t.new.rows t.new.payload w.new.held a.rows.now w.new.payload a.held.now a.rows.now a.input.now a.payload.now (w.ensures.numbers no) refl (w.ensures.buffer no)
    (after_none (answer_of t.result) t.new.held t.new.rows t.new.payload o.new.held o.new.rows o.new.payload w.new.held a.rows.now a.input.now w.new.payload (o.ensures.numbers none) (o.ensures.table none) (o.ensures.buffer none) t.ensures)
