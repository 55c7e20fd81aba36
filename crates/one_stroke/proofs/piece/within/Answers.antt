-- The bytes of such a piece, one by one, are one copy and smaller counts.
use Rattle.std.proofs.Common.{ℕ, sym, ap, ◌∙◌, [], length, arith}
use Rattle.fields.specs.Output.{stored}
use Rattle.fields.proofs.Tests.{never}
use Rattle.decoding.specs.Decoder.{Decoder}
use Rattle.decoding.specs.Within.{nearer}
use Rattle.held.specs.declared.numbers.Held.{Held}
use Rattle.held.specs.Numbers.{encode, meant}
use Rattle.one_stroke.proofs.Strokes.{piece_taken}
use Rattle.one_stroke.proofs.piece.within.Goals as goal

pub overflow_cast-input : goal.overflow_cast-input
overflow_cast-input c = let w = (c.lies_outside.ensures c.if-lies_outside.false).lies [] in let i = c.held_in-h in omega (arith, w.short, ap (λ (x : Held). x.left) i.ensures, i.type_inv)

pub nearer-requires : goal.nearer-requires
nearer-requires c =
    let w = c.lies_outside.ensures c.if-lies_outside.false in
    let i = c.held_in-h in
    let room = ap (λ (x : Held). x.room) i.ensures in
    rw i.ensures (omega (arith, (w.lies []).short), omega (arith, (w.lies []).ends, i.type_inv, room))

pub returns : goal.returns
returns c =
    let a = c.args in
    let held = a.held.now in
    let input = a.input.now in
    let i = c.held_in-h in
    let w = c.lies_outside.ensures c.if-lies_outside.false in
    let numbers = c.numbers_of.ensures ∙ ap (λ (d : Decoder). encode d) c.nearer.ensures
    ∙ ap (λ (x : Held). encode (nearer (meant x []) (length input))) i.ensures
    in
    let buffer = c.put_piece.ensures ∙ ap (λ (n : ℕ). stored a.payload.now n input) (ap (λ (x : Held). x.got) i.ensures) in
    record { taken = λ _ rows. piece_taken held rows input a.payload.now c.numbers_of.result c.put_piece.new.payload (w.lies rows) numbers buffer; numbers = λ e. never (sym e); buffer = λ e. never (sym e) }
