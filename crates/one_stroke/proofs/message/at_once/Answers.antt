-- What was seen is taken: its header is stored, and its payload in one copy.
use Rattle.std.proofs.Common.{ℕ, ◌+◌, ◌≡◌, refl, ap, ◌∙◌, drop, take, arith}
use Rattle.std.proofs.lemmas.List.Edits.{sets}
use Rattle.chunk_header.specs.Table.{header_length, type_of}
use Rattle.decoding.proofs.FurtherOn.{stored_piece}
use Rattle.held.specs.declared.numbers.HeldRow.{HeldRow}
use Rattle.one_stroke.specs.Quick.{format_at, header_at}
use Rattle.one_stroke.proofs.AtOnce.{once_some}
use Rattle.one_stroke.proofs.message.at_once.Goals as goal

pub returns : goal.returns
returns c =
    let a = c.args in
    let held = a.held.now in
    let rows = a.rows.now in
    let input = a.input.now in
    let payload = a.payload.now in
    let s = c.in_ok-start.field-0 in
    let w = c.in_ok-start.ensures in
    let b = c.is_midway.ensures c.if-is_midway.false in
    let bytes = c.put_bytes in
    let long = (header_at rows input).message_length in
    let same : s.header.length ≡ long = ap (λ (x : HeldRow). x.length) w.header_is in
    let buffer : bytes.new.output ≡ sets payload 0 (take long (drop (1 + header_length (type_of (format_at input))) input)) =
    bytes.ensures
    ∙ stored_piece payload input s.start long 0 s.header.length 0 same refl (omega (arith, w.fits.there, w.long)) (omega (arith, w.fits.in_room, b.room))
    ∙ ap (λ (k : ℕ). sets payload 0 (take long (drop k input))) w.start_is
    in
    let count : s.start + s.header.length ≡ 1 + header_length (type_of (format_at input)) + long = omega (arith, same, w.start_is) in
    once_some held rows input payload (λ i. omega (arith, c.type_inv.input i)) b s w c.numbers_of.result c.put_at.new.rows bytes.new.output (s.start + s.header.length) c.numbers_of.ensures c.put_at.ensures buffer count
