-- Two fields, one straight after the other.
use Rattle.std.proofs.Common.{ap, arith}
use Rattle.fields.specs.Endian.{big_endian}
use Rattle.fields.proofs.Endian.{length_big}
use Rattle.serializer.proofs.Added.{added_same, added_then}
use Rattle.serializer.proofs.cursor.Cursor.message_length_and_type_id.Goals as goal

pub returns : goal.returns
returns c =
    let s = c.number.ensures in
    let h = c.args.header in
    let type = added_same (ap (big_endian 1) c.from.ensures) c.number-2.ensures in
    added_then (big_endian 3 h.message_length) (big_endian 1 h.message_type_id) s type
    (omega (arith, s.adds.place, length_big 3 h.message_length, length_big 1 h.message_type_id, c.requires))
