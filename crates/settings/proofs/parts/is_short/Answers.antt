-- The length is of two bytes.
use Rattle.std.proofs.Common.{arith}
use Rattle.fields.specs.Endian.{Bytes}
use Rattle.settings.proofs.Record.{length_small}
use Rattle.settings.proofs.parts.is_short.Goals as goal

pub overflow_add-result : goal.overflow_add-result
overflow_add-result c =
    let bytes = c.args.bytes.now in
    let B : Bytes bytes = λ i. omega (arith, c.type_inv.bytes i) in
    omega (arith, length_small bytes B, c.length_in-length.ensures)
