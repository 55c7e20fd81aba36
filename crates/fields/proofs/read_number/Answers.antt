use Rattle.std.proofs.Common.{refl, arith}
use Rattle.fields.specs.Endian.{gather}
use Rattle.fields.proofs.Endian.{number_more}
use Rattle.fields.proofs.read_number.Goals as goal

pub loop-byte-init : goal.loop-byte-init
unfolding gather
loop-byte-init c = refl

pub loop-byte-preserved : goal.loop-byte-preserved
loop-byte-preserved c =
    let bytes = c.args.bytes.now in
    let i = c.loop-byte.byte-index in
    omega (arith, c.from.ensures, number_more bytes i (omega arith), c.loop-byte.invariant)
