-- Two bytes mean a number of 32 bits, so nothing of it is lost.
use Rattle.std.proofs.Common.{◌∙◌, arith}
use Rattle.fields.specs.Endian.{Bytes}
use Rattle.fields.proofs.Lists.{part_fits}
use Rattle.settings.proofs.parts.length_in.Goals as goal

pub returns : goal.returns
returns c =
    let bytes = c.args.bytes.now in
    let B : Bytes bytes = λ i. omega (arith, c.type_inv.bytes i) in
    c.number_at.ensures ∙ part_fits bytes B 0 2 (omega arith)
