-- Each number stands straight after the one before it, and has four bytes at most, so nothing of it is lost.
use Rattle.std.proofs.Common.{arith, drop-drop}
use Rattle.fields.specs.Endian.{Bytes}
use Rattle.fields.proofs.Lists.{part_fits}
use Rattle.settings.specs.Reading.{settings_in}
use Rattle.settings.specs.Record.{kind_width, version_of}
use Rattle.settings.proofs.Record.{kind_most}
use Rattle.settings.proofs.parts.settings_in.Goals as goal

pub returns : goal.returns
unfolding settings_in
returns c =
    let bytes = c.args.bytes.now in
    let v = version_of c.args.version in
    let B : Bytes bytes = λ i. omega (arith, c.type_inv.bytes i) in
    let most = kind_most v in
    rw (
      c.number_at.ensures,
      c.number_at-2.ensures,
      c.number_at-3.ensures,
      c.kind_width.ensures,
      part_fits bytes B 3 4 (omega arith),
      part_fits bytes B 7 4 (omega arith),
      part_fits bytes B 11 (kind_width v) (omega arith),
      drop-drop 4 3 bytes,
      drop-drop 4 7 bytes,
    )
