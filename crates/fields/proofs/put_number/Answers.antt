-- Where the output reaches far enough, the part from at on is written whole, and the rest stays.
use Rattle.std.proofs.Common.{◌≡◌, ◌+◌, ◌<◌, length, take, drop, arith, length-drop, length-take}
use native.Mathlib.Nat.{add-sub_cancel_left}
use Rattle.fields.specs.Endian.{big_endian}
use Rattle.fields.proofs.Endian.{length_big}
use Rattle.fields.proofs.Lists.{part_stored, stored_none}
use Rattle.fields.proofs.put_number.Goals as goal
use Rattle.fields.proofs.put_number.Goals.{else-width-output-via-then-width-output+else-at-output, else-width-output-via-else-width-output}

pub returns-then-at-output : goal.returns-then-at-output
returns-then-at-output c =
    let a = c.args in
    let part : length (take a.width (drop a.at a.output.now)) ≡ a.width = simp (length-take, length-drop) (omega arith) in
    rw (c.write_number.ensures, add-sub_cancel_left a.at a.width, part)
    (part_stored a.output.now (big_endian a.width a.value) a.at a.width (length_big a.width a.value) (omega arith))

pub returns-else-width-output : goal.returns-else-width-output
returns-else-width-output c =
    let a = c.args in
    let short : length a.output.now < a.at + a.width = elim c.else-width-output.branch [
      | else-width-output-via-then-width-output+else-at-output w ↦ omega (arith, w.if-width-output.true, w.if-at-output.false)
      | else-width-output-via-else-width-output w ↦ omega (arith, w.if-width-output.false)
    ] in
    stored_none a.output.now (big_endian a.width a.value) a.at a.width (length_big a.width a.value) short
