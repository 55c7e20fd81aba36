-- Where the output reaches far enough, the part from at on is written whole, and the rest stays.
use Rattle.std.proofs.Common.{◌+◌, ◌<◌, length, refl, arith}
use native.Mathlib.Nat.{add-sub_cancel_left}
use Rattle.fields.proofs.Lists.{part_stored, stored_none}
use Rattle.fields.proofs.put_bytes.Goals as goal
use Rattle.fields.proofs.put_bytes.Goals.{else-bytes-output-via-then-bytes-output+else-at-output, else-bytes-output-via-else-bytes-output}

pub returns-then-at-output : goal.returns-then-at-output
returns-then-at-output c =
    let a = c.args in
    let n = length a.bytes.now in
    rw (c.copy.ensures, add-sub_cancel_left a.at n) (part_stored a.output.now a.bytes.now a.at n refl (omega arith))

pub returns-else-bytes-output : goal.returns-else-bytes-output
returns-else-bytes-output c =
    let a = c.args in
    let short : length a.output.now < a.at + length a.bytes.now = elim c.else-bytes-output.branch [
      | else-bytes-output-via-then-bytes-output+else-at-output w ↦ omega (arith, w.if-bytes-output.true, w.if-at-output.false)
      | else-bytes-output-via-else-bytes-output w ↦ omega (arith, w.if-bytes-output.false)
    ] in
    stored_none a.output.now a.bytes.now a.at (length a.bytes.now) refl short
