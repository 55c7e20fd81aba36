-- The row is counted, and six stores in a row are the row put at its place.
use Rattle.std.proofs.Common.{◌≡◌, suc, ◌+◌, ◌*◌, arith}
use Rattle.byte_machine.specs.Rows.{put_row}
use Rattle.held.proofs.table.put_row.Goals as goal

pub returns : goal.returns
unfolding put_row
returns c =
    let at = 6 * c.args.i in
    let one : at + 1 ≡ suc at = omega arith in
    let two : at + 2 ≡ suc (suc at) = omega arith in
    let three : at + 3 ≡ suc (suc (suc at)) = omega arith in
    let four : at + 4 ≡ suc (suc (suc (suc at))) = omega arith in
    let five : at + 5 ≡ suc (suc (suc (suc (suc at)))) = omega arith in
    rw (c.count.ensures, one, two, three, four, five)
