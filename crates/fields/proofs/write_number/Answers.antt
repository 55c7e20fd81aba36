use Rattle.std.proofs.Common.{◌≡◌, suc, ◌-◌, ◌%◌, ◌≤◌, length, arith}
use lib.Seq.{drop-length}
use Rattle.fields.specs.Endian.{big_endian}
use Rattle.fields.proofs.Endian.{digit_rest, drop_set_before}
use Rattle.fields.proofs.write_number.Goals as goal

pub loop-i-init : goal.loop-i-init
unfolding big_endian
loop-i-init c =
    let out = c.args.output.now in
    let e : length out - length out ≡ 0 = omega arith in
    (rw e (omega arith), rw (e, drop-length))

pub loop-i-preserved : goal.loop-i-preserved
unfolding big_endian
loop-i-preserved c =
    let a = c.args in
    let len = length a.output.now in
    let i = c.loop-i.i in
    let within : i ≤ length c.loop-i.output = omega arith in
    let e : len - (i - 1) ≡ suc (len - i) = omega arith in
    (rw (e, c.loop-i.invariant.0) (digit_rest a.value (len - i)), rw (e, drop_set_before c.loop-i.output i (c.loop-i.rest % 256) (omega arith) within, c.loop-i.invariant.0, c.loop-i.invariant.1))
