-- The invariant: from i on the output holds the last bytes of the value, and rest is what is left of it above them.
use Rattle.std.proofs.Common.{◌≡◌, ◌-◌, ◌/◌, ◌^◌, length, drop}
use Rattle.fields.specs.Endian.{big_endian}
use Rattle.fields.proofs.write_number.Given as goal

abbrev pub invariant-loop-i : goal.invariant-loop-i
invariant-loop-i l =
    let n = length l.initial.output in
    (l.rest ≡ l.value / 256 ^ (n - l.i)) × (drop l.i l.output ≡ big_endian (n - l.i) l.value)
