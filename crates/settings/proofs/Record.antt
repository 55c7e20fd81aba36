-- How long the parts of a record are: a kind has a byte at most, and each number as many bytes as its width says.
use Rattle.std.proofs.Common.{◌≡◌, ℕ, zero, suc, ◌+◌, ◌<◌, ◌≤◌, List, length, take, lt_of_lt_of_le, arith, lit<, length-append, length-take}
use native.Mathlib.Nat.{pow-le-pow_right}
use Rattle.fields.specs.Endian.{Bytes, big_endian}
use Rattle.fields.proofs.Endian.{length_big, number_lt}
use Rattle.fields.proofs.Lists.{bytes_take}
use Rattle.settings.specs.Reading.{length_in}
use Rattle.settings.specs.Record.{body_length, kind_width, record_of}
use Rattle.settings.specs.declared.Settings.{Settings}

pub kind_most : (version : ℕ) → kind_width version ≤ 1
kind_most zero = omega arith
kind_most (suc zero) = omega arith
kind_most (suc (suc zero)) = omega arith
kind_most (suc (suc (suc v))) = omega arith

pub length_small : (bytes : List ℕ) → Bytes bytes → length_in bytes < 65536
length_small bytes B =
    let two : length (take 2 bytes) ≤ 2 = simp length-take (omega arith) in
    lt_of_lt_of_le (number_lt (take 2 bytes) (bytes_take 2 bytes B)) (pow-le-pow_right (lit< tt) two)

pub length_record : (version : ℕ) (s : Settings) → length (record_of version s) ≡ body_length version + 2
unfolding record_of big_endian
length_record v s = simp (length-append, length_big) (omega arith)
