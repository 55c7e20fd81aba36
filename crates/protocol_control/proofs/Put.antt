-- The bodies of one number and of two, put at the start of an output that is long enough: each number stands straight after the one before.
use Rattle.std.proofs.Common.{◌≡◌, ℕ, ◌+◌, ◌≤◌, List, [], ◌++◌, length, refl, arith, length-append}
use Rattle.fields.specs.Endian.{big_endian}
use Rattle.fields.specs.Output.{over, stored}
use Rattle.fields.proofs.Endian.{length_big}
use Rattle.fields.proofs.Lists.{stored_next}

module _ (bytes out : List ℕ) (long : length bytes ≤ length out) where
  pub put_four : {out' : List ℕ} (n : ℕ) → bytes ≡ big_endian 4 n → out' ≡ stored out 0 (big_endian 4 n) → out' ≡ over bytes out
  put_four n e p =
      let fits : length (big_endian 4 n) ≤ length out = rw e at long in
      rw e (stored_next [] (big_endian 4 n) out 0 p refl refl (omega arith))

  pub put_five : {out₁ out₂ : List ℕ} (n l : ℕ) → bytes ≡ big_endian 4 n ++ big_endian 1 l → out₁ ≡ stored out 0 (big_endian 4 n)
      → out₂ ≡ stored out₁ 4 (big_endian 1 l) → out₂ ≡ over bytes out
  put_five n l e p q =
      let all : length (big_endian 4 n ++ big_endian 1 l) ≤ length out = rw e at long in
      let four = length_big 4 n in
      let one = length_big 1 l in
      let fits : length (big_endian 4 n) + length (big_endian 1 l) ≤ length out = rw (length-append (big_endian 4 n) (big_endian 1 l)) at all in
      let first = stored_next [] (big_endian 4 n) out 0 p refl refl (omega arith) in
      rw e (stored_next (big_endian 4 n) (big_endian 1 l) out 4 q first four (omega arith))
