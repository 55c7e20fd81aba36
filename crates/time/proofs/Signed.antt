-- A difference of two naturals in whole numbers, by which of them is larger.
use Rattle.std.proofs.Common.{◌≡◌, ℕ, zero, suc, ◌-◌, ◌<◌, ◌≤◌, pos, negsuc, ◌-ℤ◌, refl, ap, arith, le-ltb, lt-ltb}
use lib.IntN.{sub_ℕ}

-- from the smaller to the larger, and back
pub sub_on : (m n : ℕ) → n ≤ m → sub_ℕ m n ≡ pos (m - n)
sub_on m n h = rw (le-ltb m n h)

pub sub_back : (m n : ℕ) → m < n → sub_ℕ m n ≡ negsuc (n - suc m)
sub_back m n h = rw (lt-ltb m n h)

pub minus_sub : (m n : ℕ) → pos m -ℤ pos n ≡ sub_ℕ m n
minus_sub m zero = rw (sub_on m 0 (omega arith)) (ap pos (omega arith))
minus_sub m (suc n) = refl
