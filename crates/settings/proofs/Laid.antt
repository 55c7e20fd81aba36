-- Numbers of given widths, written and read again, and bytes read and written again: both go number by number.
use Rattle.std.proofs.Common.{◌≡◌, ℕ, ◌^◌, ◌≤◌, true, ltb, List, [], ◌∷◌, ◌++◌, length, take, drop, refl, append_assoc, lt_of_lt_of_le, arith, lit<, length-drop, length-take, take_at, take-add, drop_at, ltb-true, lt-ltb}
use mathlib.Core.Bool.{and-eq-true_iff}
use native.Mathlib.Nat.{pow-le-pow_right}
use Rattle.fields.specs.Endian.{Bytes, big_endian, number}
use Rattle.fields.proofs.Endian.{length_big, number_big, number_lt}
use Rattle.fields.proofs.Lists.{big_take, bytes_drop, bytes_take}
use Rattle.settings.specs.Limits.{fit}
use Rattle.settings.specs.Reading.{numbers_in}
use Rattle.settings.specs.Record.{laid, total}

-- what was written, read again
pub numbers_laid : (ws ns rest : List ℕ) → length ns ≡ length ws → fit ws ns ≡ true → numbers_in ws (laid ws ns ++ rest) ≡ ns
numbers_laid [] [] rest e h = refl
numbers_laid [] (n ∷ ns) rest e h = absurd (omega arith)
numbers_laid (w ∷ ws) [] rest e h = absurd (omega arith)
numbers_laid (w ∷ ws) (n ∷ ns) rest e h =
    let both = (and-eq-true_iff (ltb n (256 ^ w)) (fit ws ns)).0 h in
    let after = laid ws ns ++ rest in
    rw (append_assoc, take_at (big_endian w n) after w (length_big w n), drop_at (big_endian w n) after w (length_big w n))
    (rw (number_big w n (ltb-true n (256 ^ w) both.0), numbers_laid ws ns rest (omega arith) both.1))

-- what was read, written again
pub laid_numbers : (ws bs : List ℕ) → Bytes bs → total ws ≤ length bs → laid ws (numbers_in ws bs) ≡ take (total ws) bs
laid_numbers [] bs h k = refl
laid_numbers (w ∷ ws) bs h k =
    let more : total ws ≤ length (drop w bs) = rw length-drop (omega arith) in
    rw (take-add w (total ws) bs, big_take w bs h (omega arith), laid_numbers ws (drop w bs) (bytes_drop w bs h) more)

-- what was read fits
pub fit_numbers : (ws bs : List ℕ) → Bytes bs → fit ws (numbers_in ws bs) ≡ true
fit_numbers [] bs h = refl
fit_numbers (w ∷ ws) bs h =
    let few : length (take w bs) ≤ w = simp length-take (omega arith) in
    let small = lt_of_lt_of_le (number_lt (take w bs) (bytes_take w bs h)) (pow-le-pow_right (lit< tt) few) in
    rw (lt-ltb (number (take w bs)) (256 ^ w) small, fit_numbers ws (drop w bs) (bytes_drop w bs h))
