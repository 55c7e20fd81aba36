-- Four bytes in the other order: each is a digit of their number, so the digits turn round with them.
use Rattle.std.proofs.Common.{◌≡◌, ℕ, ◌+◌, ◌*◌, ◌/◌, ◌%◌, ◌^◌, ◌<◌, ◌≤◌, List, [], ◌∷◌, length, take, ap, ◌∙◌, arith}
use Rattle.fields.specs.Endian.{Bytes, gather, little_endian, number, swapped}
use Rattle.fields.proofs.Endian.{bytes_little, length_little, number_lt}

-- the last digit of a number, and those before it
pub last_digit : (z e : ℕ) → e < 256 → (z * 256 + e) % 256 ≡ e
last_digit z e h = omega arith

pub other_digits : (z e : ℕ) → e < 256 → (z * 256 + e) / 256 ≡ z
other_digits z e h = omega arith

-- four bytes, as the little-endian bytes of their number in the other order ..
little_four : (a b c e : ℕ) → a < 256 → b < 256 → c < 256 → e < 256 → little_endian 4 (gather 0 (e ∷ c ∷ b ∷ a ∷ [])) ≡ a ∷ b ∷ c ∷ e ∷ []
unfolding little_endian gather
little_four a b c e ha hb hc he =
    rw (
      last_digit (((0 * 256 + e) * 256 + c) * 256 + b) a ha,
      other_digits (((0 * 256 + e) * 256 + c) * 256 + b) a ha,
      last_digit ((0 * 256 + e) * 256 + c) b hb,
      other_digits ((0 * 256 + e) * 256 + c) b hb,
      last_digit (0 * 256 + e) c hc,
      other_digits (0 * 256 + e) c hc,
      last_digit 0 e he,
    )

-- .. which is what swapping gives
turned : (a b c e : ℕ) → a < 256 → b < 256 → c < 256 → e < 256 → swapped (gather 0 (a ∷ b ∷ c ∷ e ∷ [])) ≡ gather 0 (e ∷ c ∷ b ∷ a ∷ [])
turned a b c e ha hb hc he = ap number (little_four e c b a he hc hb ha)

pub little_take : (bs : List ℕ) → Bytes bs → 4 ≤ length bs → little_endian 4 (swapped (number (take 4 bs))) ≡ take 4 bs
little_take [] h k = absurd (omega arith)
little_take (a ∷ []) h k = absurd (omega arith)
little_take (a ∷ b ∷ []) h k = absurd (omega arith)
little_take (a ∷ b ∷ c ∷ []) h k = absurd (omega arith)
little_take (a ∷ b ∷ c ∷ e ∷ bs) h k = (rw (turned a b c e (h 0) (h 1) (h 2) (h 3))) ∙ little_four a b c e (h 0) (h 1) (h 2) (h 3)

pub swapped_small : (n : ℕ) → swapped n < 2 ^ 32
swapped_small n = rw (length_little 4 n) at (number_lt (little_endian 4 n) (bytes_little 4 n))

-- a number of four bytes, in the other order and back
digits : (v : ℕ) → v < 2 ^ 32 → gather 0 (v / 256 / 256 / 256 % 256 ∷ v / 256 / 256 % 256 ∷ v / 256 % 256 ∷ v % 256 ∷ []) ≡ v
unfolding gather
digits v h =
    let p : v / 256 * 256 + v % 256 ≡ v = omega arith in
    let q : v / 256 / 256 * 256 + v / 256 % 256 ≡ v / 256 = omega arith in
    let s : v / 256 / 256 / 256 * 256 + v / 256 / 256 % 256 ≡ v / 256 / 256 = omega arith in
    let t : 0 * 256 + v / 256 / 256 / 256 % 256 ≡ v / 256 / 256 / 256 = omega arith in
    rw (t, s, q, p)

pub swapped_back : (v : ℕ) → v < 2 ^ 32 → swapped (number (little_endian 4 v)) ≡ v
unfolding little_endian
swapped_back v h =
    turned (v % 256) (v / 256 % 256) (v / 256 / 256 % 256) (v / 256 / 256 / 256 % 256) (omega arith) (omega arith) (omega arith) (omega arith)
    ∙ digits v h
