-- Writing a number and reading it back, and reading bytes and writing them back, both by digits in base 256.
use Rattle.std.proofs.Common.{◌≡◌, ℕ, zero, suc, ◌+◌, ◌-◌, ◌*◌, ◌/◌, ◌%◌, ◌^◌, ◌<◌, ◌≤◌, List, [], ◌∷◌, ◌++◌, length, get_or, take, drop, set, refl, ap, ◌∙◌, lt_of_lt_of_le, add_assoc, mod-eq_of_lt, mul_assoc, mul_comm, div-lt_iff_lt-mul, add-mul, one-mul, pow-suc, add-one, arith, lit<, length-set, drop-cons, take-suc, get_or-set_same, drop-set-lt}
use native.Mathlib.Nat.{pow-le-pow_right, div-div-eq-div-mul}
use lib.Arith.{mod-mul}
use Rattle.fields.specs.Endian.{big_endian, little_endian, gather, number, Bytes}

pub length_big : (n x : ℕ) → length (big_endian n x) ≡ n
unfolding big_endian
length_big zero x = refl
length_big (suc n) x = ap suc (length_big n x)

pub gather_append : (before : ℕ) (xs ys : List ℕ) → gather before (xs ++ ys) ≡ gather (gather before xs) ys
unfolding gather
gather_append before [] ys = refl
gather_append before (x ∷ xs) ys = gather_append (before * 256 + x) xs ys

base_pos : (n : ℕ) → 0 < 256 ^ n
base_pos zero = omega arith
base_pos (suc n) = let h = base_pos n in rw pow-suc (omega arith)

pub gather_big : (n x before : ℕ) → gather before (big_endian n x) ≡ before * 256 ^ n + x % 256 ^ n
unfolding big_endian gather
gather_big zero x before = omega arith
gather_big (suc n) x before =
    gather_big n x (before * 256 + x / 256 ^ n % 256)
    ∙ rw (pow-suc, mul_comm (256 ^ n) 256, mod-mul x {m = 256} {c = 256 ^ n} (lit< tt) (base_pos n), add-mul, mul_assoc, add_assoc)

-- what was gathered before the bytes, read off again
pub gather_div : (before : ℕ) (bs : List ℕ) → Bytes bs → gather before bs / 256 ^ length bs ≡ before
unfolding gather
gather_div before [] h = omega arith
gather_div before (b ∷ bs) h =
    let byte : b < 256 = h 0 in
    rw (pow-suc, ← div-div-eq-div-mul, gather_div (before * 256 + b) bs (λ i. h (suc i))) (omega arith)

-- n bytes mean a number below 256 ^ n
pub number_lt : (bs : List ℕ) → Bytes bs → number bs < 256 ^ length bs
number_lt bs h =
    let e = gather_div 0 bs h in
    let below : number bs / 256 ^ length bs < 1 = rw e (lit< tt) in
    rw one-mul at ((div-lt_iff_lt-mul (base_pos (length bs))).0 below)

-- and of at most four bytes one of 32 bits
pub number_fits : (bs : List ℕ) → Bytes bs → length bs ≤ 4 → number bs % 2 ^ 32 ≡ number bs
number_fits bs h k = mod-eq_of_lt (lt_of_lt_of_le (number_lt bs h) (pow-le-pow_right (lit< tt) k))

-- reading what was written gives the number
pub number_big : (n x : ℕ) → x < 256 ^ n → number (big_endian n x) ≡ x
number_big n x h = gather_big n x 0 ∙ rw (mod-eq_of_lt h) (omega arith)

-- writing what was read gives the bytes
pub big_gather : (before : ℕ) (bs : List ℕ) → Bytes bs → big_endian (length bs) (gather before bs) ≡ bs
unfolding big_endian gather
big_gather before [] h = refl
big_gather before (b ∷ bs) h =
    let rest : Bytes bs = λ i. h (suc i) in
    let byte : b < 256 = h 0 in
    let digit : (before * 256 + b) % 256 ≡ b = omega arith in
    rw (gather_div (before * 256 + b) bs rest, digit, big_gather (before * 256 + b) bs rest)

pub bytes_big : (n x : ℕ) → Bytes (big_endian n x)
unfolding big_endian
bytes_big zero x i = omega arith
bytes_big (suc n) x zero = omega arith
bytes_big (suc n) x (suc i) = bytes_big n x i

-- one byte more
pub number_more : (bs : List ℕ) (i : ℕ) → i < length bs → number (take (i + 1) bs) ≡ number (take i bs) * 256 + get_or bs i 0
unfolding gather
number_more bs i h = rw (add-one, take-suc bs i 0) (gather_append 0 (take i bs) (get_or bs i 0 ∷ []))

-- one byte less
pub digit_rest : (x n : ℕ) → x / 256 ^ n / 256 ≡ x / 256 ^ suc n
digit_rest x n = rw pow-suc (div-div-eq-div-mul x (256 ^ n) 256)

pub drop_set_before : (xs : List ℕ) (i v : ℕ) → 0 < i → i ≤ length xs → drop (i - 1) (set xs (i - 1) v) ≡ v ∷ drop i xs
drop_set_before xs i v p q =
    let h : i - 1 < length xs = omega arith in
    let k : i - 1 < length (set xs (i - 1) v) = rw length-set h in
    let e : suc (i - 1) ≡ i = omega arith in
    drop-cons (set xs (i - 1) v) (i - 1) 0 k
    ∙ rw (get_or-set_same xs (i - 1) v 0, e) (ap (λ (l : List ℕ). v ∷ l) (drop-set-lt i xs (i - 1) v (omega arith)))

pub length_little : (n x : ℕ) → length (little_endian n x) ≡ n
unfolding little_endian
length_little zero x = refl
length_little (suc n) x = ap suc (length_little n (x / 256))

pub bytes_little : (n x : ℕ) → Bytes (little_endian n x)
unfolding little_endian
bytes_little zero x i = omega arith
bytes_little (suc n) x zero = omega arith
bytes_little (suc n) x (suc i) = bytes_little n (x / 256) i

-- the other order, by the number of the same bytes
pub big_little : (n x : ℕ) → big_endian n (number (little_endian n x)) ≡ little_endian n x
big_little n x = rw (length_little n x) at (big_gather 0 (little_endian n x) (bytes_little n x))
