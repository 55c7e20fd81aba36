-- Formats by their numbers: which fields a chunk has. Each law is true by cases of the number, at 0, 1, 2 and over: that is all that `format_from` and `format_of` ask of it.
use Rattle.std.proofs.Common.{◌≡◌, ◌≢◌, refl, ℕ, zero, suc, ◌/◌, ◌≤◌, ◌<◌, Bool, true, false, cond, [], ◌∷◌, eqb, ne_eqb, get_or, arith}
use Rattle.chunk_header.specs.declared.ChunkHeaderFormat.{ChunkHeaderFormat}
use Rattle.chunk_header.specs.declared.ChunkHeaderFormat.TheVariants.{Full, TimeDeltaWithoutMessageStreamId, TimeDeltaOnly, Empty}
use Rattle.chunk_header.specs.Table.{is_empty, is_full, type_of, format_of}
use Rattle.held.specs.Numbers.{format_from}

-- type 0, and the others
pub full_from : (n : ℕ) → n ≡ 0 → is_full (format_from n) ≡ true
unfolding format_from
full_from n e = rw e

pub delta_from : (n : ℕ) → n ≢ 0 → is_full (format_from n) ≡ false
unfolding format_from
delta_from n h = rw (ne_eqb n 0 h) (by_cases (eqb n 1) (eqb n 2))
  where
    by_cases : (a b : Bool) → is_full (cond a TimeDeltaWithoutMessageStreamId (cond b TimeDeltaOnly Empty)) ≡ false
    by_cases true b = refl
    by_cases false true = refl
    by_cases false false = refl

-- a type stands for itself, and a number over 3 for 3
pub type_again : (n : ℕ) → n ≤ 3 → type_of (format_from n) ≡ n
unfolding format_from
type_again zero h = refl
type_again (suc zero) h = refl
type_again (suc (suc zero)) h = refl
type_again (suc (suc (suc zero))) h = refl
type_again (suc (suc (suc (suc n)))) h = absurd (omega (arith, h))

pub type_over : (n : ℕ) → 3 ≤ n → type_of (format_from n) ≡ 3
unfolding format_from
type_over n h = rw (ne_eqb n 0 (omega arith), ne_eqb n 1 (omega arith), ne_eqb n 2 (omega arith))

of_four : (f : ChunkHeaderFormat) → type_of f ≤ 3
of_four Full = omega arith
of_four TimeDeltaWithoutMessageStreamId = omega arith
of_four TimeDeltaOnly = omega arith
of_four Empty = omega arith

pub type_small : (n : ℕ) → type_of (format_from n) ≤ 3
type_small n = of_four (format_from n)

pub small_type : (byte : ℕ) → type_of (format_of byte) ≤ 3
small_type byte = of_four (format_of byte)

pub not_empty : (n : ℕ) → n < 3 → is_empty (format_from n) ≡ false
unfolding format_from
not_empty zero h = refl
not_empty (suc zero) h = refl
not_empty (suc (suc zero)) h = refl
not_empty (suc (suc (suc n))) h = absurd (omega (arith, h))

pub empty_over : (n : ℕ) → 3 ≤ n → is_empty (format_from n) ≡ true
unfolding format_from
empty_over n h = rw (ne_eqb n 0 (omega arith), ne_eqb n 1 (omega arith), ne_eqb n 2 (omega arith))

-- a first byte of 192 or more
pub high_format : (n : ℕ) → 192 ≤ n → type_of (format_of n) ≡ 3
unfolding format_of
high_format n h = by_top (n / 64) (omega (arith, h))
  where
    by_top : (top : ℕ) → 3 ≤ top → type_of (get_or (Full ∷ TimeDeltaWithoutMessageStreamId ∷ TimeDeltaOnly ∷ []) top Empty) ≡ 3
    by_top zero t = absurd (omega (arith, t))
    by_top (suc zero) t = absurd (omega (arith, t))
    by_top (suc (suc zero)) t = absurd (omega (arith, t))
    by_top (suc (suc (suc top))) t = refl
