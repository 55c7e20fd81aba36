-- What it tells that nothing is refused, and how large a refusal is: each line of the table has its own number and its own test.
use Rattle.std.proofs.Common.{◌≡◌, ℕ, ◌≤◌, Bool, true, false, not, ◌&&◌, eqb, ltb, [], ◌∷◌, sym, refl, arith, ltb-false, eqb-true}
use Rattle.fields.specs.Cases.{◌when◌, first}
use Rattle.fields.proofs.Tests.{never}
use Rattle.chunk_header.specs.declared.ChunkHeaderFormat.{ChunkHeaderFormat}
use Rattle.chunk_header.specs.declared.ChunkHeaderFormat.TheVariants.{Full, TimeDeltaWithoutMessageStreamId, TimeDeltaOnly, Empty}
use Rattle.chunk_header.specs.Limits.{max_field}
use Rattle.chunk_header.specs.Table.{is_empty, is_full}
use Rattle.chunk_meaning.specs.Stored.{Row}
use Rattle.chunk_meaning.specs.Meaning.{basic_refusal, first_refusal, later_refusal, repeats}

-- the numbers that close a decoder by its bytes are 14 at most
pub first_small : (format : ChunkHeaderFormat) (header : Row) (number room : ℕ) → first_refusal format header number room ≤ 14
unfolding first_refusal
first_small format header number room =
    by_cases (not (is_full format) && (eqb header.timestamp_field max_field && ltb number max_field)) (ltb room header.message_length)
  where
    by_cases : (t u : Bool) → first (13 when t ∷ 14 when u ∷ []) 0 ≤ 14
    by_cases true u = omega arith
    by_cases false true = omega arith
    by_cases false false = omega arith

pub later_small : (format : ChunkHeaderFormat) (message header : Row) (number : ℕ) → later_refusal format message header number ≤ 14
unfolding later_refusal
later_small format message header number = by_cases (is_full format && not (repeats message header number))
  where
    by_cases : (t : Bool) → first (12 when t ∷ []) 0 ≤ 14
    by_cases true = omega arith
    by_cases false = omega arith

pub basic_small : (format : ChunkHeaderFormat) (has_row unused inside own : Bool) → basic_refusal format has_row unused inside own ≤ 14
unfolding basic_refusal
basic_small format has_row unused inside own =
    by_cases (not inside && (not (is_full format) && not has_row)) (is_full format && (not has_row && not unused)) (inside && not own)
    (inside && (not (is_full format) && not (is_empty format)))
  where
    by_cases : (t u v w : Bool) → first (9 when t ∷ 10 when u ∷ 11 when v ∷ 12 when w ∷ []) 0 ≤ 14
    by_cases true u v w = omega arith
    by_cases false true v w = omega arith
    by_cases false false true w = omega arith
    by_cases false false false true = omega arith
    by_cases false false false false = omega arith

-- inside a message a basic header that is not refused is of its own stream, and full or empty
pub inside_tells : (format : ChunkHeaderFormat) (has_row unused own : Bool) → basic_refusal format has_row unused true own ≡ 0
    → (own ≡ true) × (is_full format ≡ false → is_empty format ≡ true)
unfolding basic_refusal
inside_tells format has_row unused own h = by_cases (is_full format) (is_empty format) (not has_row && not unused) own h
  where
    by_cases : (full empty lacking own : Bool)
        → ◌≡◌ {A = ℕ} (first (10 when (full && lacking) ∷ 11 when not own ∷ 12 when (not full && not empty) ∷ []) 0) 0
        → (own ≡ true) × (full ≡ false → empty ≡ true)
    by_cases true empty true own h = absurd (omega arith)
    by_cases true empty false true h = (refl, λ z. never (sym z))
    by_cases true empty false false h = absurd (omega arith)
    by_cases false true lacking true h = (refl, λ z. refl)
    by_cases false false lacking true h = absurd (omega arith)
    by_cases false empty lacking false h = absurd (omega arith)

-- a chunk on a stream with no row is not refused only where a row is free, unless the message that has begun is its own
pub claims_free : (format : ChunkHeaderFormat) (unused inside own : Bool) → (inside ≡ true → own ≡ true → ⊥)
    → basic_refusal format false unused inside own ≡ 0
    → unused ≡ true
unfolding basic_refusal
claims_free format unused inside own n h = by_cases (is_full format) (is_empty format) unused inside own n h
  where
    by_cases : (full empty unused inside own : Bool) → (inside ≡ true → own ≡ true → ⊥)
        → ◌≡◌ {A = ℕ} (first (9 when (not inside && (not full && true)) ∷ 10 when (full && (true && not unused)) ∷ 11 when (inside && not own)
        ∷ 12 when (inside && (not full && not empty)) ∷ []) 0) 0
        → unused ≡ true
    by_cases full empty true inside own n h = refl
    by_cases true empty false true own n h = absurd (omega arith)
    by_cases true empty false false own n h = absurd (omega arith)
    by_cases false empty false false own n h = absurd (omega arith)
    by_cases false empty false true false n h = absurd (omega arith)
    by_cases false empty false true true n h = absurd (n refl refl)

-- where nothing is refused, a type 0 without a row of its own finds a free one
pub has_free : (inside own : Bool) (t : Bool) → basic_refusal Full false t inside own ≡ 0 → t ≡ true
unfolding basic_refusal
has_free inside own true h = refl
has_free true own false h = absurd (let z : 10 ≡ 0 = h in omega arith)
has_free false own false h = absurd (let z : 10 ≡ 0 = h in omega arith)

-- a first chunk that is not refused fits
pub first_fits : (format : ChunkHeaderFormat) (header : Row) (number room : ℕ) → first_refusal format header number room ≡ 0 → header.message_length ≤ room
unfolding first_refusal
first_fits format header number room h =
    by_cases (not (is_full format) && (eqb header.timestamp_field max_field && ltb number max_field)) (ltb room header.message_length) refl h
  where
    by_cases : (t u : Bool) → ltb room header.message_length ≡ u → ◌≡◌ {A = ℕ} (first (13 when t ∷ 14 when u ∷ []) 0) 0
        → header.message_length ≤ room
    by_cases true u e h = absurd (omega arith)
    by_cases false true e h = absurd (omega arith)
    by_cases false false e h = ltb-false _ _ e

-- a full header inside a message that is not refused says the message's length
pub later_length : (format : ChunkHeaderFormat) (message header : Row) (number : ℕ) → later_refusal format message header number ≡ 0 → is_full format ≡ true
    → header.message_length ≡ message.message_length
unfolding later_refusal
later_length format message header number h f =
    by_cases (is_full format) (eqb header.message_length message.message_length) _ f refl h
  where
    by_cases : (t u v : Bool) → t ≡ true → eqb header.message_length message.message_length ≡ u
        → ◌≡◌ {A = ℕ} (first (12 when (t && not (u && v)) ∷ []) 0) 0
        → header.message_length ≡ message.message_length
    by_cases true true v f e h = eqb-true _ _ e
    by_cases true false v f e h = absurd (omega arith)
    by_cases false u v f e h = never f

-- with a row, a free one does not matter
pub with_row : (f : ChunkHeaderFormat) (unused inside own : Bool) → basic_refusal f true true inside own ≡ basic_refusal f true unused inside own
unfolding basic_refusal
with_row Full unused inside own = refl
with_row TimeDeltaWithoutMessageStreamId unused inside own = refl
with_row TimeDeltaOnly unused inside own = refl
with_row Empty unused inside own = refl
