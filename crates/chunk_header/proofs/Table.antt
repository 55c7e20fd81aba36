-- There are four chunk types, a message header has 11 bytes at most, and the type is the top two bits.
use Rattle.std.proofs.Common.{◌≡◌, ℕ, zero, suc, ◌+◌, ◌*◌, ◌/◌, ◌<◌, ◌≤◌, [], ◌∷◌, get_or, refl, arith, lit<, lit≤}
use Rattle.chunk_header.specs.declared.ChunkHeaderFormat.{ChunkHeaderFormat}
use Rattle.chunk_header.specs.declared.ChunkHeaderFormat.TheVariants.{Full, TimeDeltaWithoutMessageStreamId, TimeDeltaOnly, Empty}
use Rattle.chunk_header.specs.Table.{type_of, format_of, field_length, header_length}

pub type_lt : (format : ChunkHeaderFormat) → type_of format < 4
type_lt Full = lit< tt
type_lt TimeDeltaWithoutMessageStreamId = lit< tt
type_lt TimeDeltaOnly = lit< tt
type_lt Empty = lit< tt

-- a message header has 11 bytes at most
pub header_most : (f : ChunkHeaderFormat) → header_length (type_of f) ≤ 11
unfolding header_length field_length
header_most Full = lit≤ tt
header_most TimeDeltaWithoutMessageStreamId = lit≤ tt
header_most TimeDeltaOnly = lit≤ tt
header_most Empty = lit≤ tt

pub type_of_byte : (byte : ℕ) → byte < 256 → type_of (format_of byte) ≡ byte / 64
unfolding format_of
type_of_byte byte h = go (byte / 64) (omega arith)
  where
    go : (type : ℕ) → type < 4 → type_of (get_or (Full ∷ TimeDeltaWithoutMessageStreamId ∷ TimeDeltaOnly ∷ []) type Empty) ≡ type
    go zero h = refl
    go (suc zero) h = refl
    go (suc (suc zero)) h = refl
    go (suc (suc (suc zero))) h = refl
    go (suc (suc (suc (suc n)))) h = absurd (omega arith)

-- whatever the low six
pub format_back : (f : ChunkHeaderFormat) (low : ℕ) → low < 64 → format_of (64 * type_of f + low) ≡ f
unfolding format_of
format_back f low h =
    let top : (64 * type_of f + low) / 64 ≡ type_of f = omega arith in
    rw top (go f)
  where
    go : (f : ChunkHeaderFormat) → get_or (Full ∷ TimeDeltaWithoutMessageStreamId ∷ TimeDeltaOnly ∷ []) (type_of f) Empty ≡ f
    go Full = refl
    go TimeDeltaWithoutMessageStreamId = refl
    go TimeDeltaOnly = refl
    go Empty = refl
