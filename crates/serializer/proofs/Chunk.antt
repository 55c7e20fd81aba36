-- A chunk is what comes before its payload, then its payload; and how long that is goes by its type and its time.
use Rattle.std.proofs.Common.{ℕ, ◌+◌, ◌*◌, ◌≤◌, ◌<◌, ◌≡◌, refl, sym, ap, Bool, true, false, cond, List, [], ◌∷◌, ◌++◌, append_assoc, append-nil, arith, ltb, lit≤, length, length-append}
use Rattle.chunk_header.specs.declared.ChunkHeader.{ChunkHeader}
use Rattle.chunk_header.specs.declared.ChunkHeaderFormat.{ChunkHeaderFormat}
use Rattle.chunk_header.specs.declared.ChunkHeaderFormat.TheVariants.{Full, TimeDeltaWithoutMessageStreamId, TimeDeltaOnly, Empty}
use Rattle.chunk_header.specs.Layout.{absent, present, format, chunk_bytes, header_bytes, extended_bytes}
use Rattle.chunk_header.proofs.Table.{header_most}
use Rattle.chunk_header.specs.Table.{type_of, field_length, header_length}
use Rattle.fields.specs.Endian.{big_endian, little_endian}
use Rattle.serializer.specs.Packet.{chunk, message_header, extended}
use Rattle.chunk_header.specs.Limits.{max_field}

pub chunk_split : (f : ChunkHeaderFormat) (h : ChunkHeader) (payload : List ℕ) → chunk_bytes (chunk f h payload) ≡ chunk_bytes (chunk f h []) ++ payload
unfolding chunk_bytes
chunk_split f h payload = simp append_assoc

pub length_header : (f : ChunkHeaderFormat) (h : ChunkHeader) → length (header_bytes (message_header f h)) ≡ header_length (type_of f)
unfolding big_endian little_endian field_length header_length
length_header Full h = refl
length_header TimeDeltaWithoutMessageStreamId h = refl
length_header TimeDeltaOnly h = refl
length_header Empty h = refl

-- a first byte
pub basic_field : (fmt id : ℕ) → fmt < 4 → id < 64 → big_endian 1 (64 * fmt + id) ≡ (64 * fmt + id) ∷ []
unfolding big_endian
basic_field fmt id p q = ap (λ (n : ℕ). n ∷ []) (omega arith)

format_type : (f : ChunkHeaderFormat) (h : ChunkHeader) → format (message_header f h) ≡ type_of f
format_type Full h = refl
format_type TimeDeltaWithoutMessageStreamId h = refl
format_type TimeDeltaOnly h = refl
format_type Empty h = refl

pub head_bytes : (f : ChunkHeaderFormat) (h : ChunkHeader)
    → ((64 * type_of f + h.chunk_stream_id) ∷ []) ++ header_bytes (message_header f h) ++ extended_bytes (extended h.timestamp_field) ≡ chunk_bytes (chunk f h [])
unfolding chunk_bytes
head_bytes f h =
    rw (format_type f h) (sym (append-nil (((64 * type_of f + h.chunk_stream_id) ∷ []) ++ header_bytes (message_header f h) ++ extended_bytes (extended h.timestamp_field))))

pub length_head : (f : ChunkHeaderFormat) (h : ChunkHeader)
    → length (chunk_bytes (chunk f h [])) ≡ 1 + header_length (type_of f) + length (extended_bytes (extended h.timestamp_field))
unfolding chunk_bytes
length_head f h = simp (length-append, length_header f h) (omega arith)

pub extended_most : (time : ℕ) → length (extended_bytes (extended time)) ≤ 4
unfolding big_endian
extended_most time = go (ltb time max_field)
  where
    go : (b : Bool) → length (extended_bytes (cond b absent (present time))) ≤ 4
    go true = lit≤ tt
    go false = lit≤ tt

-- 1, 11 and 4 bytes
pub head_most : (f : ChunkHeaderFormat) (h : ChunkHeader) → length (chunk_bytes (chunk f h [])) ≤ 16
head_most f h = rw (length_head f h) (omega (arith, header_most f, extended_most h.timestamp_field))
