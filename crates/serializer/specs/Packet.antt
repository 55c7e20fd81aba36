-- The chunks that a message becomes, and their bytes (Adobe 5.3.1, 5.3.2).
use Rattle.std.specs.Prelude.{ℕ, zero, suc, ◌+◌, ◌-◌, ◌/◌, min, Bool, cond, List, [], ◌∷◌, ◌++◌, map, ltb, length, take, drop}
use Rattle.chunk_header.specs.declared.ChunkHeader.{ChunkHeader}
use Rattle.chunk_header.specs.declared.ChunkHeaderFormat.{ChunkHeaderFormat}
use Rattle.chunk_header.specs.declared.ChunkHeaderFormat.TheVariants.{Full, TimeDeltaWithoutMessageStreamId, TimeDeltaOnly, Empty}
use Rattle.chunk_header.specs.Layout.{Chunk, Header, Extended, one, type0, type1, type2, type3, absent, present, chunk_bytes}
use Rattle.chunk_header.specs.Limits.{max_field}
use Rattle.serializer.specs.Header.{format, header}
use Rattle.serializer.specs.declared.format.Message.{Message}

-- "a time field of 16777215 means that a 4-byte extended time follows the header"
abbrev pub extended : (time : ℕ) → Extended
extended time = cond (ltb time max_field) absent (present time)

-- the 24-bit field: a time of 16777215 or more is sent as 16777215 (5.3.1.2)
abbrev pub initial_time : (time : ℕ) → ℕ
initial_time time = min time max_field

abbrev pub message_header : ChunkHeaderFormat → ChunkHeader → Header
message_header Full h = type0 (initial_time h.timestamp_field) h.message_length h.message_type_id h.message_stream_id
message_header TimeDeltaWithoutMessageStreamId h = type1 (initial_time h.timestamp_field) h.message_length h.message_type_id
message_header TimeDeltaOnly h = type2 (initial_time h.timestamp_field)
message_header Empty h = type3

abbrev pub chunk : ChunkHeaderFormat → ChunkHeader → (payload : List ℕ) → Chunk
chunk format h payload = record {
  form = one;
  id = h.chunk_stream_id;
  header = message_header format h;
  extended = extended h.timestamp_field;
  payload = payload;
}

-- "later chunks are type 3 with the remembered field; when forced, they are all type 0"
abbrev pub later_format : (forced : Bool) → ChunkHeaderFormat
later_format forced = cond forced Full Empty

-- n divided by size, rounded up
abbrev pub rounded_up : (n size : ℕ) → ℕ
rounded_up n size = (n + (size - 1)) / size

-- the payload cut into as many pieces of the chunk size, the last one of what is left
abbrev pub cut : (n size : ℕ) → (payload : List ℕ) → List (List ℕ)
cut zero size payload = []
cut (suc n) size payload = take size payload ∷ cut n size (drop size payload)

unfoldable pub pieces : (size : ℕ) → (payload : List ℕ) → List (List ℕ)
pieces size payload = cut (rounded_up (length payload) size) size payload

abbrev pub chunks_of : (first later : ChunkHeaderFormat) → ChunkHeader → (pieces : List (List ℕ)) → List Chunk
chunks_of first later h [] = []
chunks_of first later h (piece ∷ rest) = chunk first h piece ∷ map (chunk later h) rest

abbrev pub joined : List Chunk → List ℕ
joined [] = []
joined (c ∷ cs) = chunk_bytes c ++ joined cs

-- the bytes of a payload in chunks of a size, the first in a format of its own
abbrev pub chunked : (first later : ChunkHeaderFormat) → ChunkHeader → (size : ℕ) → (payload : List ℕ) → List ℕ
chunked first later h size payload = joined (chunks_of first later h (pieces size payload))

-- the chunks of a message after what is remembered of its stream, at a chunk size
abbrev pub chunks : (size : ℕ) → Message → (payload : List ℕ) → (previous : ChunkHeader) → List Chunk
chunks size m payload previous =
    chunks_of (format m previous) (later_format m.force_uncompressed) (header m previous) (pieces size payload)

unfoldable pub packet : (size : ℕ) → Message → (payload : List ℕ) → (previous : ChunkHeader) → List ℕ
packet size m payload previous = joined (chunks size m payload previous)
