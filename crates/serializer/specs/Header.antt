-- What the first chunk of a message says, and what is remembered of it (document 01, "Encoder").
use Rattle.std.specs.Prelude.{ℕ, Bool, not, cond, ◌||◌, [], ◌∷◌, eqb}
use Rattle.fields.specs.Cases.{◌when◌, first}
use Rattle.time.specs.Clock.{difference}
use Rattle.chunk_header.specs.declared.ChunkHeader.{ChunkHeader}
use Rattle.chunk_header.specs.declared.ChunkHeaderFormat.{ChunkHeaderFormat}
use Rattle.chunk_header.specs.declared.ChunkHeaderFormat.TheVariants.{Full, TimeDeltaWithoutMessageStreamId, TimeDeltaOnly, Empty}
use Rattle.chunk_header.specs.Table.{is_full}
use Rattle.serializer.specs.declared.format.FirstChunk.{FirstChunk}
use Rattle.serializer.specs.declared.format.Message.{Message}
use Rattle.serializer.specs.Message.{chunk_stream}

-- "the delta is the wrapped difference to the remembered timestamp"
unfoldable pub delta : Message → (previous : ChunkHeader) → ℕ
delta m previous = difference m.timestamp.value previous.timestamp.value

-- the row is this chunk stream's: something is remembered
abbrev pub remembered : Message → (previous : ChunkHeader) → Bool
remembered m previous = eqb previous.chunk_stream_id (chunk_stream m.type_id)

-- the five rules for the first chunk of a message, in their order
unfoldable pub format : Message → (previous : ChunkHeader) → ChunkHeaderFormat
format m previous =
    first (Full when (m.force_uncompressed || (not (remembered m previous) || previous.can_be_dropped))
    ∷ Full when not (eqb m.stream_id previous.message_stream_id)
    ∷ TimeDeltaWithoutMessageStreamId when (not (eqb m.type_id previous.message_type_id) || not (eqb m.length previous.message_length))
    ∷ TimeDeltaOnly when not (eqb (delta m previous) previous.timestamp_field)
    ∷ []) Empty

-- all 32 bits of the time field: the absolute time in type 0, else the delta
abbrev pub time_field : ChunkHeaderFormat → (time delta : ℕ) → ℕ
time_field format time delta = cond (is_full format) time delta

-- what is remembered after a first chunk of that format ..
abbrev pub header_by : ChunkHeaderFormat → Message → (previous : ChunkHeader) → ChunkHeader
header_by f m previous = record {
  chunk_stream_id = chunk_stream m.type_id;
  timestamp = m.timestamp;
  timestamp_field = time_field f m.timestamp.value (delta m previous);
  message_length = m.length;
  message_type_id = m.type_id;
  message_stream_id = m.stream_id;
  can_be_dropped = m.can_be_dropped;
}

-- .. and after the one that is chosen
abbrev pub header : Message → (previous : ChunkHeader) → ChunkHeader
header m previous = header_by (format m previous) m previous

abbrev pub first_chunk : Message → (previous : ChunkHeader) → FirstChunk
first_chunk m previous = record { format = format m previous; header = header m previous }
