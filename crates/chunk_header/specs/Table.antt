-- The four chunk types, and how long each header field is in a chunk of each (document 01, "A chunk on the wire").
use Rattle.std.specs.Prelude.{ℕ, ◌+◌, ◌/◌, Bool, true, false, cond, [], ◌∷◌, leb, get_or}
use Rattle.chunk_header.specs.declared.ChunkHeaderFormat.{ChunkHeaderFormat}
use Rattle.chunk_header.specs.declared.ChunkHeaderFormat.TheVariants.{Full, TimeDeltaWithoutMessageStreamId, TimeDeltaOnly, Empty}
use Rattle.chunk_header.specs.declared.HeaderField.{HeaderField}
use Rattle.chunk_header.specs.declared.HeaderField.TheVariants.{Timestamp, MessageLength, MessageTypeId, MessageStreamId}

-- the chunk types, 0 to 3
abbrev pub type_of : ChunkHeaderFormat → ℕ
type_of Full = 0
type_of TimeDeltaWithoutMessageStreamId = 1
type_of TimeDeltaOnly = 2
type_of Empty = 3

-- type 0, and type 3
abbrev pub is_full : ChunkHeaderFormat → Bool
is_full Full = true
is_full TimeDeltaWithoutMessageStreamId = false
is_full TimeDeltaOnly = false
is_full Empty = false

abbrev pub is_empty : ChunkHeaderFormat → Bool
is_empty Full = false
is_empty TimeDeltaWithoutMessageStreamId = false
is_empty TimeDeltaOnly = false
is_empty Empty = true

-- "the top two bits are the type"
unfoldable pub format_of : (byte : ℕ) → ChunkHeaderFormat
format_of byte = get_or (Full ∷ TimeDeltaWithoutMessageStreamId ∷ TimeDeltaOnly ∷ []) (byte / 64) Empty

-- the fields in their order
abbrev pub index_of : HeaderField → ℕ
index_of Timestamp = 0
index_of MessageLength = 1
index_of MessageTypeId = 2
index_of MessageStreamId = 3

-- "time 3, length 3, message type 1, stream id 4" ..
abbrev pub width : (field : ℕ) → ℕ
width field = get_or (3 ∷ 3 ∷ 1 ∷ 4 ∷ []) field 0

-- .. the time in types up to 2, length and message type in types up to 1, the stream id in type 0
abbrev pub last_type : (field : ℕ) → ℕ
last_type field = get_or (2 ∷ 1 ∷ 1 ∷ 0 ∷ []) field 0

unfoldable pub field_length : (type field : ℕ) → ℕ
field_length type field = cond (leb type (last_type field)) (width field) 0

-- 11, 7, 3 and 0
unfoldable pub header_length : (type : ℕ) → ℕ
header_length type = field_length type 0 + field_length type 1 + field_length type 2 + field_length type 3
