-- What a whole chunk does to a decoder between chunks (Adobe 5.3.1; document 01, "Decoder").
use Rattle.std.specs.Prelude.{ℕ, ◌-◌, ◌^◌, ◌<◌, min, Bool, cond, not, List, ltb, eqb, length, ◌≢◌, ◌≡◌}
use Rattle.chunk_header.specs.declared.ChunkHeaderFormat.{ChunkHeaderFormat}
use Rattle.chunk_header.specs.declared.ChunkHeaderFormat.TheVariants.{Full, TimeDeltaWithoutMessageStreamId, TimeDeltaOnly, Empty}
use Rattle.chunk_header.specs.Layout.{FormFits, HeaderFits, Chunk, Header, type0, type1, type2, type3, Extended, absent, present}
use Rattle.decoding.specs.Decoder.{Decoder}
use Rattle.chunk_meaning.specs.Stored.{Row, claimed, fielded, lengthed, streamed, timed, typed}
use Rattle.chunk_meaning.specs.Meaning.{basic_refusal, first_refusal, first_time, later_refusal}
use Rattle.chunk_header.specs.Limits.{max_field}
use Rattle.byte_machine.specs.Rows.{find, free, row_at, row_count}

abbrev pub format_for : Header → ChunkHeaderFormat
format_for (type0 time length type stream) = Full
format_for (type1 delta length type) = TimeDeltaWithoutMessageStreamId
format_for (type2 delta) = TimeDeltaOnly
format_for type3 = Empty

-- the fields that a header has, in the place of the row's; the others stay
abbrev pub carried : Header → Row → Row
carried (type0 time length type stream) row = streamed (typed (lengthed (fielded row time) length) type) stream
carried (type1 delta length type) row = typed (lengthed (fielded row delta) length) type
carried (type2 delta) row = fielded row delta
carried type3 row = row

-- the number that a chunk says of the time: its extended time, or the field
abbrev pub says : Extended → Row → ℕ
says absent row = row.timestamp_field
says (present time) row = time

-- an extended time is there exactly where the field is 16777215, and has 32 bits
abbrev pub ExtendedFits : Extended → Row → Type 0
ExtendedFits absent row = row.timestamp_field ≢ max_field
ExtendedFits (present time) row = (row.timestamp_field ≡ max_field) × (time < 2 ^ 32)

-- the row of a stream: its own, or one just claimed
abbrev pub row_of : (rows : List ℕ) → (id : ℕ) → Row
row_of rows id = cond (ltb (find rows id) row_count) (row_at rows (find rows id)) (claimed id)

-- a chunk to a decoder between chunks
module _ (d : Decoder) (c : Chunk) where
  abbrev pub inside : Bool
  inside = not (eqb d.reader.message.id 0)

  abbrev pub row : Row
  row = row_of d.rows c.id

  abbrev pub header : Row
  header = carried c.header row

  -- what is refused at the end of the basic header, and at the end of the header
  abbrev pub basic_refused : ℕ
  basic_refused = basic_refusal (format_for c.header) (ltb (find d.rows c.id) row_count) (ltb (free d.rows) row_count) inside (eqb d.reader.message.id c.id)

  abbrev pub header_refused : ℕ
  header_refused =
      cond inside (later_refusal (format_for c.header) row header (says c.extended header))
      (first_refusal (format_for c.header) header (says c.extended header) d.setting.room)

  -- the bytes of the message that came before this chunk, and those of this chunk
  abbrev pub got : ℕ
  got = cond inside d.reader.message.got 0

  abbrev pub left : ℕ
  left = min d.setting.size (header.message_length - got)

  -- what is stored: a first chunk settles the time, a later one leaves it
  abbrev pub stored : Row
  stored = timed header (cond inside row.timestamp.value (first_time (format_for c.header) row.timestamp.value (says c.extended header)))

-- each part of a chunk's head fits its place ..
pub record HeadFits (d : Decoder) (c : Chunk) : Type 0 where
  pub form : FormFits c.form c.id
  pub fields : HeaderFits c.header
  pub extended : ExtendedFits c.extended (header d c)

-- .. and its payload is what the chunk is to have
pub record ChunkFits (d : Decoder) (c : Chunk) : Type 0 where
  pub head : HeadFits d c
  pub payload : length c.payload ≡ left d c
