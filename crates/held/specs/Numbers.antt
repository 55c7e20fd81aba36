-- A decoder as numbers that a caller lends: what they mean (`decode`), and which numbers stand for a decoder (`encode`).
-- Every list of numbers means a decoder; those that no call makes mean the nearest one.
--
--    0  room                             6  type of the chunk at hand, 3 and over: 3
--    1  chunk size in force              7  place of its row, 64: none
--    2  number it is closed with, or 0   8  bytes that its payload lacks
--    3  stage, 8 and over: 8             9  chunk stream of the unfinished message, or 0
--    4  what the stage has gathered     10  bytes of that message that have come
--    5  what the stage lacks            11  row of the chunk's stream as it was: id, time, field, length, type, stream
--   23  0                               17  header of the chunk at hand: the same six
--
-- Stages: 0 first byte of a basic header, 1 second, 2 third, 3 timestamp, 4 length, 5 type, 6 stream, 7 extended time,
-- 8 payload. At 1 and 2 the basic header's first byte is what was gathered, and at 2 its second what is lacked.
use Rattle.std.specs.Prelude.{ℕ, ◌+◌, List, [], ◌∷◌, eqb, get_or, Option, Some, None}
use Rattle.fields.specs.Cases.{◌when◌, first}
use Rattle.chunk_header.specs.declared.ChunkHeaderFormat.{ChunkHeaderFormat}
use Rattle.chunk_header.specs.declared.ChunkHeaderFormat.TheVariants.{Full, TimeDeltaWithoutMessageStreamId, TimeDeltaOnly, Empty}
use Rattle.chunk_header.specs.Table.{type_of}
use Rattle.chunk_meaning.specs.Stored.{Row, row}
use Rattle.byte_machine.specs.Rows.{row_count}
use Rattle.byte_machine.specs.Setting.{Setting, setting}
use Rattle.byte_machine.specs.Reader.{Reader, current, reader, unfinished}
use Rattle.decoding.specs.Decoder.{Decoder}
use Rattle.held.specs.declared.numbers.Held.{Held}
use Rattle.held.specs.declared.numbers.HeldRow.{HeldRow}
use Rattle.held.specs.Stages.{code_of, lacks_of, number_of, stage_in, stage_of}

-- the format by its type, with `type_of` the way back; a number over 3 means 3
unfoldable pub format_from : (type : ℕ) → ChunkHeaderFormat
format_from n =
    first (Full when eqb n 0
    ∷ TimeDeltaWithoutMessageStreamId when eqb n 1
    ∷ TimeDeltaOnly when eqb n 2
    ∷ []) Empty

-- rows: any number is a type
abbrev pub row_from : HeldRow → Row
row_from s = row s.id s.time s.field s.length s.kind s.stream

abbrev pub held_row : (id time field length kind stream : ℕ) → HeldRow
held_row id time field length kind stream = record { id = id; time = time; field = field; length = length; kind = kind; stream = stream }

abbrev pub held_row_of : Row → HeldRow
held_row_of r = held_row r.id r.timestamp.value r.timestamp_field r.message_length r.message_type_id r.message_stream_id

-- a place of the table, or none
abbrev pub place_in : Option ℕ → ℕ
place_in None = row_count
place_in (Some i) = i

-- what is held means a decoder, whatever table is beside it
abbrev pub reader_from : Held → Reader
reader_from h =
    reader (stage_of h.stage)
    (current h.format h.place (row_from h.before) (row_from h.header) h.left)
    (unfinished h.id h.got)

abbrev pub setting_in : Held → Setting
setting_in h = setting h.room h.size

abbrev pub meant : Held → (rows : List ℕ) → Decoder
meant h rows = record { setting = setting_in h; closed = h.closed; reader = reader_from h; rows = rows }

-- a row among the numbers, from a place on
abbrev pub held_row_at : List ℕ → (at : ℕ) → HeldRow
held_row_at l at = held_row (get_or l at 0) (get_or l (at + 1) 0) (get_or l (at + 2) 0) (get_or l (at + 3) 0) (get_or l (at + 4) 0) (get_or l (at + 5) 0)

-- the 24 numbers, by their places
abbrev pub held_in : List ℕ → Held
held_in l = record {
  room = get_or l 0 0;
  size = get_or l 1 0;
  closed = get_or l 2 0;
  stage = stage_in (get_or l 3 0) (get_or l 4 0) (get_or l 5 0);
  format = format_from (get_or l 6 0);
  place = get_or l 7 0;
  left = get_or l 8 0;
  id = get_or l 9 0;
  got = get_or l 10 0;
  before = held_row_at l 11;
  header = held_row_at l 17;
}

-- the decoder that numbers mean ..
abbrev pub decode : (held rows : List ℕ) → Decoder
decode held rows = meant (held_in held) rows

-- .. and the numbers that stand for a decoder
abbrev pub encode : Decoder → List ℕ
encode d =
    let c = d.reader.chunk in
    d.setting.room ∷ d.setting.size ∷ d.closed ∷ code_of d.reader.stage ∷ number_of d.reader.stage ∷ lacks_of d.reader.stage
    ∷ type_of c.format ∷ c.place ∷ c.left ∷ d.reader.message.id ∷ d.reader.message.got
    ∷ c.before.id ∷ c.before.timestamp.value ∷ c.before.timestamp_field ∷ c.before.message_length ∷ c.before.message_type_id ∷ c.before.message_stream_id
    ∷ c.header.id ∷ c.header.timestamp.value ∷ c.header.timestamp_field ∷ c.header.message_length ∷ c.header.message_type_id ∷ c.header.message_stream_id
    ∷ 0 ∷ []

abbrev pub numbers_of : Held → List ℕ
numbers_of h = encode (meant h [])

-- the same decoder, in the numbers that stand for it
abbrev pub again : (held : List ℕ) → List ℕ
again held = encode (decode held [])
