-- What the paths in front of the loop ensure: the call's own answer in one stroke, or nothing changed.
use Rattle.std.specs.Prelude.{ℕ, ◌+◌, ◌-◌, ◌%◌, ◌≤◌, ◌<◌, Bool, true, false, List, ◌≢◌, ◌≡◌, get_or, length, Option, Some, None}
use Rattle.chunk_header.specs.declared.ChunkHeaderFormat.{ChunkHeaderFormat}
use Rattle.chunk_header.specs.Limits.{max_field}
use Rattle.chunk_header.specs.Table.{format_of, header_length, type_of}
use Rattle.chunk_meaning.specs.Stored.{Row, timed}
use Rattle.chunk_meaning.specs.Meaning.{first_time}
use Rattle.byte_machine.specs.Rows.{find, row_at, row_count}
use Rattle.decoding.specs.Answer.{more}
use Rattle.decoding.specs.Call.{next, read}
use Rattle.decoding.specs.Chunk.{carried}
use Rattle.decoding.specs.Head.{header_in}
use Rattle.decoding.specs.Within.{Lies}
use Rattle.held.specs.declared.numbers.HeldRow.{HeldRow}
use Rattle.held.specs.Numbers.{decode, held_in, held_row_of, reader_from}
use Rattle.one_stroke.specs.declared.message.Seen.{Seen}
use Rattle.one_stroke.specs.Lent.{Lent}

-- a piece of so many bytes within the payload of the chunk at hand, and a test that is false only of one
pub record Inside (held : List ℕ) (length lent : ℕ) : Type 0 where
  pub stage : 8 ≤ get_or held 3 0
  pub lies : (rows : List ℕ) → Lies (decode held rows) length lent

abbrev pub Outside : Bool → (held : List ℕ) → (length lent : ℕ) → Type 0
Outside b held length lent = b ≡ false → Inside held length lent

-- such a piece, taken whatever the table is
pub record Piece (done : Bool) (held input payload held' payload' : List ℕ) : Type 0 where
  pub taken : done ≡ true → (rows : List ℕ) → Lent (more (length input)) held' rows payload' (next (decode held rows) input payload)
  pub numbers : done ≡ false → held' ≡ held
  pub buffer : done ≡ false → payload' ≡ payload

-- a message taken in one stroke, or none
pub record Once (used : Option ℕ) (held rows input payload held' rows' payload' : List ℕ) : Type 0 where
  pub taken : (n : ℕ) → used ≡ Some n → Lent (read (reader_from (held_in held')) n) held' rows' payload' (next (decode held rows) input payload)
  pub numbers : used ≡ None → held' ≡ held
  pub table : used ≡ None → rows' ≡ rows
  pub buffer : used ≡ None → payload' ≡ payload

-- an open decoder between messages, some input, and a buffer that is long enough
pub record Between (held : List ℕ) (length lent : ℕ) : Type 0 where
  pub open_still : get_or held 2 0 ≡ 0
  pub stage : get_or held 3 0 ≡ 0
  pub message : get_or held 9 0 ≡ 0
  pub room : get_or held 0 0 ≤ lent
  pub some : 0 < length

abbrev pub Midway : Bool → (held : List ℕ) → (length lent : ℕ) → Type 0
Midway b held length lent = b ≡ false → Between held length lent

-- a header without extended time, of a message that has a byte, fits the room and is all there in one chunk
pub record Fits (field long room size rest : ℕ) : Type 0 where
  pub plain : field ≢ max_field
  pub some : long ≢ 0
  pub in_room : long ≤ room
  pub in_chunk : long ≤ size
  pub there : long ≤ rest

abbrev pub Unfit : Bool → HeldRow → (room size rest : ℕ) → Type 0
Unfit b h room size rest = b ≡ false → Fits h.field h.length room size rest

-- the chunk that begins with the input's first bytes: its format, its stream, its row and its header
abbrev pub format_at : (input : List ℕ) → ChunkHeaderFormat
format_at input = format_of (get_or input 0 0)

abbrev pub place_at : (rows input : List ℕ) → ℕ
place_at rows input = find rows (get_or input 0 0 % 64)

abbrev pub row_on : (rows input : List ℕ) → Row
row_on rows input = row_at rows (place_at rows input)

abbrev pub header_at : (rows input : List ℕ) → Row
header_at rows input = carried (header_in (format_at input) input) (row_on rows input)

-- the header with the time of its message
abbrev pub timed_at : (rows input : List ℕ) → Row
timed_at rows input = timed (header_at rows input) (first_time (format_at input) (row_on rows input).timestamp.value (header_at rows input).timestamp_field)

pub record Whole (s : Seen) (held rows input : List ℕ) : Type 0 where
  pub id : 2 ≤ get_or input 0 0 % 64
  pub start_is : s.start ≡ 1 + header_length (type_of (format_at input))
  pub long : s.start ≤ length input
  pub format_is : s.format ≡ format_at input
  pub place_is : s.place ≡ place_at rows input
  pub found : place_at rows input < row_count
  pub before_is : s.before ≡ held_row_of (row_on rows input)
  pub header_is : s.header ≡ held_row_of (timed_at rows input)
  pub fits : Fits (header_at rows input).timestamp_field (header_at rows input).message_length (get_or held 0 0) (get_or held 1 0) (length input - s.start)
