-- The reader: which field the next byte belongs to, the chunk at hand and the unfinished message; and what a byte may do to it.
use Rattle.std.specs.Prelude.{ℕ, Bool, true, false, cond, eqb}
use Rattle.chunk_header.specs.declared.ChunkHeaderFormat.{ChunkHeaderFormat}
use Rattle.chunk_meaning.specs.Stored.{Row}
use Rattle.byte_machine.specs.Rows.{row_count}

-- the field that the next byte belongs to. One of several bytes has what was gathered of it, and how many bytes it lacks
pub data Stage : Type 0 where
  Csid : Stage
  CsidSecond : (first : ℕ) → Stage
  CsidThird : (first second : ℕ) → Stage
  InitialTimestamp : (gathered lacks : ℕ) → Stage
  MessageLength : (gathered lacks : ℕ) → Stage
  MessageTypeId : Stage
  MessageStreamId : (gathered lacks : ℕ) → Stage
  ExtendedTimestamp : (gathered lacks : ℕ) → Stage
  MessagePayload : Stage

-- the chunk at hand: its format, the place of its stream's row, that row as the chunk found it, the header as far as it is read,
-- and how many payload bytes the chunk lacks
pub record Current : Type 0 where
  pub format : ChunkHeaderFormat
  pub place : ℕ
  pub before : Row
  pub header : Row
  pub left : ℕ

-- the unfinished message: its chunk stream, 0 where there is none, and how many of its bytes have come
pub record Unfinished : Type 0 where
  pub id : ℕ
  pub got : ℕ

pub record Reader : Type 0 where
  pub stage : Stage
  pub chunk : Current
  pub message : Unfinished

-- what a byte settled. A message says that its chunk is finished too
pub data Event : Type 0 where
  Go : Event
  Chunk : Event
  Message : Event
  Refuse : (number : ℕ) → Event

-- what a byte does: the next reader, the event, and the place at which its header becomes a row; `nowhere`: none does
pub record Stepped : Type 0 where
  pub reader : Reader
  pub event : Event
  pub place : ℕ

-- the parts of a reader put together
abbrev pub reader : Stage → Current → Unfinished → Reader
reader stage chunk message = record { stage = stage; chunk = chunk; message = message }

abbrev pub current : ChunkHeaderFormat → (place : ℕ) → (before header : Row) → (left : ℕ) → Current
current format place before header left = record { format = format; place = place; before = before; header = header; left = left }

abbrev pub unfinished : (id got : ℕ) → Unfinished
unfinished id got = record { id = id; got = got }

-- how much of the unfinished message has come; none where there is none
abbrev pub come_of : Unfinished → ℕ
come_of m = cond (eqb m.id 0) 0 m.got

-- the reader at another stage; with another header
abbrev pub at : Reader → Stage → Reader
at r stage = reader stage r.chunk r.message

abbrev pub headed : Reader → Row → Reader
headed r h = reader r.stage (current r.chunk.format r.chunk.place r.chunk.before h r.chunk.left) r.message

-- the reader at a chunk of a stream's row, with the header as far as it is read
abbrev pub reading : Reader → ChunkHeaderFormat → (place : ℕ) → (row header : Row) → Reader
reading r format place row header = reader r.stage (current format place row header 0) r.message

-- before the first byte of a chunk
abbrev pub at_start : Stage → Bool
at_start Csid = true
at_start (CsidSecond a) = false
at_start (CsidThird a b) = false
at_start (InitialTimestamp before lacks) = false
at_start (MessageLength before lacks) = false
at_start MessageTypeId = false
at_start (MessageStreamId before lacks) = false
at_start (ExtendedTimestamp before lacks) = false
at_start MessagePayload = false

-- before a byte of a payload
abbrev pub in_payload : Stage → Bool
in_payload Csid = false
in_payload (CsidSecond a) = false
in_payload (CsidThird a b) = false
in_payload (InitialTimestamp before lacks) = false
in_payload (MessageLength before lacks) = false
in_payload MessageTypeId = false
in_payload (MessageStreamId before lacks) = false
in_payload (ExtendedTimestamp before lacks) = false
in_payload MessagePayload = true

-- a step that puts no row
abbrev pub nowhere : ℕ
nowhere = row_count

-- a byte that only goes on; one that is refused, of which only the number is kept
abbrev pub go : Reader → Stepped
go r = record { reader = r; event = Go; place = nowhere }

abbrev pub refuse : Reader → (number : ℕ) → Stepped
refuse r n = record { reader = r; event = Refuse n; place = nowhere }

-- what is answered where a guard finds a reader that no call makes: no number of document 01
abbrev pub guard : ℕ
guard = 255

-- a message that ends, and a chunk that ends before its message does: the header is stored in its row
abbrev pub ended : Reader → Stepped
ended r = record { reader = reader Csid r.chunk (unfinished 0 0); event = Message; place = r.chunk.place }

abbrev pub paused : Reader → (got : ℕ) → Stepped
paused r got = record { reader = reader Csid r.chunk (unfinished r.chunk.header.id got); event = Chunk; place = r.chunk.place }
