-- When 8 to 16 are given, as the table has it: 8 to 14 of the chunks that have come to a decoder and of one that begins after them, 15 and 16 of a body
-- (document 01's user control bodies, and document 02's protocol control bodies).
use Rattle.std.specs.Prelude.{ℕ, ◌≤◌, ◌<◌, List, [], ◌∷◌, ◌++◌, ◌≢◌, ◌⊎◌, ◌≡◌, length}
use Rattle.std.proofs.Math.Option.{none}
use Rattle.user_control.specs.Reading.{code_in}
use Rattle.protocol_control.specs.declared.Kind.{Kind}
use Rattle.protocol_control.specs.declared.Kind.TheVariants.{
  SetChunkSize as set_chunk_size,
  Abort as abort,
  Acknowledgement as acknowledgement,
  WindowAcknowledgement as window_acknowledgement,
  SetPeerBandwidth as set_peer_bandwidth,
}
use Rattle.protocol_control.specs.declared.ProtocolControl.{ProtocolControl}
use Rattle.protocol_control.specs.declared.ProtocolControl.TheVariants.{
  SetChunkSize,
  Abort,
  Acknowledgement,
  WindowAcknowledgement,
  SetPeerBandwidth,
}
use Rattle.chunk_header.specs.Layout.{Chunk, Header, type0, type1, type2, type3, Extended, absent, present, basic_bytes, header_bytes, extended_bytes, format}
use Rattle.stream_meaning.specs.Connection.{Item, opened, own, streams}
use Rattle.stream_meaning.specs.Said.{said_on}
use Rattle.stream_meaning.specs.Stream.{Said, number, saying}
use Rattle.refusal_table.specs.Terms.{OneOf}

-- "inside a message": a chunk stream's message is unfinished
abbrev pub Unfinished : List Item → (id : ℕ) → Type 0
Unfinished items id = (streams items id).come ≢ none

abbrev pub Inside : List Item → Type 0
Inside items = (id : ℕ) × Unfinished items id

-- a stream has a row: a chunk of it has come
abbrev pub HasRow : List Item → (id : ℕ) → Type 0
HasRow items id = own id items ≢ []

-- "64 rows used": chunks have come on so many streams
abbrev pub AllUsed : List Item → Type 0
AllUsed items = 64 ≤ length (opened items)

-- "after the first byte of a message and before its end": a part of a chunk has come, or a message is unfinished
abbrev pub Eight : List Item → (part : List ℕ) → Type 0
Eight items part = (0 < length part) ⊎ Inside items

abbrev pub type : Chunk → ℕ
type c = format c.header

-- "a type 0 that doesn't repeat the message's header": its length, type, stream id and time, as they were said last on its stream
abbrev pub Repeats : Header → Extended → Said → Type 0
Repeats (type0 time length type stream) extended said =
    (length ≡ said.length) × (type ≡ said.type) × (stream ≡ said.stream) × (number extended time ≡ said.time)
Repeats (type1 delta length type) extended said = ⊥
Repeats (type2 delta) extended said = ⊥
Repeats type3 extended said = ⊥

-- "extended time below 16777215"
abbrev pub Below : Extended → Type 0
Below absent = ⊥
Below (present time) = time < 16777215

module _ (items : List Item) (c : Chunk) where
  -- "type 1, 2 or 3 outside a message on a stream with no row"
  abbrev pub nine : Type 0
  nine = OneOf (type c) (1 ∷ 2 ∷ 3 ∷ []) × (¬ Inside items) × (¬ HasRow items c.id)

  -- "type 0 on a stream with no row, 64 rows used"
  abbrev pub ten : Type 0
  ten = (type c ≡ 0) × (¬ HasRow items c.id) × AllUsed items

  -- "inside a message, another chunk stream"
  abbrev pub eleven : Type 0
  eleven = (id : ℕ) × (Unfinished items id × (c.id ≢ id))

  -- "inside a message, type 1 or 2, or a type 0 that doesn't repeat the message's header"
  abbrev pub twelve : Type 0
  twelve =
      (id : ℕ) × (Unfinished items id × (OneOf (type c) (1 ∷ 2 ∷ [])
      ⊎ ((type c ≡ 0) × (¬ Repeats c.header c.extended (said_on (streams items id))))))

  -- "first chunk of type 1, 2 or 3, extended time below 16777215"
  abbrev pub thirteen : Type 0
  thirteen = (¬ Inside items) × OneOf (type c) (1 ∷ 2 ∷ 3 ∷ []) × Below c.extended

  -- "first chunk, length over the room"
  abbrev pub fourteen : (room : ℕ) → Type 0
  fourteen room = (¬ Inside items) × (room < (saying (streams items c.id) c).length)

-- "settled at the last byte of the basic header", or "at the last header byte, extended time included": the bytes up to it
abbrev pub basic : Chunk → List ℕ
basic c = basic_bytes c.form (type c) c.id

abbrev pub head : Chunk → List ℕ
head c = basic c ++ (header_bytes c.header ++ extended_bytes c.extended)

-- "as is 12 for types 1 and 2; 12 for type 0 .. at the last header byte"
abbrev pub by_type : Header → List ℕ → List ℕ → List ℕ
by_type (type0 time length type stream) short long = long
by_type (type1 delta length type) short long = short
by_type (type2 delta) short long = short
by_type type3 short long = short

abbrev pub head_for12 : Chunk → List ℕ
head_for12 c = by_type c.header (basic c) (head c)

-- "control body under 2 bytes, or a known code with fewer bytes than it needs": "6 bytes, or 10 for code 3"
abbrev pub Fifteen : List ℕ → Type 0
Fifteen bytes =
    (length bytes < 2)
    ⊎ (OneOf (code_in bytes) (0 ∷ 1 ∷ 2 ∷ 4 ∷ 6 ∷ 7 ∷ 31 ∷ 32 ∷ []) × (length bytes < 6))
    ⊎ ((code_in bytes ≡ 3) × (length bytes < 10))

-- "control code unknown"
abbrev pub Sixteen : List ℕ → Type 0
Sixteen bytes = ¬ OneOf (code_in bytes) (0 ∷ 1 ∷ 2 ∷ 3 ∷ 4 ∷ 6 ∷ 7 ∷ 31 ∷ 32 ∷ [])

-- document 02, Three: "a short body", which has 4 bytes, or 5 for a bandwidth
abbrev pub fewer_than : Kind → ℕ
fewer_than set_chunk_size = 4
fewer_than abort = 4
fewer_than acknowledgement = 4
fewer_than window_acknowledgement = 4
fewer_than set_peer_bandwidth = 5

abbrev pub ShortBody : Kind → (bytes : List ℕ) → Type 0
ShortBody k bytes = length bytes < fewer_than k

-- "a number outside its limits": "size 1 to 2147483647, bandwidth limit 0, 1 or 2"
abbrev pub OutsideLimits : ProtocolControl → Type 0
OutsideLimits (SetChunkSize size) = (size ≡ 0) ⊎ (2147483647 < size)
OutsideLimits (Abort stream) = ⊥
OutsideLimits (Acknowledgement sequence) = ⊥
OutsideLimits (WindowAcknowledgement size) = ⊥
OutsideLimits (SetPeerBandwidth size limit) = 2 < limit
