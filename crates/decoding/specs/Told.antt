-- Making a decoder, and telling it a chunk size (document 01, refusals 6, 3, 4 and 8).
use Rattle.std.specs.Prelude.{ℕ, Bool, not, ◌&&◌, ◌||◌, [], ◌∷◌, ltb, eqb}
use Rattle.fields.specs.Cases.{◌when◌, first}
use Rattle.chunk_header.specs.declared.ChunkHeaderFormat.TheVariants.{Full}
use Rattle.chunk_header.specs.Limits.{initial_size, max_length, max_size}
use Rattle.decoding.specs.Decoder.{Decoder}
use Rattle.byte_machine.specs.Reader.{Reader, Csid, at_start, current, nowhere, reader, unfinished}
use Rattle.byte_machine.specs.Setting.{setting}
use Rattle.byte_machine.specs.Rows.{empty_table}
use Rattle.chunk_meaning.specs.Stored.{claimed}

-- each answer's number, as document 01 lists it
pub data Size : Type 0 where
  taken : Size
  refused : ℕ → Size

-- the answer, and the decoder after it
pub record Outcome : Type 0 where
  pub answer : Size
  pub deserializer : Decoder

abbrev pub outcome : Size → Decoder → Outcome
outcome answer d = record { answer = answer; deserializer = d }

-- the largest room: no message is longer
abbrev pub max_room : ℕ
max_room = max_length

-- no byte of a message has come that has not ended
abbrev pub between : Reader → Bool
between r = at_start r.stage && eqb r.message.id 0

abbrev pub sized : Decoder → (size : ℕ) → Decoder
sized d size = record { setting = setting d.setting.room size; closed = d.closed; reader = d.reader; rows = d.rows }

-- "closed, 3, 4, 8"
unfoldable pub told : Decoder → (size : ℕ) → Outcome
told d size =
    first (outcome (refused d.closed) d when not (eqb d.closed 0)
    ∷ outcome (refused 3) d when eqb size 0
    ∷ outcome (refused 4) d when ltb max_size size
    ∷ outcome (refused 8) d when not (between d.reader)
    ∷ []) (outcome taken (sized d size))

-- a decoder to which nothing has come: no row is used
abbrev pub fresh : (room closed : ℕ) → Decoder
fresh room closed = record {
  setting = setting room initial_size;
  closed = closed;
  reader = reader Csid (current Full nowhere (claimed 0) (claimed 0) 0) (unfinished 0 0);
  rows = empty_table;
}

-- a room of 0 or over 16777215 makes a decoder closed with 6
unfoldable pub made : (room : ℕ) → Outcome
made room = first (outcome (refused 6) (fresh room 6) when (eqb room 0 || ltb max_room room) ∷ []) (outcome taken (fresh room 0))
