-- Further chunks of a message: which they are, and the decoder after them.
use Rattle.std.specs.Prelude.{ℕ, ◌+◌, ◌-◌, ◌≤◌, ◌<◌, Bool, false, List, ◌≢◌, ◌≡◌, length, get_or}
use Rattle.chunk_header.specs.declared.ChunkHeaderFormat.TheVariants.{Empty}
use Rattle.decoding.specs.Decoder.{Decoder}
use Rattle.byte_machine.specs.Reader.{Csid, current, reader, unfinished}
use Rattle.chunk_meaning.specs.Stored.{Row}
use Rattle.chunk_header.specs.Limits.{max_field}
use Rattle.byte_machine.specs.Rows.{find, row_at, row_count}

-- a decoder between two chunks of a message of type 3 chunks without extended time, whose row is at a place
pub record Amid (d : Decoder) (place : ℕ) (row : Row) : Type 0 where
  pub stage : d.reader.stage ≡ Csid
  pub message : d.reader.message.id ≡ row.id
  pub least : 2 ≤ row.id
  pub most : row.id ≤ 63
  pub place_is : find d.rows row.id ≡ place
  pub found : place < row_count
  pub held : row_at d.rows place ≡ row
  pub plain : row.timestamp_field ≢ max_field
  pub fits : row.message_length ≤ d.setting.room

-- the next chunk is of type 3, whole in the input, and not the message's last: `left` bytes after its first
pub record Next (input : List ℕ) (at id got long left : ℕ) : Type 0 where
  pub there : at < length input
  pub first : get_or input at 0 ≡ 192 + id
  pub whole_in : left < length input - at
  pub some : 0 < left
  pub goes_on : got + left < long

-- a test that is false only where there is such a chunk
abbrev pub Stops : Bool → List ℕ → (at id got long left : ℕ) → Type 0
Stops b input at id got long left = b ≡ false → Next input at id got long left

-- after such chunks
abbrev pub gone : Decoder → (place : ℕ) → Row → (got : ℕ) → Decoder
gone d place row got = record {
  setting = d.setting;
  closed = d.closed;
  reader = reader Csid (current Empty place row row 0) (unfinished row.id got);
  rows = d.rows;
}
