-- A header that is all there: what its bytes say, and what they settle.
use Rattle.std.specs.Prelude.{ℕ, ◌+◌, ◌%◌, ◌≤◌, ◌<◌, cond, List, ◌≡◌, eqb, length, take, drop, get_or}
use Rattle.fields.specs.Endian.{Bytes, number, swapped}
use Rattle.chunk_header.specs.declared.ChunkHeaderFormat.{ChunkHeaderFormat}
use Rattle.chunk_header.specs.declared.ChunkHeaderFormat.TheVariants.{Full, TimeDeltaWithoutMessageStreamId, TimeDeltaOnly, Empty}
use Rattle.chunk_header.specs.Layout.{Header, type0, type1, type2, type3}
use Rattle.chunk_header.specs.Table.{format_of, header_length, type_of}
use Rattle.decoding.specs.Decoder.{Decoder}
use Rattle.byte_machine.specs.Reader.{Reader, Csid, Stepped, Unfinished, reading}
use Rattle.chunk_meaning.specs.Stored.{Row, timed}
use Rattle.byte_machine.specs.Header.{opens}
use Rattle.chunk_meaning.specs.Meaning.{first_refusal, first_time, later_refusal}
use Rattle.byte_machine.specs.Rows.{find, row_count}

-- the header after a basic header of one byte
abbrev pub header_in : ChunkHeaderFormat → List ℕ → Header
header_in Full bytes = type0 (number (take 3 (drop 1 bytes))) (number (take 3 (drop 4 bytes))) (number (take 1 (drop 7 bytes))) (swapped (number (take 4 (drop 8 bytes))))
header_in TimeDeltaWithoutMessageStreamId bytes = type1 (number (take 3 (drop 1 bytes))) (number (take 3 (drop 4 bytes))) (number (take 1 (drop 7 bytes)))
header_in TimeDeltaOnly bytes = type2 (number (take 3 (drop 1 bytes)))
header_in Empty bytes = type3

-- what is refused at its last byte, where it has no extended time
abbrev pub refusal_of : ChunkHeaderFormat → Row → Row → Unfinished → ℕ → ℕ
refusal_of format row header message room =
    cond (eqb message.id 0) (first_refusal format header header.timestamp_field room) (later_refusal format row header header.timestamp_field)

-- the header stored for the chunk, up to its payload
abbrev pub settled_by : ℕ → ChunkHeaderFormat → ℕ → Row → Row → Reader → Stepped
settled_by size format place row header r =
    let first = eqb r.message.id 0 in
    let time = cond first (first_time format row.timestamp.value header.timestamp_field) row.timestamp.value in
    opens size (reading r format place row (timed header time)) (cond first 0 r.message.got)

-- a header of one format, whole in the input, of a stream whose row is at a place
pub record Known (d : Decoder) (input : List ℕ) (format : ChunkHeaderFormat) (place : ℕ) : Type 0 where
  pub stage : d.reader.stage ≡ Csid
  pub bytes : Bytes input
  pub format_is : format ≡ format_of (get_or input 0 0)
  pub id : 2 ≤ get_or input 0 0 % 64
  pub long : 1 + header_length (type_of format) ≤ length input
  pub place_is : place ≡ find d.rows (get_or input 0 0 % 64)
  pub found : place < row_count
