-- A decoder's view of one chunk stream: its row, where it has one, and the payload so far, where its message is the unfinished one. No stream has the id 0.
use Rattle.std.specs.Prelude.{ℕ, cond, List, eqb, take}
use Rattle.std.proofs.Math.Option.{none, some, map}
use Rattle.chunk_meaning.specs.Stored.{Row}
use Rattle.byte_machine.specs.Rows.{own_row}
use Rattle.decoding.specs.Decoder.{Decoder}
use Rattle.stream_meaning.specs.Stream.{Said, Stream, said}

abbrev pub said_in : Row → Said
said_in r = said r.timestamp.value r.timestamp_field r.message_length r.message_type_id r.message_stream_id

abbrev pub viewed : Decoder → (buffer : List ℕ) → (id : ℕ) → Stream
viewed d buffer id = record {
  stored = map said_in (own_row d.rows id);
  come = cond (eqb d.reader.message.id id) (some (take d.reader.message.got buffer)) none;
}
