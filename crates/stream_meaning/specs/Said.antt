-- What is stored of a stream: something exactly where a chunk of it has come, and then what its chunks said last.
use Rattle.std.specs.Prelude.{ℕ, List, [], ◌↔◌, ◌≢◌, ◌≡◌}
use Rattle.std.proofs.Math.Option.{none, get_or}
use Rattle.chunk_header.specs.Layout.{Chunk}
use Rattle.stream_meaning.specs.Connection.{Item, alone, field_in, length_in, own, said_last, stream_in, streams, type_in}
use Rattle.stream_meaning.specs.Stream.{Said, Stream, said, silent}

abbrev pub said_on : Stream → Said
said_on s = get_or s.stored (said 0 0 0 0 0)

pub record SaidLast (chunks : List Chunk) (s : Stream) : Type 0 where
  pub there : s.stored ≢ none ↔ chunks ≢ []
  pub field : (said_on s).field ≡ said_last field_in chunks
  pub length_of : (said_on s).length ≡ said_last length_in chunks
  pub type : (said_on s).type ≡ said_last type_in chunks
  pub stream : (said_on s).stream ≡ said_last stream_in chunks

abbrev pub StoresLast : Type 0
StoresLast = (items : List Item) (id : ℕ) → (streams items id ≡ alone silent (own id items)) × SaidLast (own id items) (streams items id)
