-- What came is read in one way only: from the chunk size in force and the streams, the bytes decide the chunks, and so the messages.
use Rattle.std.specs.Prelude.{ℕ, List, ◌++◌, ◌≡◌}
use Rattle.chunk_header.specs.Layout.{Chunk, chunk_bytes}
use Rattle.decoding.specs.Decoder.{Decoder}
use Rattle.chunk_header.specs.Limits.{initial_size}
use Rattle.stream_meaning.specs.Connection.{AllFit, Item, means, means_from, quiet}
use Rattle.stream_meaning.specs.Feeding.{BegunFrom, Feeding, Reading, Sign, signs, signs_of}
use Rattle.stream_meaning.specs.Stream.{Fits, Message, Stream}

-- two readings of the same are the same, and so mean the same messages
pub record SameReading (now : ℕ) (streams : ℕ → Stream) (came : List Sign) (a b : Reading now streams came) : Type 0 where
  pub items : a.items ≡ b.items
  pub part : a.part ≡ b.part
  pub messages : means_from streams a.items ≡ means_from streams b.items

abbrev pub ReadsOneWay : Type 0
ReadsOneWay = (now : ℕ) (streams : ℕ → Stream) (came : List Sign) (a b : Reading now streams came) → SameReading now streams came a b

-- for no chunk's bytes begin another's: where bytes begin with a chunk that fits, they do with no other, and the same bytes follow it
abbrev pub OneChunk : Type 0
OneChunk =
    (now : ℕ) (streams : ℕ → Stream) (c c' : Chunk) (after after' : List ℕ) → Fits now (streams c.id) c → Fits now (streams c'.id) c'
    → chunk_bytes c ++ after ≡ chunk_bytes c' ++ after'
    → (c ≡ c') × (after ≡ after')

-- so what came decides what is handed out, whatever the calls, the room and the buffer
abbrev pub CameDecides : Type 0
CameDecides =
    (came : List Sign) (messages messages' : List Message) (d d' : Decoder) (buffer buffer' : List ℕ) → Feeding came messages d buffer
    → Feeding came messages' d' buffer'
    → messages ≡ messages'

-- and chunks that fit, with the sizes at their places, hand out what they mean: whole, or with a part of one more after them
abbrev pub MeansFed : Type 0
MeansFed =
    (items : List Item) (messages : List Message) (d : Decoder) (buffer : List ℕ) → AllFit items → Feeding (signs_of items) messages d buffer
    → messages ≡ means items

abbrev pub MeansFedPart : Type 0
MeansFedPart =
    (items : List Item) (part : List ℕ) (messages : List Message) (d : Decoder) (buffer : List ℕ) → AllFit items → BegunFrom initial_size quiet items part
    → Feeding (signs_of items ++ signs part) messages d buffer
    → messages ≡ means items
