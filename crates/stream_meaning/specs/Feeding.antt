-- Any run of calls that refuses nothing, with its bytes cut anywhere: what came, and what was handed out.
use Rattle.std.specs.Prelude.{ℕ, ◌≤◌, List, [], ◌∷◌, ◌++◌, map, ◌≡◌, length, take}
use Rattle.fields.specs.Endian.{Bytes}
use Rattle.chunk_header.specs.Layout.{Chunk, chunk_bytes}
use Rattle.chunk_header.specs.Limits.{initial_size}
use Rattle.decoding.specs.Decoder.{Decoder}
use Rattle.decoding.specs.Answer.{message, more}
use Rattle.decoding.specs.Call.{next}
use Rattle.decoding.specs.Told.{made, taken, told}
use Rattle.stream_meaning.specs.Connection.{FitFrom, Item, chunk, means, quiet, size, size_from, streams_from}
use Rattle.stream_meaning.specs.Stream.{Fits, Message, Stream}

-- what comes to a decoder: a byte, or a size that it is told
pub data Sign : Type 0 where
  byte : ℕ → Sign
  new_size : ℕ → Sign

abbrev pub signs : List ℕ → List Sign
signs bytes = map byte bytes

-- the calls, with one buffer that nobody touches between them
pub data Feeding : (came : List Sign) → (handed_out : List Message) → Decoder → (buffer : List ℕ) → Type 0 where
  opened : (room : ℕ) (buffer : List ℕ) → (made room).answer ≡ taken → room ≤ length buffer → Feeding [] [] (made room).deserializer buffer
  wanted : {came : List Sign} {messages : List Message} {d : Decoder} {buffer : List ℕ} → Feeding came messages d buffer
      → (input : List ℕ) → Bytes input → (used : ℕ) → (next d input buffer).answer ≡ more used
      → Feeding (came ++ signs input) messages (next d input buffer).deserializer (next d input buffer).payload
  handed : {came : List Sign} {messages : List Message} {d : Decoder} {buffer : List ℕ} → Feeding came messages d buffer
      → (input : List ℕ) → Bytes input → (type stream time long used : ℕ) → (next d input buffer).answer ≡ message type stream time long used
      → Feeding (came ++ signs (take used input))
      (messages ++ (record { type = type; stream = stream; time = time; payload = take long (next d input buffer).payload } ∷ []))
      (next d input buffer).deserializer (next d input buffer).payload
  sized : {came : List Sign} {messages : List Message} {d : Decoder} {buffer : List ℕ} → Feeding came messages d buffer
      → (new : ℕ) → (told d new).answer ≡ taken
      → Feeding (came ++ (new_size new ∷ [])) messages (told d new).deserializer buffer

abbrev pub signs_of : List Item → List Sign
signs_of [] = []
signs_of (chunk c ∷ items) = signs (chunk_bytes c) ++ signs_of items
signs_of (size new ∷ items) = new_size new ∷ signs_of items

-- a proper part of the beginning of a chunk that fits
pub record ProperPart (now : ℕ) (streams : ℕ → Stream) (part : List ℕ) : Type 0 where
  pub next_chunk : Chunk
  pub fits : Fits now (streams next_chunk.id) next_chunk
  pub missing : ℕ
  pub missing_too : List ℕ
  pub is : chunk_bytes next_chunk ≡ part ++ (missing ∷ missing_too)

-- and one after items
abbrev pub BegunFrom : (now : ℕ) → (ℕ → Stream) → List Item → (part : List ℕ) → Type 0
BegunFrom now streams items part = ProperPart (size_from now items) (streams_from streams items) part

-- a reading of what came, from any chunk size in force and any streams: chunks that fit, with the sizes between them, and a proper part of one more
pub record Reading (now : ℕ) (streams : ℕ → Stream) (came : List Sign) : Type 0 where
  pub items : List Item
  pub part : List ℕ
  pub is : came ≡ signs_of items ++ signs part
  pub fits : FitFrom now streams items
  pub begun : BegunFrom now streams items part

-- what came can be read so from the start, and what was handed out is what it means
pub record Meant (came : List Sign) (messages : List Message) : Type 0 where
  pub reading : Reading initial_size quiet came
  pub handed_out : messages ≡ means reading.items

abbrev pub FeedingMeans : Type 0
FeedingMeans = (came : List Sign) (messages : List Message) (d : Decoder) (buffer : List ℕ) → Feeding came messages d buffer → Meant came messages
