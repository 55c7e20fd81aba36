-- One chunk, to any decoder that calls can make and that stands between chunks: what it does to the decoder's view of each stream, and what is answered.
use Rattle.std.specs.Prelude.{ℕ, ◌≤◌, List, [], ◌∷◌, ◌≢◌, ◌≡◌, length, take}
use Rattle.std.proofs.Math.Option.{Option, none, some}
use Rattle.std.proofs.lemmas.List.Edits.{sets}
use Rattle.chunk_header.specs.Layout.{Chunk, chunk_bytes}
use Rattle.decoding.specs.Decoder.{Decoder}
use Rattle.decoding.specs.Answer.{Listed, message, more, refused}
use Rattle.decoding.specs.Call.{Outcome, next}
use Rattle.decoding.specs.Calls.{Ready}
use Rattle.stream_meaning.specs.Stream.{Fits, Message, earlier, hands, saying, takes}
use Rattle.stream_meaning.specs.View.{viewed}

-- a chunk's bytes to a decoder
abbrev pub fed : Decoder → (buffer : List ℕ) → Chunk → Outcome
fed d buffer c = next d (chunk_bytes c) buffer

abbrev pub NotRefused : Listed → Type 0
NotRefused answer = (number used : ℕ) → answer ≢ refused number used

-- the answer to its last byte: the message that it ends, whose payload is the first bytes of the buffer, or more wanted
abbrev pub Answers : Option Message → (used : ℕ) → Outcome → Type 0
Answers none used o = o.answer ≡ more used
Answers (some m) used o = (o.answer ≡ message m.type m.stream m.time (length m.payload) used) × (take (length m.payload) o.payload ≡ m.payload)

-- its own stream takes it and every other one is as before, the answer is what it hands out, and its payload is written after what came before it
pub record Took (d : Decoder) (buffer : List ℕ) (c : Chunk) (o : Outcome) : Type 0 where
  pub mine : viewed o.deserializer o.payload c.id ≡ takes (viewed d buffer c.id) c
  pub others : (id : ℕ) → id ≢ 0 → id ≢ c.id → viewed o.deserializer o.payload id ≡ viewed d buffer id
  pub answers : Answers (hands (viewed d buffer c.id) c) (length (chunk_bytes c)) o
  pub writes : o.payload ≡ sets buffer (length (earlier (viewed d buffer c.id) c)) c.payload
  pub fits_room : (saying (viewed d buffer c.id) c).length ≤ d.setting.room
  pub ready : Ready o.deserializer o.payload
  pub same_room : o.deserializer.setting.room ≡ d.setting.room
  pub same_size : o.deserializer.setting.size ≡ d.setting.size

abbrev pub OwnStream : Type 0
OwnStream =
    (d : Decoder) (buffer : List ℕ) (c : Chunk) → Ready d buffer → Fits d.setting.size (viewed d buffer c.id) c
    → NotRefused (fed d buffer c).answer
    → Took d buffer c (fed d buffer c)

-- the message in an answer
abbrev pub handed_by : Listed → (payload : List ℕ) → List Message
handed_by (message type stream time length used) payload = record { type = type; stream = stream; time = time; payload = take length payload } ∷ []
handed_by (more used) payload = []
handed_by (refused number used) payload = []
