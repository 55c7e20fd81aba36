-- What the encoder's calls answer and leave (document 01, "Encoder", refusals 1 to 5 and their order).
use Rattle.std.specs.Prelude.{ℕ, Result, true, false, List, [], ◌∷◌, ltb, eqb, length}
use Rattle.fields.specs.Cases.{◌when◌, first}
use Rattle.fields.specs.Output.{over}
use Rattle.chunk_header.specs.Limits.{max_length, max_size}
use Rattle.protocol_control.specs.declared.ProtocolControl.TheVariants.{SetChunkSize}
use Rattle.protocol_control.specs.Body.{body}
use Rattle.serializer.specs.declared.ChunkSerializer.{ChunkSerializer}
use Rattle.serializer.specs.declared.Serialized.{Serialized}
use Rattle.serializer.specs.declared.error.PacketError.{PacketError}
use Rattle.serializer.specs.declared.format.Message.{Message}
use Rattle.serializer.specs.Answer.{Answer, wrote, refused, answer_of}
use Rattle.serializer.specs.Message.{message}
use Rattle.serializer.specs.Remembered.{packet_of, remember}

-- the answer, the encoder and the output after a call
pub record Outcome : Type 0 where
  pub answer : Answer
  pub serializer : ChunkSerializer
  pub output : List ℕ

abbrev pub outcome : (packet : Result ℕ PacketError) → ChunkSerializer → (output : List ℕ) → Outcome
outcome packet s output = record { answer = answer_of packet; serializer = s; output = output }

abbrev pub outcome_of : Serialized → (output : List ℕ) → Outcome
outcome_of r output = outcome r.packet r.serializer output

-- a refusal leaves all as before
abbrev pub refuse : ChunkSerializer → (output : List ℕ) → (number : ℕ) → Outcome
refuse s output n = record { answer = refused n; serializer = s; output = output }

-- the packet at the start of the output, the header remembered, and a chunk size from now on
abbrev pub accept : ChunkSerializer → Message → (payload : List ℕ) → (size : ℕ) → (output : List ℕ) → Outcome
accept s m payload size output =
    record { answer = wrote (length (packet_of s m payload)); serializer = remember s m size; output = over (packet_of s m payload) output }

-- a packet sent, or 5: "output shorter than the exact bytes needed"
unfoldable pub sent : ChunkSerializer → Message → (payload : List ℕ) → (size : ℕ) → (output : List ℕ) → Outcome
sent s m payload size output = first (refuse s output 5 when ltb (length output) (length (packet_of s m payload)) ∷ []) (accept s m payload size output)

-- "encoding 1, 2, 5"
unfoldable pub serialized : ChunkSerializer → Message → (payload output : List ℕ) → Outcome
serialized s m payload output =
    first (refuse s output 1 when eqb (length payload) 0
    ∷ refuse s output 2 when ltb max_length (length payload)
    ∷ []) (sent s m payload s.max_chunk_size output)

-- "message type 1, stream 0, forced, not droppable, its body the new size in four bytes"
abbrev pub size_message : (time : ℕ) → Message
size_message time = message 1 0 time 4 true false

-- the body of Set Chunk Size
abbrev pub size_body : (size : ℕ) → List ℕ
size_body size = body (SetChunkSize size)

-- "size change at the encoder 3, 4, 5"; "cut by the old size; the new size holds afterwards"
unfoldable pub size_changed : ChunkSerializer → (size time : ℕ) → (output : List ℕ) → Outcome
size_changed s size time output =
    first (refuse s output 3 when eqb size 0
    ∷ refuse s output 4 when ltb max_size size
    ∷ []) (sent s (size_message time) (size_body size) size output)

-- what a message takes, were the output long enough
unfoldable pub needed : ChunkSerializer → Message → (payload : List ℕ) → Answer
needed s m payload =
    first (refused 1 when eqb (length payload) 0
    ∷ refused 2 when ltb max_length (length payload)
    ∷ []) (wrote (length (packet_of s m payload)))
