-- What a fresh encoder writes last, after calls one after the other, each with 64 bytes of output lent.
use Rattle.std.specs.Prelude.{ℕ, Bool, List, [], ◌∷◌, length, take, replicate}
use Rattle.serializer.specs.declared.ChunkSerializer.{ChunkSerializer}
use Rattle.serializer.specs.Answer.{Answer, wrote, refused}
use Rattle.serializer.specs.Message.{message}
use Rattle.serializer.specs.Remembered.{fresh}
use Rattle.serializer.specs.Serialize.{Outcome, serialized, size_changed}

-- a call: a message to send, or a new chunk size at a time
pub data Call : Type 0 where
  send : (type stream time : ℕ) → (payload : List ℕ) → (forced droppable : Bool) → Call
  size : (new time : ℕ) → Call

abbrev answered : ChunkSerializer → Call → Outcome
answered s (send type stream time payload forced droppable) =
    serialized s (message type stream time (length payload) forced droppable) payload (replicate 64 0)
answered s (size new time) = size_changed s new time (replicate 64 0)

-- the bytes that a call wrote, or the number of its refusal
abbrev bytes : Answer → List ℕ → List ℕ
bytes (wrote n) output = take n output
bytes (refused n) output = n ∷ []

abbrev last : ChunkSerializer → Call → List Call → List ℕ
last s c [] = bytes (answered s c).answer (answered s c).output
last s c (d ∷ ds) = last (answered s c).serializer d ds

abbrev pub encoded : Call → List Call → List ℕ
encoded c cs = last fresh c cs
