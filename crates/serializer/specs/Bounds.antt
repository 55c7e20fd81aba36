-- "Each packet is at most its payload plus 16 bytes a chunk, its chunks number the payload length divided by the chunk size, rounded up, and the unforced packet
-- is never longer than the forced one from the same encoder": of every encoder, every message and every payload.
use Rattle.std.specs.Prelude.{ℕ, ◌+◌, ◌*◌, ◌≤◌, Bool, true, false, List, ◌≡◌, length}
use Rattle.serializer.specs.declared.ChunkSerializer.{ChunkSerializer}
use Rattle.serializer.specs.declared.format.Message.{Message}
use Rattle.chunk_header.specs.Layout.{Chunk}
use Rattle.serializer.specs.Answer.{wrote}
use Rattle.serializer.specs.Message.{message}
use Rattle.serializer.specs.Packet.{chunks, joined, rounded_up}
use Rattle.serializer.specs.Remembered.{packet_of, previous, size_of}
use Rattle.serializer.specs.Serialize.{needed, serialized}

-- the chunks of a packet
abbrev pub chunks_for : ChunkSerializer → Message → (payload : List ℕ) → List Chunk
chunks_for s m payload = chunks (size_of s) m payload (previous s m)

-- the same message, forced or not
abbrev pub forced_or : Bool → Message → Message
forced_or forced m = message m.type_id m.stream_id m.timestamp.value m.length forced m.can_be_dropped

pub record Bounds : Type 0 where
  -- a packet is its chunks, one after the other ..
  pub is_chunks : (s : ChunkSerializer) (m : Message) (payload : List ℕ) → packet_of s m payload ≡ joined (chunks_for s m payload)
  -- .. which "number the payload length divided by the chunk size, rounded up"
  pub count : (s : ChunkSerializer) (m : Message) (payload : List ℕ) → length (chunks_for s m payload) ≡ rounded_up (length payload) (size_of s)
  -- "at most its payload plus 16 bytes a chunk"
  pub most : (s : ChunkSerializer) (m : Message) (payload : List ℕ) → length (packet_of s m payload) ≤ length payload + 16 * length (chunks_for s m payload)
  -- "the unforced packet is never longer than the forced one from the same encoder"
  pub unforced : (s : ChunkSerializer) (m : Message) (payload : List ℕ) → length (packet_of s (forced_or false m) payload) ≤ length (packet_of s (forced_or true m) payload)
  -- and `packet_length` answers that length, which is what `serialize` writes
  pub answered : (s : ChunkSerializer) (m : Message) (payload : List ℕ) (n : ℕ) → needed s m payload ≡ wrote n → n ≡ length (packet_of s m payload)
  pub written : (s : ChunkSerializer) (m : Message) (payload output : List ℕ) (n : ℕ) → (serialized s m payload output).answer ≡ wrote n → needed s m payload ≡ wrote n
