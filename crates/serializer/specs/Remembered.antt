-- What the encoder remembers for each chunk stream, and the packet that a message becomes after it (document 01, "Encoder").
use Rattle.std.specs.Prelude.{ℕ, ◌-◌, max, List, get_or, set, replicate}
use Rattle.chunk_header.specs.declared.ChunkHeader.{ChunkHeader}
use Rattle.chunk_header.specs.Header.{nothing}
use Rattle.chunk_header.specs.Limits.{initial_size}
use Rattle.serializer.specs.declared.ChunkSerializer.{ChunkSerializer}
use Rattle.serializer.specs.declared.format.Message.{Message}
use Rattle.serializer.specs.Header.{header}
use Rattle.serializer.specs.Message.{chunk_stream}
use Rattle.serializer.specs.Packet.{packet}

-- a fresh encoder: nothing remembered
abbrev pub fresh : ChunkSerializer
fresh = record { previous_headers = replicate 5 nothing; max_chunk_size = initial_size; unused = 0 }

-- the row of a message's chunk stream: 2 to 6 have rows 0 to 4
abbrev pub row_of : Message → ℕ
row_of m = chunk_stream m.type_id - 2

abbrev pub previous : ChunkSerializer → Message → ChunkHeader
previous s m = get_or s.previous_headers (row_of m) nothing

-- the encoder with the message's header remembered, and a chunk size
abbrev pub remember : ChunkSerializer → Message → (size : ℕ) → ChunkSerializer
remember s m size = record { previous_headers = set s.previous_headers (row_of m) (header m (previous s m)); max_chunk_size = size; unused = s.unused }

-- the chunk size in force, which no call makes 0
abbrev pub size_of : ChunkSerializer → ℕ
size_of s = max 1 s.max_chunk_size

abbrev pub packet_of : ChunkSerializer → Message → (payload : List ℕ) → List ℕ
packet_of s m payload = packet (size_of s) m payload (previous s m)
