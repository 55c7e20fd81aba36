-- Adobe's two worked examples (5.3.2), as chunks.
use Rattle.std.specs.Prelude.{ℕ, List, [], ◌∷◌, replicate}
use Rattle.chunk_header.specs.Layout.{Chunk, Header, one, type0, type2, type3, absent}

-- a chunk with a payload of so many zeros
abbrev pub chunk : ℕ → Header → ℕ → Chunk
chunk id header size = record { form = one; id = id; header = header; extended = absent; payload = replicate size 0 }

-- audio: stream 12345, type 8, 32 bytes each, times 1000, 1020, 1040, 1060, chunk stream 3
abbrev pub audio : List Chunk
audio = chunk 3 (type0 1000 32 8 12345) 32 ∷ chunk 3 (type2 20) 32 ∷ chunk 3 type3 32 ∷ chunk 3 type3 32 ∷ []

-- video: stream 12346, type 9, time 1000, 307 bytes, chunk stream 4, chunk size 128
abbrev pub video : List Chunk
video = chunk 4 (type0 1000 307 9 12346) 128 ∷ chunk 4 type3 128 ∷ chunk 4 type3 51 ∷ []
