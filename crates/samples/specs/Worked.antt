-- Adobe's two worked examples (5.3.2) mixed, and the messages that chunks mean.
use Rattle.std.specs.Prelude.{ℕ, List, [], ◌∷◌, map, length}
use Rattle.chunk_header.specs.Layout.{Chunk, type0, type2, type3}
use Rattle.chunk_header.specs.Worked.{chunk}
use Rattle.stream_meaning.specs.Connection.{Item, chunk as item, means}
use Rattle.stream_meaning.specs.Stream.{Message}

-- the two mixed on one connection
abbrev pub mixed : List Chunk
mixed =
    chunk 4 (type0 1000 307 9 12346) 128 ∷ chunk 3 (type0 1000 32 8 12345) 32 ∷ chunk 4 type3 128 ∷ chunk 3 (type2 20) 32 ∷ chunk 4 type3 51
    ∷ chunk 3 type3 32
    ∷ []

-- the messages that they mean: type, stream, time and length of each
abbrev pub items : List Chunk → List Item
items chunks = map (λ (c : Chunk). item c) chunks

abbrev pub numbers : List Message → List ℕ
numbers [] = []
numbers (m ∷ ms) = m.type ∷ m.stream ∷ m.time ∷ length m.payload ∷ numbers ms

abbrev pub meant : List Chunk → List ℕ
meant chunks = numbers (means (items chunks))
