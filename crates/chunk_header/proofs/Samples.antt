-- The layout at known bytes, computed: each basic header form, each header type, an extended time, and Adobe's worked examples.
use Rattle.std.proofs.Common.{◌≡◌, ℕ, List, [], ◌∷◌, map, length, refl}
use Rattle.fields.specs.Endian.{big_endian, little_endian}
use Rattle.chunk_header.specs.Layout.{Chunk, Header, one, two, three, type0, type1, type2, type3, present, basic_bytes, header_bytes, chunk_bytes}
use Rattle.chunk_header.specs.Worked.{audio, video}

-- chunk streams 3 and 4 (Adobe's examples, types 0 and 2), 64 and 319, and 64, 320 and 65599
pub basic_headers :
    (basic_bytes one 0 3 ∷ basic_bytes one 2 4 ∷ basic_bytes two 0 64 ∷ basic_bytes two 1 319 ∷ basic_bytes three 0 64 ∷ basic_bytes three 0 320 ∷ basic_bytes three 3 65599 ∷ [])
    ≡ ((0x03 ∷ []) ∷ (0x84 ∷ []) ∷ (0x00 ∷ 0x00 ∷ []) ∷ (0x40 ∷ 0xFF ∷ []) ∷ (0x01 ∷ 0x00 ∷ 0x00 ∷ []) ∷ (0x01 ∷ 0x00 ∷ 0x01 ∷ []) ∷ (0xC1 ∷ 0xFF ∷ 0xFF ∷ []) ∷ [])
unfolding little_endian
basic_headers = refl

-- a header of each type: Adobe's audio and video, document 01's M4, Adobe's delta of 20
pub headers :
    (header_bytes (type0 1000 32 8 12345) ∷ header_bytes (type0 1000 307 9 12346) ∷ header_bytes (type1 0 4 9) ∷ header_bytes (type2 20) ∷ header_bytes type3 ∷ [])
    ≡ ((0x00 ∷ 0x03 ∷ 0xE8 ∷ 0x00 ∷ 0x00 ∷ 0x20 ∷ 0x08 ∷ 0x39 ∷ 0x30 ∷ 0x00 ∷ 0x00 ∷ []) ∷ (0x00 ∷ 0x03 ∷ 0xE8 ∷ 0x00 ∷ 0x01 ∷ 0x33 ∷ 0x09 ∷ 0x3A ∷ 0x30 ∷ 0x00 ∷ 0x00 ∷ []) ∷ (0x00 ∷ 0x00 ∷ 0x00 ∷ 0x00 ∷ 0x00 ∷ 0x04 ∷ 0x09 ∷ []) ∷ (0x00 ∷ 0x00 ∷ 0x14 ∷ []) ∷ [] ∷ [])
unfolding big_endian little_endian
headers = refl

-- whole chunks with an extended time, document 01's M6 and M8: the time 16777215, and the delta from 20 to 10
abbrev extended : (id : ℕ) → Header → (time : ℕ) → Chunk
extended id header time = record { form = one; id = id; header = header; extended = present time; payload = 0xAA ∷ [] }

pub whole_chunks :
    (chunk_bytes (extended 5 (type0 16777215 1 8 1) 16777215) ∷ chunk_bytes (extended 4 (type2 16777215) 4294967286) ∷ [])
    ≡ ((0x05 ∷ 0xFF ∷ 0xFF ∷ 0xFF ∷ 0x00 ∷ 0x00 ∷ 0x01 ∷ 0x08 ∷ 0x01 ∷ 0x00 ∷ 0x00 ∷ 0x00 ∷ 0x00 ∷ 0xFF ∷ 0xFF ∷ 0xFF ∷ 0xAA ∷ []) ∷ (0x84 ∷ 0xFF ∷ 0xFF ∷ 0xFF ∷ 0xFF ∷ 0xFF ∷ 0xFF ∷ 0xF6 ∷ 0xAA ∷ []) ∷ [])
unfolding chunk_bytes big_endian little_endian
whole_chunks = refl

-- how many bytes each chunk of Adobe's examples takes in all
abbrev sizes : List Chunk → List ℕ
sizes chunks = map (λ (c : Chunk). length (chunk_bytes c)) chunks

pub worked : (sizes audio ∷ sizes video ∷ []) ≡ ((44 ∷ 36 ∷ 33 ∷ 33 ∷ []) ∷ (140 ∷ 129 ∷ 52 ∷ []) ∷ [])
unfolding chunk_bytes big_endian little_endian
worked = refl
