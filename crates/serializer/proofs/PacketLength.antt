-- How long a packet is: a head for each chunk, and the payload once.
use Rattle.std.proofs.Common.{ℕ, zero, suc, ◌+◌, ◌-◌, ◌*◌, ◌/◌, ◌≤◌, ◌<◌, ◌≡◌, List, [], map, suc-mul, zero-mul, arith, length, take, drop, length-append, length-take, length-drop}
use Rattle.std.proofs.Math.Nat.{mul-le-mul, div-le_self}
use Rattle.chunk_header.specs.Limits.{max_length}
use Rattle.chunk_header.specs.declared.ChunkHeader.{ChunkHeader}
use Rattle.chunk_header.specs.declared.ChunkHeaderFormat.{ChunkHeaderFormat}
use Rattle.chunk_header.specs.Layout.{chunk_bytes}
use Rattle.serializer.specs.Packet.{chunk, chunked, cut, joined, pieces}
use Rattle.serializer.proofs.Chunk.{chunk_split}
use Rattle.serializer.proofs.Pieces.{rounded_up_lem, rounded_covers}

-- the bytes of a chunk before its payload
abbrev pub head : ChunkHeaderFormat → ChunkHeader → ℕ
head f h = length (chunk_bytes (chunk f h []))

pub length_chunk : (f : ChunkHeaderFormat) (h : ChunkHeader) (payload : List ℕ) → length (chunk_bytes (chunk f h payload)) ≡ head f h + length payload
length_chunk f h payload = rw (chunk_split f h payload, length-append)

length_later : (f : ChunkHeaderFormat) (h : ChunkHeader) (n size : ℕ) (xs : List ℕ) → length xs ≤ n * size
    → length (joined (map (chunk f h) (cut n size xs))) ≡ n * head f h + length xs
length_later f h zero size xs k = rw zero-mul (omega (arith, zero-mul size))
length_later f h (suc n) size xs k =
    let most : length (drop size xs) ≤ n * size = rw length-drop (omega (arith, suc-mul n size)) in
    rw (length-append, length_chunk f h (take size xs), length_later f h n size (drop size xs) most, suc-mul n (head f h))
    (simp (length-take, length-drop) (omega arith))

pub length_packet : (f g : ChunkHeaderFormat) (h : ChunkHeader) (size : ℕ) (payload : List ℕ) → 0 < size → 0 < length payload
    → length (chunked f g h size payload) ≡ head f h + (length payload - 1) / size * head g h + length payload
unfolding pieces
length_packet f g h size payload p q =
    let n = (length payload - 1) / size in
    let covers = rounded_covers (length payload) size q p in
    let most : length (drop size payload) ≤ n * size = rw length-drop (omega (arith, suc-mul n size)) in
    rw (rounded_up_lem (length payload) size q p, length-append, length_chunk f h (take size payload), length_later g h n size (drop size payload) most)
    (simp (length-take, length-drop) (omega arith))

-- the heads of the later chunks, of which there are no more than bytes
pub heads : (n size one : ℕ) → n ≤ max_length → one ≤ 16 → (n - 1) / size * one ≤ max_length * 16
heads n size one few e =
    let less : (n - 1) / size ≤ max_length = omega (arith, div-le_self (n - 1) size) in
    mul-le-mul {m₂ = 16} less e
