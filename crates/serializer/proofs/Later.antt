-- The chunks of a payload, taken one by one; the first may have a format of its own.
use Rattle.std.proofs.Common.{ℕ, ◌≤◌, ◌<◌, min, ◌≡◌, refl, sym, ◌∙◌, Bool, true, false, List, [], ◌∷◌, ◌++◌, map, append-nil, arith, ltb, length, take, drop, drop_of_length-le, take_all, ltb-true, ltb-false}
use Rattle.std.proofs.Math.Seq.{take-append_seam, drop-append_seam}
use Rattle.chunk_header.specs.declared.ChunkHeader.{ChunkHeader}
use Rattle.chunk_header.specs.declared.ChunkHeaderFormat.{ChunkHeaderFormat}
use Rattle.chunk_header.specs.Layout.{chunk_bytes}
use Rattle.serializer.specs.Packet.{chunk, chunked, chunks_of, joined, pieces}
use Rattle.serializer.proofs.Pieces.{pieces_step, pieces_none}

abbrev pub later : ChunkHeaderFormat → ChunkHeader → ℕ → List ℕ → List ℕ
later f h size payload = joined (map (chunk f h) (pieces size payload))

pub later_step : (f : ChunkHeaderFormat) (h : ChunkHeader) (size : ℕ) (payload : List ℕ) → 0 < size → 0 < length payload
    → later f h size payload ≡ chunk_bytes (chunk f h (take size payload)) ++ later f h size (drop size payload)
later_step f h size payload p q = rw (pieces_step size payload p q)

pub later_none : (f : ChunkHeaderFormat) (h : ChunkHeader) (size : ℕ) → 0 < size → later f h size [] ≡ []
later_none f h size p = rw (pieces_none size p)

-- a piece is cut at the payload's end
cut_least : (size : ℕ) (xs : List ℕ) → (take (min size (length xs)) xs ≡ take size xs) × (drop (min size (length xs)) xs ≡ drop size xs)
cut_least size xs = go (ltb size (length xs)) refl
  where
    go : (b : Bool) → ltb size (length xs) ≡ b → (take (min size (length xs)) xs ≡ take size xs) × (drop (min size (length xs)) xs ≡ drop size xs)
    go true e =
        let less = ltb-true size (length xs) e in
        let same : min size (length xs) ≡ size = omega arith in
        (rw same, rw same)
    go false e =
        let more = ltb-false size (length xs) e in
        let same : min size (length xs) ≡ length xs = omega arith in
        (rw (same, take_all (length xs) xs (omega arith), take_all size xs more), rw (same, drop_of_length-le xs {i = length xs} (omega arith), drop_of_length-le xs {i = size} more))

chunked_same : (g : ChunkHeaderFormat) (h : ChunkHeader) (ps : List (List ℕ)) → chunks_of g g h ps ≡ map (chunk g h) ps
chunked_same g h [] = refl
chunked_same g h (p ∷ ps) = refl

pub chunked_none : (f g : ChunkHeaderFormat) (h : ChunkHeader) (size : ℕ) → 0 < size → chunked f g h size [] ≡ []
chunked_none f g h size p = rw (pieces_none size p)

chunked_step : (f g : ChunkHeaderFormat) (h : ChunkHeader) (size : ℕ) (payload : List ℕ) → 0 < size → 0 < length payload
    → chunked f g h size payload ≡ chunk_bytes (chunk f h (take size payload)) ++ chunked g g h size (drop size payload)
chunked_step f g h size payload p q = rw (pieces_step size payload p q, chunked_same g h (pieces size (drop size payload)))

-- one turn: a piece off the front, and what is left after it
pub chunked_piece : (f g : ChunkHeaderFormat) (h : ChunkHeader) (size : ℕ) (xs piece left : List ℕ) → 0 < size → 0 < length xs
    → xs ≡ piece ++ left → length piece ≡ min size (length xs)
    → chunked f g h size xs ≡ chunk_bytes (chunk f h piece) ++ chunked g g h size left
chunked_piece f g h size xs piece left p q e n =
    let front : take size xs ≡ piece = sym (cut_least size xs).0 ∙ rw (← n, e) (take-append_seam piece left) in
    let back : drop size xs ≡ left = sym (cut_least size xs).1 ∙ rw (← n, e) (drop-append_seam piece left) in
    chunked_step f g h size xs p q ∙ rw (front, back)

-- a payload that fits one chunk
pub chunked_one : (f g : ChunkHeaderFormat) (h : ChunkHeader) (size : ℕ) (payload : List ℕ) → 0 < size → 0 < length payload → length payload ≤ size
    → chunked f g h size payload ≡ chunk_bytes (chunk f h payload)
chunked_one f g h size payload p q fits =
    chunked_step f g h size payload p q
    ∙ rw (take_all size payload fits, drop_of_length-le payload {i = size} fits, chunked_none g g h size p) (append-nil (chunk_bytes (chunk f h payload)))
