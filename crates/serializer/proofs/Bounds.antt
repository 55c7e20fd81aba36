-- Each chunk has at most 16 bytes before its payload, and type 0 has the most: so a packet's length is bounded by its chunks, and by that of the forced one.
use Rattle.std.proofs.Common.{ℕ, zero, suc, ◌+◌, ◌-◌, ◌*◌, ◌/◌, ◌≤◌, ◌<◌, ◌≡◌, refl, ap, ◌∙◌, Bool, true, false, cond, List, [], ◌∷◌, mul-le-mul, arith, ltb, eqb, length, drop}
use Rattle.std.proofs.Math.ListN.{length-map}
use Rattle.chunk_header.specs.declared.ChunkHeader.{ChunkHeader}
use Rattle.chunk_header.specs.declared.ChunkHeaderFormat.{ChunkHeaderFormat}
use Rattle.chunk_header.specs.declared.ChunkHeaderFormat.TheVariants.{Full, TimeDeltaWithoutMessageStreamId, TimeDeltaOnly, Empty}
use Rattle.chunk_header.specs.Layout.{extended_bytes}
use Rattle.chunk_header.specs.Table.{type_of, field_length, header_length}
use Rattle.serializer.specs.declared.ChunkSerializer.{ChunkSerializer}
use Rattle.serializer.specs.declared.format.Message.{Message}
use Rattle.serializer.specs.Header.{delta, format, header, time_field}
use Rattle.chunk_header.specs.Limits.{max_length}
use Rattle.serializer.proofs.Chunk.{head_most, length_head, extended_most}
use Rattle.serializer.proofs.PacketLength.{head, length_packet}
use Rattle.serializer.specs.Packet.{chunk, chunks_of, chunks, cut, extended, joined, later_format, pieces, packet, rounded_up}
use Rattle.serializer.proofs.Pieces.{pieces_none, rounded_up_lem}
use Rattle.serializer.specs.Answer.{refused, wrote}
use Rattle.serializer.specs.Bounds.{Bounds, chunks_for, forced_or}
use Rattle.serializer.specs.Serialize.{Outcome, refuse, accept, needed, sent, serialized}
use Rattle.serializer.specs.Remembered.{packet_of, previous, size_of}

length_cut : (n size : ℕ) (payload : List ℕ) → length (cut n size payload) ≡ n
length_cut zero size payload = refl
length_cut (suc n) size payload = ap suc (length_cut n size (drop size payload))

length_chunks : (f g : ChunkHeaderFormat) (h : ChunkHeader) (ps : List (List ℕ)) → length (chunks_of f g h ps) ≡ length ps
length_chunks f g h [] = refl
length_chunks f g h (p ∷ ps) = ap suc (length-map ps (chunk g h))

-- the number of chunks is the payload length divided by the size, rounded up
chunk_count : (size : ℕ) (m : Message) (payload : List ℕ) (previous : ChunkHeader) → length (chunks size m payload previous) ≡ rounded_up (length payload) size
unfolding pieces
chunk_count size m payload previous =
    length_chunks (format m previous) (later_format m.force_uncompressed) (header m previous) (cut (rounded_up (length payload) size) size payload)
    ∙ length_cut (rounded_up (length payload) size) size payload

-- a packet is at most its payload and 16 bytes a chunk
packet_most : (size : ℕ) (m : Message) (payload : List ℕ) (previous : ChunkHeader) → 0 < size → 0 < length payload
    → length (packet size m payload previous) ≤ length payload + 16 * rounded_up (length payload) size
unfolding packet
packet_most size m payload previous p q =
    let f = format m previous in
    let g = later_format m.force_uncompressed in
    let h = header m previous in
    let n = (length payload - 1) / size in
    let later : n * head g h ≤ n * 16 = mul-le-mul {m₂ = 16} (omega arith) (head_most g h) in
    rw (length_packet f g h size payload p q, rounded_up_lem (length payload) size q p) (omega (arith, head_most f h))

-- the bytes before a payload, at most those of type 0 with the absolute time
head_less : (f : ChunkHeaderFormat) (time delta : ℕ)
    → 1 + header_length (type_of f) + length (extended_bytes (extended (time_field f time delta))) ≤ 12 + length (extended_bytes (extended time))
unfolding header_length field_length
head_less Full time delta = omega arith
head_less TimeDeltaWithoutMessageStreamId time delta = omega (arith, extended_most delta)
head_less TimeDeltaOnly time delta = omega (arith, extended_most delta)
head_less Empty time delta = omega (arith, extended_most delta)

-- the unforced packet is never longer than the forced one from the same encoder
forced_most : (size : ℕ) (m : Message) (payload : List ℕ) (previous : ChunkHeader) → 0 < size → 0 < length payload
    → length (packet size (forced_or false m) payload previous) ≤ length (packet size (forced_or true m) payload previous)
unfolding packet format header_length field_length
forced_most size m payload previous p q =
    let u = forced_or false m in
    let o = forced_or true m in
    let time = m.timestamp.value in
    let n = (length payload - 1) / size in
    let full : head Full (header o previous) ≡ 12 + length (extended_bytes (extended time)) = length_head Full (header o previous) in
    let first : head (format u previous) (header u previous) ≤ head Full (header o previous) =
    rw (full, length_head (format u previous) (header u previous)) (head_less (format u previous) time (delta u previous))
    in
    let small : head Empty (header u previous) ≤ head Full (header o previous) =
    omega (arith, full, length_head Empty (header u previous), extended_most (header u previous).timestamp_field)
    in
    let later : n * head Empty (header u previous) ≤ n * head Full (header o previous) = mul-le-mul (omega arith) small in
    rw (length_packet (format u previous) Empty (header u previous) size payload p q, length_packet Full Full (header o previous) size payload p q)
    (omega (arith, first, later))

-- a payload of no bytes has no chunks
packet_none : (size : ℕ) (m : Message) (previous : ChunkHeader) → 0 < size → packet size m [] previous ≡ []
unfolding packet
packet_none size m previous p = rw (pieces_none size p)

-- by whether there are bytes
by_payload : (payload : List ℕ) (P : List ℕ → Type 0) → P [] → (0 < length payload → P payload) → P payload
by_payload [] P none some = none
by_payload (x ∷ payload) P none some = some (omega arith)

module _ (s : ChunkSerializer) where
  size_some : 0 < size_of s
  size_some = omega arith

  count : (m : Message) (payload : List ℕ) → length (chunks_for s m payload) ≡ rounded_up (length payload) (size_of s)
  count m payload = chunk_count (size_of s) m payload (previous s m)

  most : (m : Message) (payload : List ℕ) → length (packet_of s m payload) ≤ length payload + 16 * length (chunks_for s m payload)
  most m payload =
      by_payload payload (λ (l : List ℕ). length (packet_of s m l) ≤ length l + 16 * length (chunks_for s m l)) (rw (packet_none (size_of s) m (previous s m) size_some) (omega arith))
      (λ some. rw (count m payload) (packet_most (size_of s) m payload (previous s m) size_some some))

  unforced : (m : Message) (payload : List ℕ) → length (packet_of s (forced_or false m) payload) ≤ length (packet_of s (forced_or true m) payload)
  unforced m payload =
      by_payload payload (λ (l : List ℕ). length (packet_of s (forced_or false m) l) ≤ length (packet_of s (forced_or true m) l))
      (rw (packet_none (size_of s) (forced_or false m) (previous s m) size_some) (omega arith))
      (λ some. forced_most (size_of s) m payload (previous s m) size_some some)

  -- what is answered
  answered : (m : Message) (payload : List ℕ) (n : ℕ) → needed s m payload ≡ wrote n → n ≡ length (packet_of s m payload)
  unfolding needed
  answered m payload n e = by_tests (eqb (length payload) 0) (ltb max_length (length payload)) e
    where
      by_tests : (a b : Bool) → cond a (refused 1) (cond b (refused 2) (wrote (length (packet_of s m payload)))) ≡ wrote n → n ≡ length (packet_of s m payload)
      by_tests true b h = absurd (let z : ◌≡◌ {A = ℕ} 0 1 = cc in omega arith)
      by_tests false true h = absurd (let z : ◌≡◌ {A = ℕ} 0 1 = cc in omega arith)
      by_tests false false h = cc

  written : (m : Message) (payload output : List ℕ) (n : ℕ) → (serialized s m payload output).answer ≡ wrote n → needed s m payload ≡ wrote n
  unfolding serialized sent needed
  written m payload output n e =
      by_tests (eqb (length payload) 0) (ltb max_length (length payload)) (ltb (length output) (length (packet_of s m payload))) e
    where
      outcome : Bool → Bool → Bool → Outcome
      outcome a b c = cond a (refuse s output 1) (cond b (refuse s output 2) (cond c (refuse s output 5) (accept s m payload s.max_chunk_size output)))

      by_tests : (a b c : Bool) → (outcome a b c).answer ≡ wrote n → cond a (refused 1) (cond b (refused 2) (wrote (length (packet_of s m payload)))) ≡ wrote n
      by_tests true b c h = h
      by_tests false true c h = h
      by_tests false false true h = absurd (let z : ◌≡◌ {A = ℕ} 0 1 = cc in omega arith)
      by_tests false false false h = h

is_chunks : (s : ChunkSerializer) (m : Message) (payload : List ℕ) → packet_of s m payload ≡ joined (chunks_for s m payload)
unfolding packet
is_chunks s m payload = refl

pub bounds : Bounds
bounds = record { is_chunks = is_chunks; count = count; most = most; unforced = unforced; answered = answered; written = written }
