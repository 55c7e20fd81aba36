-- A packet is read back: its chunks, one after the other, hand out its message.
use Rattle.std.proofs.Common.{ℕ, zero, suc, ◌+◌, ◌≤◌, ◌<◌, min, ◌≡◌, refl, sym, ap, subst, ◌∙◌, Bool, true, false, List, [], ◌++◌, append_assoc, append-nil, le_trans, not-suc-le-zero, arith, ltb, length, take, drop, length-append, length-drop, length-take, take-append-drop, drop_of_length-le, take_all, ltb-true, ltb-false}
use mathlib.Core.Option.{Option, none, some, get_or}
use Rattle.chunk_header.specs.declared.ChunkHeader.{ChunkHeader}
use Rattle.chunk_header.specs.declared.ChunkHeaderFormat.{ChunkHeaderFormat}
use Rattle.chunk_header.specs.Layout.{Chunk, chunk_bytes}
use Rattle.serializer.specs.Packet.{chunk, later_format}
use Rattle.serializer.proofs.Later.{later, later_none, later_step}
use Rattle.decoding.specs.Decoder.{Decoder}
use Rattle.decoding.specs.Answer.{message as found, more}
use Rattle.decoding.specs.Call.{Outcome, next}
use Rattle.decoding.specs.Calls.{Ready}
use Rattle.decoding.proofs.Cut.{feed_append}
use Rattle.stream_meaning.specs.Stream.{Stream, earlier}
use Rattle.stream_meaning.specs.Taking.{fed}
use Rattle.stream_meaning.specs.View.{viewed}
use Rattle.round_trip.proofs.Later.{later_chunk}
use Rattle.round_trip.proofs.Taking.{At, at_then, chunk_ends, chunk_goes_on}
use Rattle.round_trip.proofs.Wire.{Fits, Taken, stands}

-- the bytes, in one call, hand out the message of a header with this payload, and no message is unfinished on its stream
pub record Reads (d : Decoder) (buffer : List ℕ) (h : ChunkHeader) (payload bytes : List ℕ) : Type 0 where
  pub answer : (next d bytes buffer).answer ≡ found h.message_type_id h.message_stream_id h.timestamp.value (length payload) (length bytes)
  pub holds : take (length payload) (next d bytes buffer).payload ≡ payload
  pub at : At d buffer h none (next d bytes buffer).deserializer (next d bytes buffer).payload

-- a chunk that only asks for more, and then the others
then_others : {d : Decoder} {buffer : List ℕ} {h : ChunkHeader} {come : Option (List ℕ)} (c : Chunk) (all others : List ℕ)
    → (fed d buffer c).answer ≡ more (length (chunk_bytes c))
    → At d buffer h come (fed d buffer c).deserializer (fed d buffer c).payload
    → Reads (fed d buffer c).deserializer (fed d buffer c).payload h all others
    → Reads d buffer h all (chunk_bytes c ++ others)
then_others {d} {buffer} {h} c all others e a r =
    let o = sym (feed_append d (chunk_bytes c) others buffer (length (chunk_bytes c)) e) in
    record {
      answer = ap (λ (x : Outcome). x.answer) (sym o) ∙ (rw (r.answer, length-append (chunk_bytes c) others));
      holds = subst (λ (x : Outcome). take (length all) x.payload ≡ all) o r.holds;
      at = subst (λ (x : Outcome). At d buffer h none x.deserializer x.payload) o (at_then a r.at);
    }

-- a chunk with the first of the bytes ys that are left, after the bytes xs that have come
module _ {d : Decoder} {buffer : List ℕ} (f g : ChunkHeaderFormat) (h : ChunkHeader) (size : ℕ) (xs ys : List ℕ) (k : Fits h) (some_size : 0 < size) (r : Ready d buffer)
    (t : Taken d buffer (chunk f h (take size ys)) h) (so_far : earlier (viewed d buffer h.chunk_stream_id) (chunk f h (take size ys)) ≡ xs)
    (left : length xs + length ys ≡ h.message_length) where
  abbrev c : Chunk
  c = chunk f h (take size ys)

  abbrev o : Outcome
  o = fed d buffer c

  abbrev others : List ℕ
  others = later g h size (drop size ys)

  abbrev ReadOthers : Type 0
  ReadOthers = At d buffer h (some (xs ++ take size ys)) o.deserializer o.payload → Reads o.deserializer o.payload h (xs ++ ys) others

  now : length (xs ++ take size ys) ≡ length xs + min size (length ys)
  now = rw (length-append, length-take)

  goes : size < length ys → ReadOthers → Reads d buffer h (xs ++ ys) (chunk_bytes c ++ others)
  goes less next-ones =
      let w = rw so_far at (chunk_goes_on f h (take size ys) r k t) in
      let q = w (omega (arith, now, less, left)) in
      then_others c (xs ++ ys) others q.0 q.1 (next-ones q.1)

  ends : length ys ≤ size → Reads d buffer h (xs ++ ys) (chunk_bytes c ++ others)
  ends all =
      let z : chunk_bytes c ++ others ≡ chunk_bytes c = rw (drop_of_length-le ys {i = size} all, later_none g h size some_size) (append-nil (chunk_bytes c)) in
      let p : xs ++ take size ys ≡ xs ++ ys = ap (λ (l : List ℕ). xs ++ l) (take_all size ys all) in
      let w = rw (so_far, p) at (chunk_ends f h (take size ys) r k t) in
      let q = w (rw length-append (omega (arith, left))) in
      rw z (record { answer = q.0; holds = q.1; at = q.2 })

  pub chunk_then : (size < length ys → ReadOthers) → Reads d buffer h (xs ++ ys) (chunk_bytes c ++ others)
  chunk_then next-ones = by_length (ltb size (length ys)) refl
    where
      by_length : (b : Bool) → ltb size (length ys) ≡ b → Reads d buffer h (xs ++ ys) (chunk_bytes c ++ others)
      by_length true e = let less = ltb-true size (length ys) e in goes less (next-ones less)
      by_length false e = ends (ltb-false size (length ys) e)

-- the later chunks, for as many bytes as are left
module _ (h : ChunkHeader) (k : Fits h) (forced : Bool) (time : forced ≡ true → h.timestamp_field ≡ h.timestamp.value) (size : ℕ) (some_size : 0 < size) where
  abbrev g : ChunkHeaderFormat
  g = later_format forced

  -- one of them, given how the others are read
  next_reads : (d : Decoder) (buffer xs ys : List ℕ) → Ready d buffer → viewed d buffer h.chunk_stream_id ≡ stands h (some xs) → d.setting.size ≡ size
      → length xs + length ys ≡ h.message_length
      → 0 < length ys
      → (size < length ys → (d' : Decoder) (buffer' : List ℕ) → At d buffer h (some (xs ++ take size ys)) d' buffer'
      → Reads d' buffer' h ((xs ++ take size ys) ++ drop size ys) (later g h size (drop size ys)))
      → Reads d buffer h (xs ++ ys) (later g h size ys)
  next_reads d buffer xs ys r seen e l p others =
      let m : length (take size ys) ≡ min size (length ys) = length-take size ys in
      let t = later_chunk h (take size ys) xs k d buffer seen forced time (omega (arith, m, e, l)) in
      let whole : (xs ++ take size ys) ++ drop size ys ≡ xs ++ ys = append_assoc xs (take size ys) (drop size ys) ∙ ap (λ (z : List ℕ). xs ++ z) (take-append-drop size ys) in
      rw (later_step g h size ys some_size p)
      (chunk_then g g h size xs ys k some_size r t (ap (λ (s : Stream). get_or s.come []) seen) l (λ less a. rw whole at (others less _ _ a)))

  -- what is left after it
  left_adds : (xs ys : List ℕ) → length xs + length ys ≡ h.message_length → size < length ys → length (xs ++ take size ys) + length (drop size ys) ≡ h.message_length
  left_adds xs ys l less = rw (length-append, length-take, length-drop) (omega (arith, l, less))

  left_some : (ys : List ℕ) → size < length ys → 0 < length (drop size ys)
  left_some ys less = rw length-drop (omega (arith, less))

  left_less : (ys : List ℕ) (b : ℕ) → length ys ≤ suc b → length (drop size ys) ≤ b
  left_less ys b q = rw length-drop (omega (arith, q, some_size))

  pub later_reads : (b : ℕ) (d : Decoder) (buffer xs ys : List ℕ) → Ready d buffer → viewed d buffer h.chunk_stream_id ≡ stands h (some xs)
      → d.setting.size ≡ size
      → length xs + length ys ≡ h.message_length
      → 0 < length ys
      → length ys ≤ b
      → Reads d buffer h (xs ++ ys) (later g h size ys)
  later_reads zero d buffer xs ys r seen e l p q = absurd (not-suc-le-zero (le_trans p q))
  later_reads (suc b) d buffer xs ys r seen e l p q =
      next_reads d buffer xs ys r seen e l p
      (λ less d' buffer' a. later_reads b d' buffer' (xs ++ take size ys) (drop size ys) a.ready a.mine (a.size ∙ e) (left_adds xs ys l less) (left_some ys less) (left_less ys b q))
