-- The first chunk of a message is taken: where it leaves a number out, what was said last on its stream says it.
use Rattle.std.proofs.Common.{ℕ, ◌^◌, ◌≤◌, ◌<◌, min, ◌≡◌, refl, sym, ap, ◌∙◌, Bool, true, false, ◌&&◌, inl, inr, List, arith, ltb, eqb, length, eq-eqb, ne_eqb, le-ltb, lt-ltb, ltb-true}
use Rattle.std.proofs.Math.Bool.{and-false}
use mathlib.Core.Option.{none, some}
use Rattle.fields.proofs.Tests.{equal, itself, not_decides, not_not, one_of, tested}
use Rattle.time.specs.Clock.{sum}
use Rattle.time.proofs.Laws.{sum_comm, sum_difference}
use Rattle.chunk_header.specs.declared.ChunkHeader.{ChunkHeader}
use Rattle.chunk_header.specs.declared.ChunkHeaderFormat.{ChunkHeaderFormat}
use Rattle.chunk_header.specs.declared.ChunkHeaderFormat.TheVariants.{Full, TimeDeltaWithoutMessageStreamId, TimeDeltaOnly, Empty}
use Rattle.chunk_header.specs.Layout.{Chunk}
use Rattle.chunk_header.specs.Limits.{max_field}
use Rattle.serializer.specs.declared.format.Message.{Message}
use Rattle.serializer.specs.Header.{delta, format, header_by}
use Rattle.serializer.specs.Message.{chunk_stream}
use Rattle.serializer.specs.Packet.{chunk, extended}
use Rattle.serializer.proofs.Stream.{stream_range}
use Rattle.chunk_meaning.specs.Stored.{Row}
use Rattle.chunk_meaning.specs.Meaning.{first_refusal, basic_refusal}
use Rattle.byte_machine.specs.Rows.{free, row_count}
use Rattle.decoding.specs.Decoder.{Decoder}
use Rattle.decoding.specs.Chunk.{basic_refused, header}
use Rattle.stream_meaning.specs.Stream.{Said, Stream, saying, Fits as FitsStream}
use Rattle.stream_meaning.specs.View.{viewed}
use Rattle.stream_meaning.proofs.Seeing.{number_is, saying_is}
use Rattle.round_trip.proofs.Held.{Spare, free_some, seen_there}
use Rattle.round_trip.proofs.Wire.{Fits, Says, Taken, extended_there, fields_fit, number_field, said_by}

-- by a field that is on the wire 13 is not given, nor 14 where the length is at most the room
first_taken : (f : ChunkHeaderFormat) (r : Row) (field room : ℕ) → r.timestamp_field ≡ min field max_field → r.message_length ≤ room
    → first_refusal f r field room ≡ 0
unfolding first_refusal
first_taken f r field room e h = rw (by_cases (ltb field max_field) refl, and-false, le-ltb room r.message_length h)
  where
    by_cases : (t : Bool) → ltb field max_field ≡ t → (eqb r.timestamp_field max_field && ltb field max_field) ≡ false
    by_cases true q = rw (ne_eqb r.timestamp_field max_field (λ z. omega (arith, z, e, ltb-true field max_field q)))
    by_cases false q = rw (q, and-false)

-- what is remembered of a stream is not droppable, and the message goes on the same message stream
pub record GoesOn (m : Message) (previous : ChunkHeader) : Type 0 where
  pub stream : previous.chunk_stream_id ≡ chunk_stream m.type_id
  pub undroppable : previous.can_be_dropped ≡ false
  pub same : m.stream_id ≡ previous.message_stream_id

-- why a format was chosen
pub data Chosen (m : Message) (previous : ChunkHeader) : ChunkHeaderFormat → Type 0 where
  full : Chosen m previous Full
  without_stream : GoesOn m previous → Chosen m previous TimeDeltaWithoutMessageStreamId
  delta_only : GoesOn m previous → m.type_id ≡ previous.message_type_id → m.length ≡ previous.message_length → Chosen m previous TimeDeltaOnly
  empty : GoesOn m previous → m.type_id ≡ previous.message_type_id → m.length ≡ previous.message_length
      → delta m previous ≡ previous.timestamp_field
      → Chosen m previous Empty

not-true : {t : Bool} → ¬ (t ≡ true) → t ≡ false
not-true {t = true} n = absurd (n refl)
not-true {t = false} n = refl

pub chosen : (m : Message) (previous : ChunkHeader) → Chosen m previous (format m previous)
unfolding format
chosen m previous =
    let remembered = equal previous.chunk_stream_id (chunk_stream m.type_id) in
    let stream = equal m.stream_id previous.message_stream_id in
    let type = equal m.type_id previous.message_type_id in
    let length = equal m.length previous.message_length in
    let field = equal (delta m previous) previous.timestamp_field in
    tested (Chosen m previous) (one_of (itself m.force_uncompressed) (one_of (not_decides remembered) (itself previous.can_be_dropped))) (λ p. full)
    (λ n. tested (Chosen m previous) (not_decides stream) (λ p. full)
    (λ s. let g : GoesOn m previous = record { stream = not_not remembered (λ z. n (inr (inl z))); undroppable = not-true (λ z. n (inr (inr z))); same = not_not stream s } in
    tested (Chosen m previous) (one_of (not_decides type) (not_decides length)) (λ p. without_stream g)
    (λ t. let a = not_not type (λ z. t (inl z)) in
    let b = not_not length (λ z. t (inr z)) in
    tested (Chosen m previous) (not_decides field) (λ p. delta_only g a b) (λ f. empty g a b (not_not field f)))))

-- a first chunk to its stream, on which no message is unfinished, and which has what is remembered where the message goes on
module _ (m : Message) (previous : ChunkHeader) (piece : List ℕ) where
  abbrev first : ChunkHeaderFormat → Chunk
  first f = chunk f (header_by f m previous) piece

  abbrev wire : ChunkHeaderFormat → ℕ
  wire f = min (header_by f m previous).timestamp_field max_field

  -- the delta added to the time before it is the time
  time_is : m.timestamp.value < 2 ^ 32 → previous.timestamp.value < 2 ^ 32 → sum previous.timestamp.value (delta m previous) ≡ m.timestamp.value
  unfolding delta
  time_is t h = sum_comm previous.timestamp.value (delta m previous) ∙ sum_difference m.timestamp.value previous.timestamp.value t h

  module _ (s : Stream) (outside : s.come ≡ none) (knows : GoesOn m previous → s.stored ≡ some (said_by previous)) where
    field_is : (f : ChunkHeaderFormat) → Chosen m previous f → (saying s (first f)).field ≡ wire f
    field_is Full full = refl
    field_is TimeDeltaWithoutMessageStreamId (without_stream g) = refl
    field_is TimeDeltaOnly (delta_only g a b) = refl
    field_is Empty (empty g a b c) = rw (knows g, c)

    says_first : (f : ChunkHeaderFormat) → Chosen m previous f → m.timestamp.value < 2 ^ 32 → previous.timestamp.value < 2 ^ 32 → Says s (first f) (header_by f m previous)
    unfolding delta
    says_first Full full t h = rw (outside, number_field m.timestamp.value (wire Full) refl)
    says_first TimeDeltaWithoutMessageStreamId (without_stream g) t h =
        rw (outside, number_field (delta m previous) (wire TimeDeltaOnly) refl, knows g, time_is t h, ← g.same)
    says_first TimeDeltaOnly (delta_only g a b) t h =
        rw (outside, number_field (delta m previous) (wire TimeDeltaOnly) refl, knows g, time_is t h, ← g.same, ← a, ← b)
    says_first Empty (empty g a b c) t h =
        rw (outside, number_field (delta m previous) (saying s (first Empty)).field (field_is Empty (empty g a b c)), knows g, time_is t h, ← g.same, ← a, ← b, ← c)

    fits_first : (f : ChunkHeaderFormat) (size : ℕ) → Chosen m previous f → Fits (header_by f m previous) → previous.timestamp.value < 2 ^ 32
        → length piece ≡ min size m.length
        → FitsStream size s (first f)
    fits_first f size c k h e = record {
      head = record {
        form = (k.id_least, omega (arith, k.id_most));
        fields = fields_fit f (header_by f m previous) k;
        extended = extended_there (header_by f m previous).timestamp_field _ (field_is f c) k.field;
      };
      payload_of = let l = ap (λ (x : Said). x.length) (says_first f c k.time h) in rw outside (omega (arith, e, l));
    }

  -- and to a decoder between messages
  module _ (d : Decoder) (buffer : List ℕ) (between : d.reader.message.id ≡ 0) (spare : Spare d.rows)
      (knows : GoesOn m previous → (viewed d buffer (chunk_stream m.type_id)).stored ≡ some (said_by previous)) where
    abbrev seen : Stream
    seen = viewed d buffer (chunk_stream m.type_id)

    pub outside : seen.come ≡ none
    outside = rw (ne_eqb d.reader.message.id (chunk_stream m.type_id) (λ e. omega (arith, e, between, (stream_range m.type_id).0)))

    basic_first : (f : ChunkHeaderFormat) → Chosen m previous f → basic_refused d (first f) ≡ 0
    unfolding basic_refusal
    basic_first Full full = rw (eq-eqb d.reader.message.id 0 between, lt-ltb (free d.rows) row_count (free_some d.rows spare), and-false)
    basic_first TimeDeltaWithoutMessageStreamId (without_stream g) = rw (eq-eqb d.reader.message.id 0 between, seen_there d.rows _ (knows g))
    basic_first TimeDeltaOnly (delta_only g a b) = rw (eq-eqb d.reader.message.id 0 between, seen_there d.rows _ (knows g))
    basic_first Empty (empty g a b c) = rw (eq-eqb d.reader.message.id 0 between, seen_there d.rows _ (knows g))

    pub first_chunk_lem : (f : ChunkHeaderFormat) → Chosen m previous f → Fits (header_by f m previous) → previous.timestamp.value < 2 ^ 32 → m.length ≤ d.setting.room
        → length piece ≡ min d.setting.size m.length
        → Taken d buffer (first f) (header_by f m previous)
    first_chunk_lem f c k t h e =
        let says = says_first seen outside knows f c k.time t in
        let is = sym (saying_is d buffer (first f)) in
        let field : (header d (first f)).timestamp_field ≡ wire f = ap (λ (x : Said). x.field) is ∙ field_is seen outside knows f c in
        let long : (header d (first f)).message_length ≡ m.length = ap (λ (x : Said). x.length) is ∙ ap (λ (x : Said). x.length) says in
        record {
          says = says;
          fits = fits_first seen outside knows f d.setting.size c k t e;
          basic = basic_first f c;
          head =
              rw (eq-eqb d.reader.message.id 0 between, ← number_is (extended (header_by f m previous).timestamp_field) (header d (first f)), number_field (header_by f m previous).timestamp_field _ field)
              (first_taken _ (header d (first f)) (header_by f m previous).timestamp_field d.setting.room field (omega (arith, long, h)));
        }
