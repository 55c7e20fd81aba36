-- What the encoder remembers of a stream, as what was said on it last, and the time field on the wire.
use Rattle.std.proofs.Common.{ℕ, ◌^◌, ◌≤◌, ◌<◌, min, ◌≡◌, refl, Bool, true, false, cond, List, arith, ltb, ltb-true, ltb-false}
use mathlib.Core.Option.{Option, some}
use Rattle.chunk_header.specs.declared.ChunkHeader.{ChunkHeader}
use Rattle.chunk_header.specs.declared.ChunkHeaderFormat.{ChunkHeaderFormat}
use Rattle.chunk_header.specs.declared.ChunkHeaderFormat.TheVariants.{Full, TimeDeltaWithoutMessageStreamId, TimeDeltaOnly, Empty}
use Rattle.chunk_header.specs.Layout.{Chunk, absent, present, HeaderFits}
use Rattle.serializer.specs.Packet.{extended, message_header}
use Rattle.chunk_header.specs.Limits.{max_field}
use Rattle.decoding.specs.Decoder.{Decoder}
use Rattle.decoding.specs.Chunk.{basic_refused, header_refused}
use Rattle.stream_meaning.specs.Stream.{Said, Stream, ThereWhere, number, said, saying, time, Fits as FitsStream}
use Rattle.stream_meaning.specs.View.{viewed}

-- its time field is the wire's
abbrev pub said_by : ChunkHeader → Said
said_by h = said h.timestamp.value (min h.timestamp_field max_field) h.message_length h.message_type_id h.message_stream_id

-- a stream on which that was said last
abbrev pub stands : ChunkHeader → (come : Option (List ℕ)) → Stream
stands h come = record { stored = some (said_by h); come = come }

-- the numbers of a header fit their fields
pub record Fits (h : ChunkHeader) : Type 0 where
  pub id_least : 2 ≤ h.chunk_stream_id
  pub id_most : h.chunk_stream_id ≤ 6
  pub time : h.timestamp.value < 2 ^ 32
  pub field : h.timestamp_field < 2 ^ 32
  pub length : h.message_length < 2 ^ 24
  pub type : h.message_type_id < 2 ^ 8
  pub stream : h.message_stream_id < 2 ^ 32

-- the number that a chunk says of the time is all 32 bits of the field
pub number_field : (field wire : ℕ) → wire ≡ min field max_field → number (extended field) wire ≡ field
number_field field wire e = by_cases (ltb field max_field) refl
  where
    by_cases : (t : Bool) → ltb field max_field ≡ t → number (cond t absent (present field)) wire ≡ field
    by_cases true q = omega (arith, e, ltb-true field max_field q)
    by_cases false q = refl

-- and it is extended exactly where the field on the wire is 16777215
pub extended_there : (field wire : ℕ) → wire ≡ min field max_field → field < 2 ^ 32 → ThereWhere (extended field) wire
extended_there field wire e h = by_cases (ltb field max_field) refl
  where
    by_cases : (t : Bool) → ltb field max_field ≡ t → ThereWhere (cond t absent (present field)) wire
    by_cases true q = λ z. omega (arith, z, e, ltb-true field max_field q)
    by_cases false q = (omega (arith, e, ltb-false field max_field q), h)

-- each number of a chunk's header fits its field
pub fields_fit : (f : ChunkHeaderFormat) (h : ChunkHeader) → Fits h → HeaderFits (message_header f h)
fields_fit Full h k = (omega arith, k.length, k.type, k.stream)
fields_fit TimeDeltaWithoutMessageStreamId h k = (omega arith, k.length, k.type)
fields_fit TimeDeltaOnly h k = omega arith
fields_fit Empty h k = tt

-- what a chunk leaves said is what the encoder remembers
abbrev pub Says : Stream → Chunk → ChunkHeader → Type 0
Says s c h = said (time s c) (saying s c).field (saying s c).length (saying s c).type (saying s c).stream ≡ said_by h

-- a chunk that its stream and the decoder take
pub record Taken (d : Decoder) (buffer : List ℕ) (c : Chunk) (h : ChunkHeader) : Type 0 where
  pub says : Says (viewed d buffer c.id) c h
  pub fits : FitsStream d.setting.size (viewed d buffer c.id) c
  pub basic : basic_refused d c ≡ 0
  pub head : header_refused d c ≡ 0
