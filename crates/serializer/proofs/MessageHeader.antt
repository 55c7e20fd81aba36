-- A message header is its format's fields, one straight after the other.
use Rattle.std.proofs.Common.{◌≡◌, ℕ, List, ◌++◌, sym, ap, arith}
use Rattle.chunk_header.specs.declared.ChunkHeader.{ChunkHeader}
use Rattle.chunk_header.specs.declared.ChunkHeaderFormat.{ChunkHeaderFormat}
use Rattle.chunk_header.specs.declared.ChunkHeaderFormat.TheVariants.{Full, TimeDeltaWithoutMessageStreamId, TimeDeltaOnly, Empty}
use Rattle.chunk_header.specs.Layout.{header_bytes}
use Rattle.chunk_header.specs.Table.{type_of, field_length, header_length}
use Rattle.fields.specs.Endian.{big_endian, little_endian}
use Rattle.serializer.specs.declared.cursor.Cursor.{Cursor}
use Rattle.serializer.specs.Cursor.{Added, HasRoom}
use Rattle.serializer.specs.Packet.{initial_time, message_header}
use Rattle.serializer.proofs.Added.{added_none, added_same, added_then}

-- the fields, as the encoder has them
abbrev pub time_bytes : ChunkHeader → List ℕ
time_bytes h = big_endian 3 (initial_time h.timestamp_field)

abbrev pub length_type_bytes : ChunkHeader → List ℕ
length_type_bytes h = big_endian 3 h.message_length ++ big_endian 1 h.message_type_id

abbrev pub stream_bytes : ChunkHeader → List ℕ
stream_bytes h = little_endian 4 h.message_stream_id

module _ (c : Cursor) (f : ChunkHeaderFormat) (h : ChunkHeader) (fits : HasRoom c (header_length (type_of f))) where
  header_of : {c' : Cursor} (g : ChunkHeaderFormat) → f ≡ g → Added c (header_bytes (message_header g h)) c' → Added c (header_bytes (message_header f h)) c'
  header_of g e a = added_same (ap (λ (x : ChunkHeaderFormat). header_bytes (message_header x h)) (sym e)) a

  pub empty_added : f ≡ Empty → Added c (header_bytes (message_header f h)) c
  empty_added e = header_of Empty e (added_none c)

  pub time_added : {c' : Cursor} → f ≡ TimeDeltaOnly → Added c (time_bytes h) c' → Added c (header_bytes (message_header f h)) c'
  time_added e a = header_of TimeDeltaOnly e a

  pub no_stream_added : {c' c'' : Cursor} → f ≡ TimeDeltaWithoutMessageStreamId → Added c (time_bytes h) c' → Added c' (length_type_bytes h) c''
      → Added c (header_bytes (message_header f h)) c''
  unfolding big_endian header_length field_length
  no_stream_added e a b =
      header_of TimeDeltaWithoutMessageStreamId e (added_then (time_bytes h) (length_type_bytes h) a b (omega (arith, a.adds.place, rw e at fits)))

  pub full_added : {c' c'' c''' : Cursor} → f ≡ Full → Added c (time_bytes h) c' → Added c' (length_type_bytes h) c'' → Added c'' (stream_bytes h) c'''
      → Added c (header_bytes (message_header f h)) c'''
  unfolding big_endian little_endian header_length field_length
  full_added {c''} e a b d =
      let before = time_bytes h ++ length_type_bytes h in
      let first : Added c before c'' = added_then (time_bytes h) (length_type_bytes h) a b (omega (arith, a.adds.place, rw e at fits)) in
      header_of Full e (added_then before (stream_bytes h) first d (omega (arith, first.adds.place, rw e at fits)))
