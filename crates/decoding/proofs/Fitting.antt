-- A message fits from its first chunk on: a first chunk that does not is refused, and a later one says the same length.
use Rattle.std.proofs.Common.{◌≡◌, ℕ, ◌+◌, ◌-◌, ◌<◌, ◌≤◌, min, Bool, true, false, cond, not, eqb, ltb, leb, ◌≢◌, List, [], ◌∷◌, length, get_or, sym, refl, ◌∙◌, arith, ltb-false, ltb-true, lt-ltb, ne_eqb, eqb-true}
use borrow.Author.Tests.{eqb-false}
use Rattle.chunk_header.specs.declared.ChunkHeaderFormat.{ChunkHeaderFormat}
use Rattle.chunk_header.specs.declared.ChunkHeaderFormat.TheVariants.{Full, TimeDeltaWithoutMessageStreamId, TimeDeltaOnly, Empty}
use Rattle.chunk_header.specs.declared.HeaderField.{HeaderField}
use Rattle.chunk_header.specs.declared.HeaderField.TheVariants.{Timestamp, MessageLength as Length, MessageTypeId as TypeId, MessageStreamId as StreamId}
use Rattle.chunk_header.specs.Table.{field_length, format_of, index_of, type_of, is_empty, is_full}
use Rattle.decoding.specs.Decoder.{Decoder}
use Rattle.byte_machine.specs.Reader.{Go, Chunk, Message, Refuse, Reader, Stage, Csid, CsidSecond, CsidThird, InitialTimestamp, MessageLength, MessageTypeId, MessageStreamId, ExtendedTimestamp, MessagePayload, Stepped, at, current, ended, go, headed, in_payload, paused, reader, refuse, unfinished}
use Rattle.chunk_meaning.specs.Stored.{Row, fielded, lengthed, streamed, timed, typed}
use Rattle.byte_machine.specs.Payload.{landed, paid, pays}
use Rattle.byte_machine.specs.Step.{basic, basic_by, claims, extended_field_step, gathered, known, length_field_step, named, stepped, stream_field_step, timestamp_field_step, type_field_step}
use Rattle.fields.specs.Endian.{swapped}
use Rattle.byte_machine.specs.Header.{extended_next, lacks, length_next, opens, stage_of, stream_next, timestamp_next, type_next, whole}
use Rattle.chunk_meaning.specs.Meaning.{basic_refusal, first_refusal, later_refusal}
use Rattle.chunk_header.specs.Limits.{max_field}
use Rattle.byte_machine.specs.Rows.{find, free, put_at, put_row, row_at, row_count, table_length}
use Rattle.decoding.specs.Call.{step_of}
use Rattle.decoding.proofs.Runs.{pays_is}
use Rattle.chunk_meaning.proofs.Unrefused.{basic_small, first_fits, first_small, inside_tells, later_length, later_small}
use Rattle.byte_machine.proofs.Passing.{tested, at_stream, at_type, at_length, at_timestamp}
use Rattle.byte_machine.proofs.RowLaws.{Distinct, find_here, length_put, owns_within}
use Rattle.decoding.proofs.Sound.{Leaves, Sound, csid_used, in_payload_past, past}
use Rattle.fields.proofs.Tests.{clash, never}
use Rattle.byte_machine.specs.Setting.{Setting}
use Rattle.byte_machine.specs.Look.{look}

-- the fields that a chunk inside a message has only in a full header
abbrev pub early : Stage → Bool
early Csid = false
early (CsidSecond a) = false
early (CsidThird a b) = false
early (InitialTimestamp before lacks) = true
early (MessageLength before lacks) = true
early MessageTypeId = true
early (MessageStreamId before lacks) = true
early (ExtendedTimestamp before lacks) = false
early MessagePayload = false

-- the length that the row of an id says
abbrev pub length_of : List ℕ → ℕ → ℕ
length_of rows id = (row_at rows (find rows id)).message_length

-- a chunk inside a message of length L: its row says L, and without a full header so does the chunk
pub record Later (L : ℕ) (r : Reader) : Type 0 where
  pub before : r.chunk.before.message_length ≡ L
  pub empty : is_full r.chunk.format ≡ false → is_empty r.chunk.format ≡ true
  pub short : is_full r.chunk.format ≡ false → r.chunk.header.message_length ≡ L

-- payload comes: a byte at least, no more than the message lacks, and the message fits
pub record Paying (room L : ℕ) (r : Reader) : Type 0 where
  pub some : 0 < r.chunk.left
  pub ends : r.message.got + r.chunk.left ≤ r.chunk.header.message_length
  pub fits : r.chunk.header.message_length ≤ room
  pub own : r.message.id ≢ 0 → r.chunk.header.message_length ≡ L

-- a reader whose unfinished message, if there is one, has length L
pub record Fits (room L : ℕ) (r : Reader) : Type 0 where
  pub got : r.message.id ≢ 0 → r.message.got < L
  pub room_for : r.message.id ≢ 0 → L ≤ room
  pub later : past r.stage ≡ true → r.message.id ≢ 0 → Later L r
  pub full : early r.stage ≡ true → r.message.id ≢ 0 → is_full r.chunk.format ≡ true
  pub paying : in_payload r.stage ≡ true → Paying room L r

-- so is every reader outside a message and a payload
pub quiet_fits : (room L : ℕ) (r : Reader) → r.message.id ≡ 0 → in_payload r.stage ≡ false → Fits room L r
quiet_fits room L r e p = record {
  got = λ n. absurd (n e);
  room_for = λ n. absurd (n e);
  later = λ q n. absurd (n e);
  full = λ q n. absurd (n e);
  paying = λ q. clash p q;
}

-- the length matters only inside a message
fits_same : (room L L' : ℕ) (r : Reader) → (r.message.id ≢ 0 → L ≡ L') → Fits room L r → Fits room L' r
fits_same room L L' r e f = record {
  got = λ n. rw (e n) at (f.got n);
  room_for = λ n. rw (e n) at (f.room_for n);
  later = λ q n. rw (e n) at (f.later q n);
  full = f.full;
  paying = λ q. let p = f.paying q in record { some = p.some; ends = p.ends; fits = p.fits; own = λ n. p.own n ∙ e n };
}

-- what a step leaves: the length is that of the row it puts, if it puts one
pub record Fitting (room L m : ℕ) (s : Stepped) : Type 0 where
  pub fits : Fits room (cond (ltb s.place row_count) s.reader.chunk.header.message_length L) s.reader
  pub same : ltb s.place row_count ≡ false → s.reader.message.id ≢ 0 → s.reader.message.id ≡ m
  pub own : ltb s.place row_count ≡ true → s.reader.message.id ≢ 0 → s.reader.message.id ≡ s.reader.chunk.header.id
  pub guard : s.event ≢ Refuse 255

-- a reader in such a payload passes the guard
pub paying_pays : (room L : ℕ) (r : Reader) → Paying room L r → pays room r ≡ true
paying_pays room L r p =
    let ends = p.ends in
    let fits = p.fits in
    pays_is room r p.some (omega arith)

-- the other events are no refusal
go_is_not : Go ≢ Refuse 255
go_is_not e = let z : ◌≡◌ {A = ℕ} 0 1 = cc in omega arith

chunk_is_not : Chunk ≢ Refuse 255
chunk_is_not e = let z : ◌≡◌ {A = ℕ} 0 1 = cc in omega arith

message_is_not : Message ≢ Refuse 255
message_is_not e = let z : ◌≡◌ {A = ℕ} 0 1 = cc in omega arith

-- a format that has a field, inside a message, is full
has_field : (format : ChunkHeaderFormat) (field : HeaderField) → (is_full format ≡ false → is_empty format ≡ true)
    → eqb (field_length (type_of format) (index_of field)) 0 ≡ false
    → is_full format ≡ true
unfolding field_length
has_field Full field h e = refl
has_field TimeDeltaWithoutMessageStreamId field h e = never (h refl)
has_field TimeDeltaOnly field h e = never (h refl)
has_field Empty field h e = never (sym e ∙ none field)
  where
    none : (field : HeaderField) → eqb (field_length 3 (index_of field)) 0 ≡ true
    none Timestamp = refl
    none Length = refl
    none TypeId = refl
    none StreamId = refl

-- a field is no payload
no_payload : (field : HeaderField) (n : ℕ) → in_payload (stage_of field n) ≡ false
no_payload Timestamp n = refl
no_payload Length n = refl
no_payload TypeId n = refl
no_payload StreamId n = refl

-- so a header inside a message says its length
says : {L : ℕ} (r : Reader) → Later L r → (is_full r.chunk.format ≡ true → r.chunk.header.message_length ≡ r.chunk.before.message_length)
    → r.chunk.header.message_length ≡ L
says {L} r l h = by_cases (is_full r.chunk.format) refl
  where
    by_cases : (t : Bool) → is_full r.chunk.format ≡ t → r.chunk.header.message_length ≡ L
    by_cases true e = h e ∙ l.before
    by_cases false e = l.short e

-- another header of the same length
later_headed : (L : ℕ) (r : Reader) (h : Row) → h.message_length ≡ r.chunk.header.message_length → Later L r → Later L (headed r h)
later_headed L r h e k = record { before = k.before; empty = k.empty; short = λ z. e ∙ k.short z }

fits_headed : (room L : ℕ) (r : Reader) (h : Row) → h.message_length ≡ r.chunk.header.message_length → Fits room L r → Fits room L (headed r h)
fits_headed room L r h e f = record {
  got = f.got;
  room_for = f.room_for;
  later = λ q n. later_headed L r h e (f.later q n);
  full = f.full;
  paying = λ q. let p = f.paying q in record { some = p.some; ends = rw e p.ends; fits = rw e p.fits; own = λ n. e ∙ p.own n };
}

-- a length that is read, which inside a message only a full header has
later_lengthed : (L : ℕ) (r : Reader) (x : ℕ) → is_full r.chunk.format ≡ true → Later L r → Later L (headed r (lengthed r.chunk.header x))
later_lengthed L r x f k =
    record { before = k.before; empty = k.empty; short = λ z. clash z f }

fits_lengthed : (room L : ℕ) (r : Reader) (x : ℕ) → (r.message.id ≢ 0 → is_full r.chunk.format ≡ true) → in_payload r.stage ≡ false → Fits room L r
    → Fits room L (headed r (lengthed r.chunk.header x))
fits_lengthed room L r x full p f = record {
  got = f.got;
  room_for = f.room_for;
  later = λ q n. later_lengthed L r x (full n) (f.later q n);
  full = f.full;
  paying = λ q. clash p q;
}

-- the same reader at another stage
fits_at : (room L : ℕ) (r : Reader) (stage : Stage) → (past stage ≡ true → r.message.id ≢ 0 → Later L r)
    → (early stage ≡ true → r.message.id ≢ 0 → is_full r.chunk.format ≡ true)
    → in_payload stage ≡ false
    → Fits room L r
    → Fits room L (at r stage)
fits_at room L r stage later full p f = record {
  got = f.got;
  room_for = f.room_for;
  later = λ q n. let k = later q n in record { before = k.before; empty = k.empty; short = k.short };
  full = full;
  paying = λ q. clash p q;
}

module _ (setting : Setting) (L : ℕ) (some : 0 < setting.size) where
  abbrev room : ℕ
  room = setting.room

  abbrev size : ℕ
  size = setting.size

  go_fits : (r : Reader) → Fits room L r → Fitting room L r.message.id (go r)
  go_fits r f = record { fits = f; same = λ e n. refl; own = λ e n. never e; guard = go_is_not }

  refuse_fits : (r : Reader) (k : ℕ) → k ≤ 14 → Fits room L r → Fitting room L r.message.id (refuse r k)
  refuse_fits r k small f = record {
    fits = f;
    same = λ e n. refl;
    own = λ e n. never e;
    guard = λ e. let q : k ≡ 255 = cc in omega arith;
  }

  ended_fits : (r : Reader) (m : ℕ) → Fitting room L m (ended r)
  ended_fits r m = record { fits = quiet_fits room _ _ refl refl; same = λ e n. absurd (n refl); own = λ e n. absurd (n refl); guard = message_is_not }

  -- a payload opens
  opens_fits : (r : Reader) (got : ℕ) → r.chunk.header.message_length ≤ room
      → (r.chunk.header.message_length ≢ 0 → got < r.chunk.header.message_length)
      → (r.message.id ≢ 0 → r.chunk.header.message_length ≡ L) → (r.message.id ≢ 0 → Later L r)
      → Fitting room L r.message.id (opens size r got)
  unfolding opens
  opens_fits r got h g own later =
      let c = r.chunk in
      tested (Fitting room L r.message.id) (eqb c.header.message_length 0) (λ e. ended_fits r r.message.id)
      (λ e.
      let lacks = g (eqb-false _ _ e) in
      let left = min size (c.header.message_length - got) in
      let r' = reader MessagePayload (current c.format c.place c.before c.header left) (unfinished r.message.id got) in
      go_fits r' (record {
        got = λ n. rw (own n) at lacks;
        room_for = λ n. rw (own n) at h;
        later = λ q n. let k = later n in record { before = k.before; empty = k.empty; short = k.short };
        full = λ q n. never q;
        paying = λ q. record { some = omega arith; ends = omega arith; fits = h; own = own };
      }))

  whole_fits : (r : Reader) (time : ℕ) → Fits room L r → (r.message.id ≢ 0 → Later L r) → Fitting room L r.message.id (whole setting r time)
  unfolding whole
  whole_fits r time f later =
      let c = r.chunk in
      let k = first_refusal c.format c.header time room in
      let j = later_refusal c.format c.before c.header time in
      let P = Fitting room L r.message.id in
      tested P (eqb r.message.id 0)
      (λ e.
      let none = eqb-true r.message.id 0 e in
      tested P (eqb k 0)
      (λ z.
      opens_fits _ 0
      (first_fits c.format c.header time room (eqb-true k 0 z))
      (λ n. omega arith)
      (λ n. absurd (n none))
      (λ n. absurd (n none)))
      (λ z. refuse_fits r k (first_small c.format c.header time room) f))
      (λ e.
      let n = eqb-false r.message.id 0 e in
      let l = later n in
      tested P (eqb j 0)
      (λ z.
      let own = says r l (later_length c.format c.before c.header time (eqb-true j 0 z)) in
      let got = f.got n in
      let fit = f.room_for n in
      opens_fits _ r.message.got
      (omega arith)
      (λ m. omega arith)
      (λ m. own)
      (λ m. later_headed L r (timed c.header c.before.timestamp.value) refl l))
      (λ z. refuse_fits r j (later_small c.format c.before c.header time) f))

  extended_fits : (r : Reader) → Fits room L r → (r.message.id ≢ 0 → Later L r) → Fitting room L r.message.id (extended_next setting r)
  unfolding extended_next
  extended_fits r f later =
      tested (Fitting room L r.message.id) (eqb r.chunk.header.timestamp_field max_field)
      (λ e.
      go_fits (at r (ExtendedTimestamp 0 4))
      (fits_at room L r (ExtendedTimestamp 0 4) (λ q. later) (λ q n. never q) refl f))
      (λ e. whole_fits r r.chunk.header.timestamp_field f later)

  -- a field that the format has comes next
  stops_fit : (r : Reader) → Fits room L r → (r.message.id ≢ 0 → Later L r) → (field : HeaderField) → eqb (lacks r field) 0 ≡ false
      → Fitting room L r.message.id (go (at r (stage_of field (lacks r field))))
  stops_fit r f later field e =
      let stage = stage_of field (lacks r field) in
      go_fits (at r stage)
      (fits_at room L r stage (λ q. later) (λ q n. has_field r.chunk.format field (later n).empty e) (no_payload field (lacks r field)) f)

  stream_fits : (r : Reader) → Fits room L r → (r.message.id ≢ 0 → Later L r) → Fitting room L r.message.id (stream_next setting r)
  stream_fits r f later = at_stream (Fitting room L r.message.id) setting r (stops_fit r f later) (extended_fits r f later)

  type_fits : (r : Reader) → Fits room L r → (r.message.id ≢ 0 → Later L r) → Fitting room L r.message.id (type_next setting r)
  type_fits r f later = at_type (Fitting room L r.message.id) setting r (stops_fit r f later) (extended_fits r f later)

  length_fits : (r : Reader) → Fits room L r → (r.message.id ≢ 0 → Later L r) → Fitting room L r.message.id (length_next setting r)
  length_fits r f later = at_length (Fitting room L r.message.id) setting r (stops_fit r f later) (extended_fits r f later)

  timestamp_fits : (r : Reader) → Fits room L r → (r.message.id ≢ 0 → Later L r) → Fitting room L r.message.id (timestamp_next setting r)
  timestamp_fits r f later = at_timestamp (Fitting room L r.message.id) setting r (stops_fit r f later) (extended_fits r f later)

  -- a byte of payload
  paused_fits : (r : Reader) (got m : ℕ) → r.chunk.place < row_count → got < r.chunk.header.message_length → r.chunk.header.message_length ≤ room
      → Fitting room L m (paused r got)
  paused_fits r got m h g k =
      let e = lt-ltb r.chunk.place row_count h in
      let f : Fits room r.chunk.header.message_length (paused r got).reader = record {
        got = λ n. g;
        room_for = λ n. k;
        later = λ q n. never q;
        full = λ q n. never q;
        paying = λ q. never q;
      }
      in
      record { fits = rw e f; same = λ z n. clash z e; own = λ z n. refl; guard = chunk_is_not }

  landed_fits : (r : Reader) → r.chunk.place < row_count → in_payload r.stage ≡ true → Fits room L r → Fitting room L r.message.id (landed r 1)
  unfolding landed
  landed_fits r h p f =
      let P = Fitting room L r.message.id in
      let r' = paid r (r.message.got + 1) (r.chunk.left - 1) in
      let k = f.paying p in
      let ends = k.ends in
      let fits = k.fits in
      tested P (eqb (r.chunk.left - 1) 0)
      (λ e.
      tested P (ltb (r.message.got + 1) r.chunk.header.message_length)
      (λ z. paused_fits r' (r.message.got + 1) r.message.id h (ltb-true _ _ z) fits)
      (λ z. ended_fits r' r.message.id))
      (λ e.
      let left = eqb-false (r.chunk.left - 1) 0 e in
      go_fits r' (record {
        got = λ n. let own = k.own n in omega arith;
        room_for = f.room_for;
        later = λ q n. let l = f.later q n in record { before = l.before; empty = l.empty; short = l.short };
        full = f.full;
        paying = λ q. record { some = omega arith; ends = omega arith; fits = fits; own = k.own };
      }))

  -- a byte of a header past its basic header
  byte_fits : (stage : Stage) (rows : List ℕ) (r : Reader) (b : ℕ) → r.stage ≡ stage → past stage ≡ true → in_payload stage ≡ false → Fits room L r
      → Fitting room L r.message.id (stepped stage setting (look rows) r b)
  unfolding timestamp_field_step length_field_step type_field_step stream_field_step extended_field_step
  byte_fits Csid rows r b e p q f = never p
  byte_fits (CsidSecond a) rows r b e p q f = never p
  byte_fits (CsidThird a c) rows r b e p q f = never p
  byte_fits (InitialTimestamp before lacks) rows r b e p q f =
      let later = f.later (rw e) in
      let h = fielded r.chunk.header (gathered before b) in
      tested (Fitting room L r.message.id) (leb lacks 1) (λ z. length_fits _ (fits_headed room L r h refl f) (λ m. later_headed L r h refl (later m)))
      (λ z. go_fits _ (fits_at room L r _ (λ q. later) (λ q. f.full (rw e)) refl f))
  byte_fits (MessageLength before lacks) rows r b e p q f =
      let n = gathered before b in
      let later = f.later (rw e) in
      let full = f.full (rw e) in
      tested (Fitting room L r.message.id) (leb lacks 1)
      (λ z. type_fits _ (fits_lengthed room L r n full (rw e) f) (λ m. later_lengthed L r n (full m) (later m)))
      (λ z. go_fits _ (fits_at room L r _ (λ q. later) (λ q. full) refl f))
  byte_fits MessageTypeId rows r b e p q f =
      let h = typed r.chunk.header b in
      stream_fits _ (fits_headed room L r h refl f) (λ m. later_headed L r h refl (f.later (rw e) m))
  byte_fits (MessageStreamId before lacks) rows r b e p q f =
      let later = f.later (rw e) in
      let h = streamed r.chunk.header (swapped (gathered before b)) in
      tested (Fitting room L r.message.id) (leb lacks 1) (λ z. extended_fits _ (fits_headed room L r h refl f) (λ m. later_headed L r h refl (later m)))
      (λ z. go_fits _ (fits_at room L r _ (λ q. later) (λ q. f.full (rw e)) refl f))
  byte_fits (ExtendedTimestamp before lacks) rows r b e p q f =
      let later = f.later (rw e) in
      tested (Fitting room L r.message.id) (leb lacks 1) (λ z. whole_fits r (gathered before b) f later)
      (λ z. go_fits _ (fits_at room L r _ (λ q. later) (λ q n. never q) refl f))
  byte_fits MessagePayload rows r b e p q f = never (sym q)

-- so is a stage of such a field
early_past : (stage : Stage) → early stage ≡ true → past stage ≡ true
early_past Csid e = e
early_past (CsidSecond a) e = e
early_past (CsidThird a b) e = e
early_past (InitialTimestamp before lacks) e = refl
early_past (MessageLength before lacks) e = refl
early_past MessageTypeId e = refl
early_past (MessageStreamId before lacks) e = refl
early_past (ExtendedTimestamp before lacks) e = refl
early_past MessagePayload e = refl

-- a number that cannot be other than 0
not_not : (m : ℕ) → (m ≢ 0 → ⊥) → m ≡ 0
not_not m h = by_cases (eqb m 0) refl
  where
    by_cases : (t : Bool) → eqb m 0 ≡ t → m ≡ 0
    by_cases true e = eqb-true m 0 e
    by_cases false e = absurd (h (eqb-false m 0 e))

-- the last byte of a basic header
named_fits : (setting : Setting) (rows : List ℕ) (r : Reader) (format : ChunkHeaderFormat) (id : ℕ) → 0 < setting.size → id ≢ 0 → past r.stage ≡ false → Sound rows r
    → Fits setting.room (length_of rows r.message.id) r
    → Fitting setting.room (length_of rows r.message.id) r.message.id (named setting (look rows id) r format id)
unfolding named
named_fits setting rows r format id some n p s f =
    by_cases (ltb (find rows id) row_count) refl
    (basic_refusal format (ltb (find rows id) row_count) (ltb (free rows) row_count) (not (eqb r.message.id 0)) (eqb r.message.id id)) refl
  where
    tells : (u : Bool) → basic_refusal format u (ltb (free rows) row_count) (not (eqb r.message.id 0)) (eqb r.message.id id) ≡ 0 → r.message.id ≢ 0
        → (r.message.id ≡ id) × (is_full format ≡ false → is_empty format ≡ true)
    tells u e m =
        let k = inside_tells format u (ltb (free rows) row_count) (eqb r.message.id id) (rw (ne_eqb r.message.id 0 m) at e) in
        (eqb-true _ _ k.0, k.1)

    small : (u : Bool) {k : ℕ} → basic_refusal format u (ltb (free rows) row_count) (not (eqb r.message.id 0)) (eqb r.message.id id) ≡ k → k ≤ 14
    small u e = rw e at (basic_small format u (ltb (free rows) row_count) (not (eqb r.message.id 0)) (eqb r.message.id id))

    by_cases : (u : Bool) → ltb (find rows id) row_count ≡ u → (k : ℕ)
        → basic_refusal format u (ltb (free rows) row_count) (not (eqb r.message.id 0)) (eqb r.message.id id) ≡ k
        → Fitting setting.room (length_of rows r.message.id) r.message.id
        (cond (eqb k 0) (cond u (known setting r format (row_at rows (find rows id)) (find rows id)) (claims r format id (free rows))) (refuse r k))
    by_cases true g k e =
        tested (Fitting setting.room (length_of rows r.message.id) r.message.id) (eqb k 0)
        (λ z.
        let row = row_at rows (find rows id) in
        let r' = reader r.stage (current format (find rows id) row row 0) r.message in
        let later : r.message.id ≢ 0 → Later (length_of rows r.message.id) r' = λ m.
        let t = tells true (e ∙ eqb-true k 0 z) m in
        let same : length_of rows id ≡ length_of rows r.message.id = rw t.0 in
        record { before = same; empty = t.1; short = λ y. same }
        in
        timestamp_fits setting (length_of rows r.message.id) some r'
        (record {
          got = f.got;
          room_for = f.room_for;
          later = λ q. later;
          full = λ q m. clash p (early_past r.stage q);
          paying = λ q. clash p (in_payload_past r.stage q);
        })
        later)
        (λ z. refuse_fits setting (length_of rows r.message.id) some r k (small true e) f)
    by_cases false g k e =
        tested (Fitting setting.room (length_of rows r.message.id) r.message.id) (eqb k 0)
        (λ z.
        let none = ltb-false (find rows id) row_count g in
        let outside : r.message.id ≢ 0 → ⊥ = λ m.
        let t = tells false (e ∙ eqb-true k 0 z) m in
        let has = s.begun m in
        let has' : find rows id < row_count = rw t.0 at has in
        omega arith
        in
        record {
          fits = quiet_fits setting.room _ _ (not_not r.message.id outside) refl;
          same = λ y m. refl;
          own = λ y m. absurd (outside m);
          guard = go_is_not;
        })
        (λ z. refuse_fits setting (length_of rows r.message.id) some r k (small false e) f)

-- so the length that a step leaves is the one in the table
pub fitting_fits : (room : ℕ) (rows : List ℕ) (m : ℕ) (s : Stepped) → length rows ≡ table_length → Leaves rows s → Fitting room (length_of rows m) m s
    → Fits room (length_of (put_at rows s.place s.reader.chunk.header) s.reader.message.id) s.reader
fitting_fits room rows m s l = by_cases (ltb s.place row_count) refl
  where
    by_cases : (t : Bool) → ltb s.place row_count ≡ t → Leaves rows s → Fitting room (length_of rows m) m s
        → Fits room (length_of (put_at rows s.place s.reader.chunk.header) s.reader.message.id) s.reader
    by_cases true e k f =
        let h = ltb-true s.place row_count e in
        let rows' = put_row rows s.place s.reader.chunk.header in
        let d : Distinct rows' = rw e at k.distinct in
        let g : Fits room s.reader.chunk.header.message_length s.reader = rw e at f.fits in
        rw e (fits_same room s.reader.chunk.header.message_length (length_of rows' s.reader.message.id) s.reader
        (λ n.
        let own = f.own e n in
        let at_place : find rows' s.reader.message.id ≡ s.place = rw own (find_here rows s.place s.reader.chunk.header l h d (rw own at n)) in
        rw at_place (sym (length_put rows s.place s.reader.chunk.header l h))) g)
    by_cases false e k f =
        let g : Fits room (length_of rows m) s.reader = rw e at f.fits in
        rw e (fits_same room (length_of rows m) (length_of rows s.reader.message.id) s.reader (λ n. rw (f.same e n)) g)

-- a byte of a basic header
basic_fits : (setting : Setting) (rows : List ℕ) (r : Reader) (bytes : List ℕ) (kept : Stage) → past r.stage ≡ false → past kept ≡ false
    → 0 < setting.size
    → Sound rows r
    → Fits setting.room (length_of rows r.message.id) r
    → Fitting setting.room (length_of rows r.message.id) r.message.id (basic setting (look rows) r bytes kept)
basic_fits setting rows r bytes kept p q some s f =
    let L = length_of rows r.message.id in
    let format = format_of (get_or bytes 0 0) in
    csid_used (λ c. Fitting setting.room (length_of rows r.message.id) r.message.id (basic_by c setting (look rows) r format kept)) bytes
    (go_fits setting L some (at r kept) (record {
      got = f.got;
      room_for = f.room_for;
      later = λ z n. clash q z;
      full = λ z n. clash q (early_past kept z);
      paying = λ z. clash q (in_payload_past kept z);
    }))
    (λ id n. named_fits setting rows r format id some n p s f)

-- a byte, by the stage
stepped_fits : (stage : Stage) (setting : Setting) (rows : List ℕ) (r : Reader) (b : ℕ) → r.stage ≡ stage → in_payload stage ≡ false → 0 < setting.size → Sound rows r
    → Fits setting.room (length_of rows r.message.id) r
    → Fitting setting.room (length_of rows r.message.id) r.message.id (stepped stage setting (look rows) r b)
stepped_fits Csid setting rows r b e p some s f = basic_fits setting rows r (b ∷ []) (CsidSecond b) (rw e) refl some s f
stepped_fits (CsidSecond a) setting rows r b e p some s f = basic_fits setting rows r (a ∷ b ∷ []) (CsidThird a b) (rw e) refl some s f
stepped_fits (CsidThird a c) setting rows r b e p some s f = basic_fits setting rows r (a ∷ c ∷ b ∷ []) (CsidThird a c) (rw e) refl some s f
stepped_fits (InitialTimestamp before lacks) setting rows r b e p some s f = byte_fits setting _ some (InitialTimestamp before lacks) rows r b e refl refl f
stepped_fits (MessageLength before lacks) setting rows r b e p some s f = byte_fits setting _ some (MessageLength before lacks) rows r b e refl refl f
stepped_fits MessageTypeId setting rows r b e p some s f = byte_fits setting _ some MessageTypeId rows r b e refl refl f
stepped_fits (MessageStreamId before lacks) setting rows r b e p some s f = byte_fits setting _ some (MessageStreamId before lacks) rows r b e refl refl f
stepped_fits (ExtendedTimestamp before lacks) setting rows r b e p some s f = byte_fits setting _ some (ExtendedTimestamp before lacks) rows r b e refl refl f
stepped_fits MessagePayload setting rows r b e p some s f = never (sym p)

pub step_fits : (d : Decoder) (b : ℕ) → 0 < d.setting.size → Sound d.rows d.reader
    → Fits d.setting.room (length_of d.rows d.reader.message.id) d.reader
    → Fitting d.setting.room (length_of d.rows d.reader.message.id) d.reader.message.id (step_of d b)
unfolding step_of
step_fits d b some s f = by_cases (in_payload d.reader.stage) (pays d.setting.room d.reader) refl refl
  where
    by_cases : (t u : Bool) → in_payload d.reader.stage ≡ t → pays d.setting.room d.reader ≡ u
        → Fitting d.setting.room (length_of d.rows d.reader.message.id) d.reader.message.id
        (cond t (cond u (landed d.reader 1) (refuse d.reader 255)) (stepped d.reader.stage d.setting (look d.rows) d.reader b))
    by_cases true true e g =
        landed_fits d.setting _ some d.reader (owns_within (s.owns (in_payload_past d.reader.stage e))) e f
    by_cases true false e g = clash g (paying_pays d.setting.room _ d.reader (f.paying e))
    by_cases false u e g = stepped_fits d.reader.stage d.setting d.rows d.reader b refl e some s f
