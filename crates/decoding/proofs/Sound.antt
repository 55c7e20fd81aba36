-- A row is put over its own id, or over a free row with a new id, so in a table that calls can make no id occurs twice.
use Rattle.std.proofs.Common.{◌≡◌, ℕ, ◌+◌, ◌-◌, ◌*◌, ◌%◌, ◌<◌, ◌≤◌, Bool, true, false, cond, not, eqb, ltb, leb, ◌≢◌, List, [], ◌∷◌, length, get_or, Some, None, Option, sym, refl, ◌∙◌, arith, ltb-false, ltb-true, lt-ltb, eqb-true}
use borrow.Author.Tests.{eqb-false}
use Rattle.chunk_header.specs.declared.ChunkHeaderFormat.{ChunkHeaderFormat}
use Rattle.chunk_header.specs.Basic.{after_one, after_zero, csid}
use Rattle.chunk_header.specs.Table.{format_of}
use Rattle.decoding.specs.Decoder.{Decoder}
use Rattle.chunk_header.specs.declared.HeaderField.{HeaderField}
use Rattle.byte_machine.specs.Reader.{Reader, Stage, Csid, CsidSecond, CsidThird, InitialTimestamp, MessageLength, MessageTypeId, MessageStreamId, ExtendedTimestamp, MessagePayload, Stepped, at, current, ended, go, in_payload, paused, reader, refuse}
use Rattle.byte_machine.specs.Payload.{landed, paid, pays}
use Rattle.byte_machine.specs.Step.{basic, basic_by, claims, extended_field_step, known, length_field_step, named, stepped, stream_field_step, timestamp_field_step, type_field_step}
use Rattle.byte_machine.specs.Header.{stage_of, extended_next, lacks, length_next, opens, stream_next, timestamp_next, type_next, whole}
use Rattle.chunk_meaning.specs.Meaning.{basic_refusal, first_refusal, later_refusal}
use Rattle.chunk_header.specs.Limits.{max_field}
use Rattle.chunk_meaning.specs.Stored.{claimed}
use Rattle.byte_machine.specs.Rows.{find, free, put_at, put_row, row_at, row_count, table_length}
use Rattle.decoding.specs.Call.{step_of}
use Rattle.chunk_meaning.proofs.Unrefused.{claims_free}
use Rattle.fields.proofs.Tests.{clash, never}
use Rattle.byte_machine.proofs.Passing.{at_stream, at_type, at_length, at_timestamp, either}
use Rattle.byte_machine.proofs.RowLaws.{Distinct, Owns, find_tells, found_owns, length_put_row, new_distinct, new_found, new_owns, own_distinct, own_found, own_owns, owns_found}
use Rattle.byte_machine.specs.Setting.{Setting}
use Rattle.byte_machine.specs.Look.{look}

-- the basic header is whole: a field of the header comes, or payload
abbrev pub past : Stage → Bool
past Csid = false
past (CsidSecond a) = false
past (CsidThird a b) = false
past (InitialTimestamp before lacks) = true
past (MessageLength before lacks) = true
past MessageTypeId = true
past (MessageStreamId before lacks) = true
past (ExtendedTimestamp before lacks) = true
past MessagePayload = true

-- an id that is not 0 has a row
abbrev pub HasRow : List ℕ → ℕ → Type 0
HasRow rows id = id ≢ 0 → find rows id < row_count

-- a table of distinct ids; a message that has begun has a row, and so has the chunk that is read
pub record Sound (rows : List ℕ) (r : Reader) : Type 0 where
  pub long : length rows ≡ table_length
  pub distinct : Distinct rows
  pub begun : HasRow rows r.message.id
  pub owns : past r.stage ≡ true → Owns rows r.chunk.place r.chunk.header.id

-- a step keeps to the row of its chunk: what it puts has its id and its place
pub record Stays (rows : List ℕ) (place id : ℕ) (s : Stepped) : Type 0 where
  pub same_place : s.reader.chunk.place ≡ place
  pub same_id : s.reader.chunk.header.id ≡ id
  pub puts : s.place < row_count → (s.place ≡ place) × (s.reader.chunk.header.id ≡ id)
  pub begun : HasRow rows s.reader.message.id

-- such a step leaves the table sound
stays_sound : (rows : List ℕ) (place id : ℕ) (s : Stepped) → length rows ≡ table_length → Distinct rows → Owns rows place id → Stays rows place id s
    → Sound (put_at rows s.place s.reader.chunk.header) s.reader
stays_sound rows place id s l d o k = by_cases (ltb s.place row_count) refl
  where
    by_cases : (t : Bool) → ltb s.place row_count ≡ t → Sound (cond t (put_row rows s.place s.reader.chunk.header) rows) s.reader
    by_cases true e =
        let h = ltb-true s.place row_count e in
        let p = (k.puts h).0 in
        let own : Owns rows s.place s.reader.chunk.header.id = rw (p, (k.puts h).1) o in
        record {
          long = length_put_row rows s.place s.reader.chunk.header ∙ l;
          distinct = own_distinct rows s.place s.reader.chunk.header l d own;
          begun = λ n. own_found rows s.place s.reader.chunk.header l d own s.reader.message.id (k.begun n);
          owns = λ z. rw (k.same_place ∙ sym p) (own_owns rows s.place s.reader.chunk.header l d own);
        }
    by_cases false e = record {
      long = l;
      distinct = d;
      begun = k.begun;
      owns = λ z. rw (k.same_place, k.same_id) o;
    }

-- the steps of a header whose basic header is whole, and of a payload, stay at their chunk's row
abbrev StaysAt : List ℕ → Reader → Stepped → Type 0
StaysAt rows r s = Stays rows r.chunk.place r.chunk.header.id s

module _ (rows : List ℕ) where
  go_stays : (r : Reader) → HasRow rows r.message.id → StaysAt rows r (go r)
  go_stays r h = record { same_place = refl; same_id = refl; puts = λ l. absurd (omega arith); begun = h }

  refuse_stays : (r : Reader) (k : ℕ) → HasRow rows r.message.id → StaysAt rows r (refuse r k)
  refuse_stays r k h = record { same_place = refl; same_id = refl; puts = λ l. absurd (omega arith); begun = h }

  ended_stays : (r : Reader) → StaysAt rows r (ended r)
  ended_stays r = record { same_place = refl; same_id = refl; puts = λ l. (refl, refl); begun = λ n. absurd (n refl) }

  paused_stays : (r : Reader) (got : ℕ) → HasRow rows r.chunk.header.id → StaysAt rows r (paused r got)
  paused_stays r got h = record { same_place = refl; same_id = refl; puts = λ l. (refl, refl); begun = h }

  landed_stays : (r : Reader) (n : ℕ) → HasRow rows r.message.id → HasRow rows r.chunk.header.id → StaysAt rows r (landed r n)
  unfolding landed
  landed_stays r n h o =
      let got = r.message.got + n in
      let r' = paid r got (r.chunk.left - n) in
      either (StaysAt rows r) (eqb (r.chunk.left - n) 0)
      (either (StaysAt rows r) (ltb got r.chunk.header.message_length) (paused_stays r' got o) (ended_stays r'))
      (go_stays r' h)

  opens_stays : (size : ℕ) (r : Reader) (got : ℕ) → HasRow rows r.message.id → StaysAt rows r (opens size r got)
  unfolding opens
  opens_stays size r got h = either (StaysAt rows r) (eqb r.chunk.header.message_length 0) (ended_stays r) (go_stays _ h)

  whole_stays : (setting : Setting) (r : Reader) (time : ℕ) → HasRow rows r.message.id → StaysAt rows r (whole setting r time)
  unfolding whole
  whole_stays setting r time h =
      let c = r.chunk in
      let k = first_refusal c.format c.header time setting.room in
      let j = later_refusal c.format c.before c.header time in
      either (StaysAt rows r) (eqb r.message.id 0)
      (either (StaysAt rows r) (eqb k 0) (opens_stays setting.size _ 0 h) (refuse_stays r k h))
      (either (StaysAt rows r) (eqb j 0) (opens_stays setting.size _ r.message.got h) (refuse_stays r j h))

  extended_stays : (setting : Setting) (r : Reader) → HasRow rows r.message.id → StaysAt rows r (extended_next setting r)
  unfolding extended_next
  extended_stays setting r h =
      either (StaysAt rows r) (eqb r.chunk.header.timestamp_field max_field) (go_stays (at r (ExtendedTimestamp 0 4)) h)
      (whole_stays setting r r.chunk.header.timestamp_field h)

  -- the next field
  stops_stay : (r : Reader) → HasRow rows r.message.id → (field : HeaderField) → eqb (lacks r field) 0 ≡ false
      → StaysAt rows r (go (at r (stage_of field (lacks r field))))
  stops_stay r h field e = go_stays (at r (stage_of field (lacks r field))) h

  stream_stays : (setting : Setting) (r : Reader) → HasRow rows r.message.id → StaysAt rows r (stream_next setting r)
  stream_stays setting r h = at_stream (StaysAt rows r) setting r (stops_stay r h) (extended_stays setting r h)

  type_stays : (setting : Setting) (r : Reader) → HasRow rows r.message.id → StaysAt rows r (type_next setting r)
  type_stays setting r h = at_type (StaysAt rows r) setting r (stops_stay r h) (extended_stays setting r h)

  length_stays : (setting : Setting) (r : Reader) → HasRow rows r.message.id → StaysAt rows r (length_next setting r)
  length_stays setting r h = at_length (StaysAt rows r) setting r (stops_stay r h) (extended_stays setting r h)

  timestamp_stays : (setting : Setting) (r : Reader) → HasRow rows r.message.id → StaysAt rows r (timestamp_next setting r)
  timestamp_stays setting r h = at_timestamp (StaysAt rows r) setting r (stops_stay r h) (extended_stays setting r h)

  -- a byte of a header, past its basic header
  field_stays : (stage : Stage) (setting : Setting) (r : Reader) (b : ℕ) → past stage ≡ true → HasRow rows r.message.id
      → StaysAt rows r (stepped stage setting (look rows) r b)
  unfolding timestamp_field_step length_field_step type_field_step stream_field_step extended_field_step
  field_stays Csid setting r b p h = never p
  field_stays (CsidSecond a) setting r b p h = never p
  field_stays (CsidThird a c) setting r b p h = never p
  field_stays (InitialTimestamp before lacks) setting r b p h = either (StaysAt rows r) (leb lacks 1) (length_stays setting _ h) (go_stays _ h)
  field_stays (MessageLength before lacks) setting r b p h = either (StaysAt rows r) (leb lacks 1) (type_stays setting _ h) (go_stays _ h)
  field_stays MessageTypeId setting r b p h = stream_stays setting _ h
  field_stays (MessageStreamId before lacks) setting r b p h = either (StaysAt rows r) (leb lacks 1) (extended_stays setting _ h) (go_stays _ h)
  field_stays (ExtendedTimestamp before lacks) setting r b p h = either (StaysAt rows r) (leb lacks 1) (whole_stays setting r _ h) (go_stays _ h)
  field_stays MessagePayload setting r b p h = refuse_stays r 255 h

-- a basic header that is whole gives an id other than 0
pub csid_used : (P : Option ℕ → Type 0) (bytes : List ℕ) → P None → ((id : ℕ) → id ≢ 0 → P (Some id)) → P (csid bytes)
unfolding csid
csid_used P [] more whole = more
csid_used P (b ∷ bs) more whole = by_cases (eqb (b % 64) 0) (eqb (b % 64) 1) refl bs
  where
    by_cases : (t u : Bool) → eqb (b % 64) 0 ≡ t → (rest : List ℕ) → P (cond t (after_zero rest) (cond u (after_one rest) (Some (b % 64))))
    by_cases true u e [] = more
    by_cases true u e (x ∷ xs) = whole (x + 64) (λ z. omega arith)
    by_cases false true e [] = more
    by_cases false true e (x ∷ []) = more
    by_cases false true e (x ∷ y ∷ xs) = whole (256 * y + x + 64) (λ z. omega arith)
    by_cases false false e rest = whole (b % 64) (eqb-false _ _ e)

-- a step leaves a sound table
abbrev pub Leaves : List ℕ → Stepped → Type 0
Leaves rows s = Sound (put_at rows s.place s.reader.chunk.header) s.reader

-- a reader that waits for more of a basic header asks only for the row of its message
waits_sound : (rows : List ℕ) (r r' : Reader) → past r'.stage ≡ false → r'.message.id ≡ r.message.id → Sound rows r → Sound rows r'
waits_sound rows r r' p e s = record {
  long = s.long;
  distinct = s.distinct;
  begun = rw e s.begun;
  owns = λ q. clash p q;
}

-- an id that has no row gets the first free one
claims_sound : (rows : List ℕ) (r : Reader) (format : ChunkHeaderFormat) (id : ℕ) → Sound rows r → id ≢ 0 → row_count ≤ find rows id → free rows < row_count
    → Leaves rows (claims r format id (free rows))
claims_sound rows r format id s n none h =
    let p = free rows in
    let c = claimed id in
    let l = s.long in
    let rows' : Sound (put_row rows p c) (claims r format id p).reader = record {
      long = length_put_row rows p c ∙ l;
      distinct = new_distinct rows id l n none h s.distinct;
      begun = λ m. new_found rows id l n none h r.message.id m (s.begun m);
      owns = λ q. new_owns rows id l n none h;
    }
    in
    rw (lt-ltb p row_count h) rows'

-- the last byte of a basic header
named_sound : (setting : Setting) (rows : List ℕ) (r : Reader) (format : ChunkHeaderFormat) (id : ℕ) → Sound rows r → past r.stage ≡ false → id ≢ 0
    → Leaves rows (named setting (look rows id) r format id)
unfolding named
named_sound setting rows r format id s p n =
    let inside = not (eqb r.message.id 0) in
    let own = eqb r.message.id id in
    by_cases (ltb (find rows id) row_count) refl (basic_refusal format (ltb (find rows id) row_count) (ltb (free rows) row_count) inside own) refl
  where
    by_cases : (u : Bool) → ltb (find rows id) row_count ≡ u → (k : ℕ)
        → basic_refusal format u (ltb (free rows) row_count) (not (eqb r.message.id 0)) (eqb r.message.id id) ≡ k
        → Leaves rows (cond (eqb k 0) (cond u (known setting r format (row_at rows (find rows id)) (find rows id)) (claims r format id (free rows))) (refuse r k))
    by_cases true f k e = stop (eqb k 0)
      where
        at_row : Owns rows (find rows id) (row_at rows (find rows id)).id
        at_row = let h : find rows id < row_count = ltb-true _ _ f in rw (find_tells rows id h) (found_owns rows id n h)

        stop : (t : Bool) → Leaves rows (cond t (known setting r format (row_at rows (find rows id)) (find rows id)) (refuse r k))
        stop true =
            let row = row_at rows (find rows id) in
            let r' = reader r.stage (current format (find rows id) row row 0) r.message in
            stays_sound rows _ _ _ s.long s.distinct at_row (timestamp_stays rows setting r' s.begun)
        stop false = waits_sound rows r r p refl s
    by_cases false f k e = stop (eqb k 0) refl
      where
        stop : (t : Bool) → eqb k 0 ≡ t → Leaves rows (cond t (claims r format id (free rows)) (refuse r k))
        stop true z =
            let none = ltb-false (find rows id) row_count f in
            let other : not (eqb r.message.id 0) ≡ true → eqb r.message.id id ≡ true → ⊥ = λ a b.
            let q = eqb-true r.message.id id b in
            let m : find rows r.message.id < row_count = s.begun (rw q n) in
            let o : find rows id < row_count = rw q at m in
            omega arith
            in
            let unused = claims_free format (ltb (free rows) row_count) (not (eqb r.message.id 0)) (eqb r.message.id id) other (e ∙ eqb-true k 0 z) in
            claims_sound rows r format id s n none (ltb-true _ _ unused)
        stop false z = waits_sound rows r r p refl s

-- a byte of a basic header
basic_sound : (setting : Setting) (rows : List ℕ) (r : Reader) (bytes : List ℕ) (kept : Stage) → Sound rows r → past r.stage ≡ false → past kept ≡ false
    → Leaves rows (basic setting (look rows) r bytes kept)
basic_sound setting rows r bytes kept s p q =
    let format = format_of (get_or bytes 0 0) in
    csid_used (λ c. Leaves rows (basic_by c setting (look rows) r format kept)) bytes (waits_sound rows r (at r kept) q refl s)
    (λ id n. named_sound setting rows r format id s p n)

-- the chunk that is read has a row
owned : (rows : List ℕ) (r : Reader) → Owns rows r.chunk.place r.chunk.header.id → HasRow rows r.chunk.header.id
owned rows r o n = owns_found o

-- a byte of a header past its basic header
field_sound : (stage : Stage) (setting : Setting) (rows : List ℕ) (r : Reader) (b : ℕ) → past r.stage ≡ true → past stage ≡ true → Sound rows r
    → Leaves rows (stepped stage setting (look rows) r b)
field_sound stage setting rows r b p q s =
    stays_sound rows _ _ _ s.long s.distinct (s.owns p) (field_stays rows stage setting r b q s.begun)

-- a byte, by the stage
stepped_sound : (stage : Stage) (setting : Setting) (rows : List ℕ) (r : Reader) (b : ℕ) → r.stage ≡ stage → Sound rows r
    → Leaves rows (stepped stage setting (look rows) r b)
stepped_sound Csid setting rows r b e s = basic_sound setting rows r (b ∷ []) (CsidSecond b) s (rw e) refl
stepped_sound (CsidSecond a) setting rows r b e s = basic_sound setting rows r (a ∷ b ∷ []) (CsidThird a b) s (rw e) refl
stepped_sound (CsidThird a c) setting rows r b e s = basic_sound setting rows r (a ∷ c ∷ b ∷ []) (CsidThird a c) s (rw e) refl
stepped_sound (InitialTimestamp before lacks) setting rows r b e s = field_sound (InitialTimestamp before lacks) setting rows r b (rw e) refl s
stepped_sound (MessageLength before lacks) setting rows r b e s = field_sound (MessageLength before lacks) setting rows r b (rw e) refl s
stepped_sound MessageTypeId setting rows r b e s = field_sound MessageTypeId setting rows r b (rw e) refl s
stepped_sound (MessageStreamId before lacks) setting rows r b e s = field_sound (MessageStreamId before lacks) setting rows r b (rw e) refl s
stepped_sound (ExtendedTimestamp before lacks) setting rows r b e s = field_sound (ExtendedTimestamp before lacks) setting rows r b (rw e) refl s
stepped_sound MessagePayload setting rows r b e s = field_sound MessagePayload setting rows r b (rw e) refl s

-- a stage of payload is past the basic header
pub in_payload_past : (stage : Stage) → in_payload stage ≡ true → past stage ≡ true
in_payload_past Csid e = e
in_payload_past (CsidSecond a) e = e
in_payload_past (CsidThird a b) e = e
in_payload_past (InitialTimestamp before lacks) e = refl
in_payload_past (MessageLength before lacks) e = refl
in_payload_past MessageTypeId e = refl
in_payload_past (MessageStreamId before lacks) e = refl
in_payload_past (ExtendedTimestamp before lacks) e = refl
in_payload_past MessagePayload e = refl

-- a byte
pub step_sound : (d : Decoder) (b : ℕ) → Sound d.rows d.reader → Leaves d.rows (step_of d b)
unfolding step_of
step_sound d b s = by_cases (in_payload d.reader.stage) (pays d.setting.room d.reader) refl
  where
    by_cases : (t u : Bool) → in_payload d.reader.stage ≡ t
        → Leaves d.rows
        (cond t (cond u (landed d.reader 1) (refuse d.reader 255)) (stepped d.reader.stage d.setting (look d.rows) d.reader b))
    by_cases true true e =
        let o = s.owns (in_payload_past d.reader.stage e) in
        stays_sound d.rows _ _ _ s.long s.distinct o (landed_stays d.rows d.reader 1 s.begun (owned d.rows d.reader o))
    by_cases true false e = s
    by_cases false u e = stepped_sound d.reader.stage d.setting d.rows d.reader b refl s
