-- A byte keeps the one bound that numbers need: the second byte of a basic header of three is a byte.
use Rattle.std.proofs.Common.{◌≡◌, refl, ℕ, ◌-◌, ◌<◌, Bool, true, false, cond, not, List, [], ◌∷◌, eqb, leb, ltb, get_or, Option, Some, None, Result, arith}
use Rattle.chunk_header.specs.declared.ChunkHeaderFormat.{ChunkHeaderFormat}
use Rattle.chunk_header.specs.declared.HeaderField.{HeaderField}
use Rattle.chunk_header.specs.declared.HeaderField.TheVariants.{Timestamp, MessageLength as Length, MessageTypeId as TypeId, MessageStreamId as StreamId}
use Rattle.chunk_header.specs.Basic.{csid}
use Rattle.chunk_header.specs.Table.{format_of}
use Rattle.chunk_meaning.specs.Meaning.{basic_refusal, first_refusal, first_time, later_refusal}
use Rattle.chunk_meaning.specs.Stored.{fielded, lengthed, streamed, timed, typed}
use Rattle.fields.specs.Endian.{swapped}
use Rattle.chunk_header.specs.Limits.{max_field}
use Rattle.byte_machine.specs.Reader.{Reader, Stage, Csid, CsidSecond, CsidThird, InitialTimestamp, MessageLength, MessageTypeId, MessageStreamId, ExtendedTimestamp, MessagePayload, Stepped, at, go, headed, reading, refuse}
use Rattle.byte_machine.specs.Header.{extended_next, lacks, opens, stage_of, whole}
use Rattle.byte_machine.specs.Rows.{find, free, row_at, row_count}
use Rattle.byte_machine.specs.Step.{basic_by, claims, extended_field_step, gathered, length_field_step, named, stepped, stream_field_step, timestamp_field_step, type_field_step}
use Rattle.byte_machine.proofs.Passing.{at_length, at_stream, at_timestamp, at_type, either}
use Rattle.decoding.specs.Call.{after, is_refusal}
use Rattle.held.specs.declared.done.ChunkRefusal.{ChunkRefusal}
use Rattle.held.specs.declared.done.Event.{Event as HeldEvent}
use Rattle.header_in_place.specs.Byte.{Left, step_in}
use Rattle.held.specs.Numbers.{decode}
use Rattle.held.proofs.Again.{decode_encode, from_small, third}
use Rattle.byte_machine.specs.Setting.{Setting}
use Rattle.byte_machine.specs.Look.{look}

record Small (s : Stepped) : Type 0 where
  is : third s.reader.stage < 256

small : {s : Stepped} → third s.reader.stage < 256 → Small s
small h = record { is = h }

none : {s : Stepped} → third s.reader.stage ≡ 0 → Small s
none e = record { is = omega (arith, e) }

opens_small : (size : ℕ) (r : Reader) (got : ℕ) → Small (opens size r got)
unfolding opens
opens_small size r got = either Small (eqb r.chunk.header.message_length 0) (none refl) (none refl)

stops_small : (r : Reader) (field : HeaderField) (n : ℕ) → Small (go (at r (stage_of field n)))
stops_small r Timestamp n = (none refl)
stops_small r Length n = (none refl)
stops_small r TypeId n = (none refl)
stops_small r StreamId n = (none refl)

module _ (setting : Setting) where
  whole_small : (r : Reader) → third r.stage < 256 → (time : ℕ) → Small (whole setting r time)
  unfolding whole
  whole_small r h time =
      let c = r.chunk in
      let k = first_refusal c.format c.header time setting.room in
      let j = later_refusal c.format c.before c.header time in
      either Small (eqb r.message.id 0)
      (either Small (eqb k 0) (opens_small setting.size (headed r (timed c.header (first_time c.format c.before.timestamp.value time))) 0) (small {s = refuse r k} h))
      (either Small (eqb j 0) (opens_small setting.size (headed r (timed c.header c.before.timestamp.value)) r.message.got) (small {s = refuse r j} h))

  extended_small : (r : Reader) → third r.stage < 256 → Small (extended_next setting r)
  unfolding extended_next
  extended_small r h = either Small (eqb r.chunk.header.timestamp_field max_field) (none {s = go (at r (ExtendedTimestamp 0 4))} refl) (whole_small r h r.chunk.header.timestamp_field)

  module _ (r : Reader) (h : third r.stage < 256) where
    named_small : (rows : List ℕ) (format : ChunkHeaderFormat) (id : ℕ) → Small (named setting (look rows id) r format id)
    unfolding named
    named_small rows format id =
        let place = find rows id in
        let k = basic_refusal format (ltb place row_count) (ltb (free rows) row_count) (not (eqb r.message.id 0)) (eqb r.message.id id) in
        let there = reading r format place (row_at rows place) (row_at rows place) in
        either Small (eqb k 0)
        (either Small (ltb place row_count) (at_timestamp Small setting there (λ field e. stops_small there field (lacks there field)) (extended_small there h)) (none {s = claims r format id (free rows)} refl))
        (small {s = refuse r k} h)

    basic_small : (read : Option ℕ) (rows : List ℕ) (format : ChunkHeaderFormat) (kept : Stage) → third kept < 256 → Small (basic_by read setting (look rows) r format kept)
    basic_small (Some id) rows format kept k = named_small rows format id
    basic_small None rows format kept k = small k

    stepped_small : (st : Stage) (rows : List ℕ) (b : ℕ) → third st < 256 → b < 256 → Small (stepped st setting (look rows) r b)
    unfolding timestamp_field_step length_field_step type_field_step stream_field_step extended_field_step
    stepped_small Csid rows b s k = basic_small (csid (b ∷ [])) rows (format_of b) (CsidSecond b) (omega arith)
    stepped_small (CsidSecond a) rows b s k = basic_small (csid (a ∷ b ∷ [])) rows (format_of a) (CsidThird a b) k
    stepped_small (CsidThird a c) rows b s k = basic_small (csid (a ∷ c ∷ b ∷ [])) rows (format_of a) (CsidThird a c) s
    stepped_small (InitialTimestamp n l) rows b s k =
        let w = headed r (fielded r.chunk.header (gathered n b)) in
        either Small (leb l 1) (at_length Small setting w (λ field e. stops_small w field (lacks w field)) (extended_small w h)) (none {s = go (at r (InitialTimestamp (gathered n b) (l - 1)))} refl)
    stepped_small (MessageLength n l) rows b s k =
        let w = headed r (lengthed r.chunk.header (gathered n b)) in
        either Small (leb l 1) (at_type Small setting w (λ field e. stops_small w field (lacks w field)) (extended_small w h)) (none {s = go (at r (MessageLength (gathered n b) (l - 1)))} refl)
    stepped_small MessageTypeId rows b s k =
        let w = headed r (typed r.chunk.header b) in
        at_stream Small setting w (λ field e. stops_small w field (lacks w field)) (extended_small w h)
    stepped_small (MessageStreamId n l) rows b s k = either Small (leb l 1) (extended_small (headed r (streamed r.chunk.header (swapped (gathered n b)))) h) (none {s = go (at r (MessageStreamId (gathered n b) (l - 1)))} refl)
    stepped_small (ExtendedTimestamp n l) rows b s k = either Small (leb l 1) (whole_small r h (gathered n b)) (none {s = go (at r (ExtendedTimestamp (gathered n b) (l - 1)))} refl)
    stepped_small MessagePayload rows b s k = small h

-- so the numbers that a byte leaves mean the definition's decoder after it
pub left_means : (event : Result HeldEvent ChunkRefusal) (held rows held' rows' : List ℕ) (b : ℕ) → b < 256
    → Left event held' rows' (decode held rows) (step_in (decode held rows) b)
    → decode held' rows' ≡ after (decode held rows) (step_in (decode held rows) b)
unfolding after
left_means event held rows held' rows' b k left =
    let d = decode held rows in
    let s = step_in d b in
    let low = from_small (get_or held 3 0) (get_or held 4 0) (get_or held 5 0) in
    let kept : third (after d s).reader.stage < 256 = by_cases (is_refusal s.event) d.reader s.reader low (stepped_small d.setting d.reader low d.reader.stage rows b low k).is in
    rw (left.numbers, left.table) (decode_encode (after d s) kept)
  where
    by_cases : (t : Bool) (r r' : Reader) → third r.stage < 256 → third r'.stage < 256 → third (cond t r r').stage < 256
    by_cases true r r' p q = p
    by_cases false r r' p q = q
