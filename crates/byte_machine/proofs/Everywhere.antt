-- A byte of a header goes on within the header, is refused or opens the payload: what holds of these three holds of its step, whatever its field.
use Rattle.std.proofs.Common.{◌≡◌, ℕ, false, not, eqb, ltb, leb, [], ◌∷◌, Some, None, Option, refl}
use Rattle.chunk_header.specs.declared.ChunkHeaderFormat.{ChunkHeaderFormat}
use Rattle.chunk_header.specs.declared.HeaderField.{HeaderField}
use Rattle.chunk_header.specs.declared.HeaderField.TheVariants.{Timestamp, MessageLength as Length, MessageTypeId as TypeId, MessageStreamId as StreamId}
use Rattle.chunk_header.specs.Basic.{csid}
use Rattle.chunk_header.specs.Limits.{max_field}
use Rattle.chunk_header.specs.Table.{format_of}
use Rattle.chunk_meaning.specs.Meaning.{basic_refusal, first_refusal, later_refusal}
use Rattle.byte_machine.specs.Reader.{Go, Reader, Stage, Csid, CsidSecond, CsidThird, InitialTimestamp, MessageLength, MessageTypeId, MessageStreamId, ExtendedTimestamp, MessagePayload, Stepped, Unfinished, at, at_start, come_of, go, guard, in_payload, refuse}
use Rattle.byte_machine.specs.Header.{extended_next, lacks, length_next, opens, stage_of, stream_next, timestamp_next, type_next, whole}
use Rattle.byte_machine.specs.Rows.{row_count}
use Rattle.byte_machine.specs.Step.{basic_by, extended_field_step, length_field_step, named, stepped, stream_field_step, timestamp_field_step, type_field_step}
use Rattle.byte_machine.proofs.Passing.{at_length, at_stream, at_timestamp, at_type, either, tested}
use Rattle.byte_machine.specs.Setting.{Setting}
use Rattle.byte_machine.specs.Look.{Look}

-- a stage within a header: neither a chunk's start nor its payload
pub record Amid (stage : Stage) : Type 0 where
  pub begun : at_start stage ≡ false
  pub no_payload : in_payload stage ≡ false

-- a property of steps, of readers with this unfinished message: a header byte leaves that as it is
module _ (P : Stepped → Type 0) (m : Unfinished) (setting : Setting)
    (goes : (r : Reader) (place : ℕ) → r.message ≡ m → Amid r.stage → P (record { reader = r; event = Go; place = place }))
    (refuses : (r : Reader) (k : ℕ) → P (refuse r k))
    (opened : (r : Reader) (got : ℕ) → r.message ≡ m → got ≡ come_of m → P (opens setting.size r got)) where
  goes_to : (r : Reader) (stage : Stage) → r.message ≡ m → Amid stage → P (go (at r stage))
  goes_to r stage e a = goes (at r stage) _ e a

  within : (field : HeaderField) (n : ℕ) → Amid (stage_of field n)
  within Timestamp n = record { begun = refl; no_payload = refl }
  within Length n = record { begun = refl; no_payload = refl }
  within TypeId n = record { begun = refl; no_payload = refl }
  within StreamId n = record { begun = refl; no_payload = refl }

  -- the steps of a header, from its last field to its first
  at_whole : (r : Reader) (time : ℕ) → r.message ≡ m → P (whole setting r time)
  unfolding whole
  at_whole r time e =
      let k = first_refusal r.chunk.format r.chunk.header time setting.room in
      let j = later_refusal r.chunk.format r.chunk.before r.chunk.header time in
      tested P (eqb r.message.id 0)
      (λ q. either P (eqb k 0) (opened _ 0 e (rw (← e, q))) (refuses r k))
      (λ q. either P (eqb j 0) (opened _ r.message.got e (rw (← e, q))) (refuses r j))

  at_extended : (r : Reader) → r.message ≡ m → P (extended_next setting r)
  unfolding extended_next
  at_extended r e =
      either P (eqb r.chunk.header.timestamp_field max_field) (goes_to r (ExtendedTimestamp 0 4) e (record { begun = refl; no_payload = refl }))
      (at_whole r r.chunk.header.timestamp_field e)

  stops : (r : Reader) → r.message ≡ m → (field : HeaderField) → eqb (lacks r field) 0 ≡ false → P (go (at r (stage_of field (lacks r field))))
  stops r e field q = goes_to r (stage_of field (lacks r field)) e (within field (lacks r field))

  timestamp_at : (r : Reader) → r.message ≡ m → P (timestamp_next setting r)
  timestamp_at r e = at_timestamp P setting r (stops r e) (at_extended r e)

  length_at : (r : Reader) → r.message ≡ m → P (length_next setting r)
  length_at r e = at_length P setting r (stops r e) (at_extended r e)

  type_at : (r : Reader) → r.message ≡ m → P (type_next setting r)
  type_at r e = at_type P setting r (stops r e) (at_extended r e)

  stream_at : (r : Reader) → r.message ≡ m → P (stream_next setting r)
  stream_at r e = at_stream P setting r (stops r e) (at_extended r e)

  at_named : (said : Look) (r : Reader) (f : ChunkHeaderFormat) (id : ℕ) → r.message ≡ m → P (named setting said r f id)
  unfolding named
  at_named said r f id e =
      let k = basic_refusal f (ltb said.place row_count) (ltb said.unused row_count) (not (eqb r.message.id 0)) (eqb r.message.id id) in
      either P (eqb k 0)
      (either P (ltb said.place row_count) (timestamp_at _ e) (goes _ _ e (record { begun = refl; no_payload = refl })))
      (refuses r k)

  at_basic : (x : Option ℕ) (ask : ℕ → Look) (r : Reader) (f : ChunkHeaderFormat) (kept : Stage) → r.message ≡ m → Amid kept → P (basic_by x setting ask r f kept)
  at_basic (Some id) ask r f kept e a = at_named (ask id) r f id e
  at_basic None ask r f kept e a = goes_to r kept e a

  pub header_step : (stage : Stage) (ask : ℕ → Look) (r : Reader) (b : ℕ) → r.message ≡ m → P (stepped stage setting ask r b)
  unfolding timestamp_field_step length_field_step type_field_step stream_field_step extended_field_step
  header_step Csid ask r b e = at_basic (csid (b ∷ [])) ask r (format_of b) (CsidSecond b) e (record { begun = refl; no_payload = refl })
  header_step (CsidSecond x) ask r b e = at_basic (csid (x ∷ b ∷ [])) ask r (format_of x) (CsidThird x b) e (record { begun = refl; no_payload = refl })
  header_step (CsidThird x y) ask r b e = at_basic (csid (x ∷ y ∷ b ∷ [])) ask r (format_of x) (CsidThird x y) e (record { begun = refl; no_payload = refl })
  header_step (InitialTimestamp before n) ask r b e =
      either P (leb n 1) (length_at _ e) (goes_to r _ e (record { begun = refl; no_payload = refl }))
  header_step (MessageLength before n) ask r b e =
      either P (leb n 1) (type_at _ e) (goes_to r _ e (record { begun = refl; no_payload = refl }))
  header_step MessageTypeId ask r b e = stream_at _ e
  header_step (MessageStreamId before n) ask r b e = either P (leb n 1) (at_extended _ e) (goes_to r _ e (record { begun = refl; no_payload = refl }))
  header_step (ExtendedTimestamp before n) ask r b e = either P (leb n 1) (at_whole r _ e) (goes_to r _ e (record { begun = refl; no_payload = refl }))
  header_step MessagePayload ask r b e = refuses r guard
