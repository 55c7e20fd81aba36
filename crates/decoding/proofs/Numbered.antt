-- No refusal has the number 0: so a call that is refused by its bytes leaves a decoder that is closed.
use Rattle.std.proofs.Common.{◌≡◌, ℕ, ◌+◌, ◌-◌, Bool, true, false, cond, not, eqb, ltb, leb, ◌≢◌, List, [], ◌∷◌, Some, None, Option, sym, refl, ◌∙◌, arith}
use borrow.Author.Tests.{eqb-false}
use Rattle.chunk_header.specs.declared.ChunkHeaderFormat.{ChunkHeaderFormat}
use Rattle.chunk_header.specs.declared.HeaderField.TheVariants.{Timestamp, MessageLength as Length, MessageTypeId as TypeId, MessageStreamId as StreamId}
use Rattle.byte_machine.specs.Reader.{Event, Go, Chunk, Message, Refuse, Reader, Stage, Csid, CsidSecond, CsidThird, InitialTimestamp, MessageLength, MessageTypeId, MessageStreamId, ExtendedTimestamp, MessagePayload, Stepped, in_payload, refuse}
use Rattle.byte_machine.specs.Header.{extended_next, lacks, length_next, opens, stream_next, timestamp_next, type_next, whole}
use Rattle.byte_machine.specs.Payload.{landed, pays}
use Rattle.byte_machine.specs.Rows.{row_count}
use Rattle.chunk_meaning.specs.Meaning.{basic_refusal, first_refusal, later_refusal}
use Rattle.chunk_header.specs.Basic.{csid}
use Rattle.chunk_header.specs.Limits.{max_field}
use Rattle.byte_machine.specs.Step.{basic_by, extended_field_step, length_field_step, named, stepped, stream_field_step, timestamp_field_step, type_field_step}
use Rattle.decoding.specs.Decoder.{Decoder}
use Rattle.decoding.specs.Answer.{refused}
use Rattle.decoding.specs.Call.{Outcome, after, closes, end, run, step_of, writes}
use Rattle.byte_machine.specs.Setting.{Setting}
use Rattle.byte_machine.specs.Look.{look, Look}

-- a step that is not refused with the number 0
record Numbered (s : Stepped) : Type 0 where
  number : (k : ℕ) → s.event ≡ Refuse k → k ≢ 0

either : (t : Bool) (x y : Stepped) → Numbered x → Numbered y → Numbered (cond t x y)
either true x y p q = p
either false x y p q = q

goes : (r : Reader) (place : ℕ) → Numbered (record { reader = r; event = Go; place = place })
goes r place = record { number = λ k e. absurd (let z : ◌≡◌ {A = ℕ} 0 1 = cc in omega arith) }

pauses : (r : Reader) (place : ℕ) → Numbered (record { reader = r; event = Chunk; place = place })
pauses r place = record { number = λ k e. absurd (let z : ◌≡◌ {A = ℕ} 0 1 = cc in omega arith) }

ends : (r : Reader) (place : ℕ) → Numbered (record { reader = r; event = Message; place = place })
ends r place = record { number = λ k e. absurd (let z : ◌≡◌ {A = ℕ} 0 1 = cc in omega arith) }

refuses : (r : Reader) (j : ℕ) → j ≢ 0 → Numbered (refuse r j)
refuses r j n = record { number = λ k e z. let q : j ≡ k = cc in n (q ∙ z) }

tested : (k : ℕ) (r : Reader) (x : Stepped) → Numbered x → Numbered (cond (eqb k 0) x (refuse r k))
tested k r x p = by_test (eqb k 0) refl
  where
    by_test : (t : Bool) → eqb k 0 ≡ t → Numbered (cond t x (refuse r k))
    by_test true e = p
    by_test false e = refuses r k (eqb-false k 0 e)

module _ (setting : Setting) where
  opens_numbered : (r : Reader) (got : ℕ) → Numbered (opens setting.size r got)
  unfolding opens
  opens_numbered r got = either (eqb r.chunk.header.message_length 0) _ _ (ends _ _) (goes _ _)

  whole_numbered : (r : Reader) (time : ℕ) → Numbered (whole setting r time)
  unfolding whole
  whole_numbered r time = either (eqb r.message.id 0) _ _ (tested (first_refusal r.chunk.format r.chunk.header time setting.room) r _ (opens_numbered _ _)) (tested (later_refusal r.chunk.format r.chunk.before r.chunk.header time) r _ (opens_numbered _ _))

  extended_numbered : (r : Reader) → Numbered (extended_next setting r)
  unfolding extended_next
  extended_numbered r = either (eqb r.chunk.header.timestamp_field max_field) _ _ (goes _ _) (whole_numbered r _)

  stream_numbered : (r : Reader) → Numbered (stream_next setting r)
  unfolding stream_next
  stream_numbered r = either (eqb (lacks r StreamId) 0) _ _ (extended_numbered r) (goes _ _)

  type_numbered : (r : Reader) → Numbered (type_next setting r)
  unfolding type_next
  type_numbered r = either (eqb (lacks r TypeId) 0) _ _ (stream_numbered r) (goes _ _)

  length_numbered : (r : Reader) → Numbered (length_next setting r)
  unfolding length_next
  length_numbered r = either (eqb (lacks r Length) 0) _ _ (type_numbered r) (goes _ _)

  time_numbered : (r : Reader) → Numbered (timestamp_next setting r)
  unfolding timestamp_next
  time_numbered r = either (eqb (lacks r Timestamp) 0) _ _ (length_numbered r) (goes _ _)

  module _ (ask : ℕ → Look) (r : Reader) where
    named_numbered : (format : ChunkHeaderFormat) (id : ℕ) → Numbered (named setting (ask id) r format id)
    unfolding named
    named_numbered format id =
        let said = ask id in
        tested (basic_refusal format (ltb said.place row_count) (ltb said.unused row_count) (not (eqb r.message.id 0)) (eqb r.message.id id)) r _
        (either (ltb said.place row_count) _ _ (time_numbered _) (goes _ _))

    basic_numbered : (c : Option ℕ) (format : ChunkHeaderFormat) (kept : Stage) → Numbered (basic_by c setting ask r format kept)
    basic_numbered (Some id) format kept = named_numbered format id
    basic_numbered None format kept = goes _ _

    stepped_numbered : (stage : Stage) (b : ℕ) → Numbered (stepped stage setting ask r b)
    unfolding timestamp_field_step length_field_step type_field_step stream_field_step extended_field_step
    stepped_numbered Csid b = basic_numbered (csid (b ∷ [])) _ _
    stepped_numbered (CsidSecond a) b = basic_numbered (csid (a ∷ b ∷ [])) _ _
    stepped_numbered (CsidThird a c) b = basic_numbered (csid (a ∷ c ∷ b ∷ [])) _ _
    stepped_numbered (InitialTimestamp before lacks) b = either (leb lacks 1) _ _ (length_numbered _) (goes _ _)
    stepped_numbered (MessageLength before lacks) b = either (leb lacks 1) _ _ (type_numbered _) (goes _ _)
    stepped_numbered MessageTypeId b = stream_numbered _
    stepped_numbered (MessageStreamId before lacks) b = either (leb lacks 1) _ _ (extended_numbered _) (goes _ _)
    stepped_numbered (ExtendedTimestamp before lacks) b = either (leb lacks 1) _ _ (whole_numbered _ _) (goes _ _)
    stepped_numbered MessagePayload b = refuses r 255 (λ e. omega (arith, e))

landed_numbered : (r : Reader) (n : ℕ) → Numbered (landed r n)
unfolding landed
landed_numbered r n = either (eqb (r.chunk.left - n) 0) _ _ (either (ltb (r.message.got + n) r.chunk.header.message_length) _ _ (pauses _ _) (ends _ _)) (goes _ _)

step_numbered : (d : Decoder) (b : ℕ) → Numbered (step_of d b)
unfolding step_of
step_numbered d b =
    either (in_payload d.reader.stage) _ _ (either (pays d.setting.room d.reader) _ _ (landed_numbered d.reader 1) (refuses d.reader 255 (λ e. omega (arith, e))))
    (stepped_numbered d.setting (look d.rows) d.reader d.reader.stage b)

-- so a run that is refused leaves a closed decoder
end_refused : (e : Event) (d : Decoder) (payload : List ℕ) (n k m number : ℕ) (o : Outcome) → ((j : ℕ) → e ≡ Refuse j → j ≢ 0) → d.closed ≡ closes e number
    → (o.answer ≡ refused k m → o.deserializer.closed ≢ 0)
    → (end e d payload n o).answer ≡ refused k m → (end e d payload n o).deserializer.closed ≢ 0
end_refused Go d payload n k m number o p q later h = later h
end_refused Chunk d payload n k m number o p q later h = later h
end_refused Message d payload n k m number o p q later h = absurd (let z : ◌≡◌ {A = ℕ} 0 1 = cc in omega arith)
end_refused (Refuse j) d payload n k m number o p q later h = λ z. p j refl (sym q ∙ z)

pub run_refused : (a : List ℕ) (d : Decoder) (payload : List ℕ) (n k m : ℕ) → (run a d payload n).answer ≡ refused k m
    → (run a d payload n).deserializer.closed ≢ 0
unfolding run after
run_refused [] d payload n k m h = absurd (let z : ◌≡◌ {A = ℕ} 0 1 = cc in omega arith)
run_refused (x ∷ a) d payload n k m h =
    end_refused (step_of d x).event (after d (step_of d x)) (writes d payload x) (n + 1) k m d.closed _ (step_numbered d x).number refl
    (run_refused a (after d (step_of d x)) (writes d payload x) (n + 1) k m) h
