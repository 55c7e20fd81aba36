-- A call of the decoder: a run of single bytes that stops at the first message or refusal (document 01, "Decoder").
use Rattle.std.specs.Prelude.{ℕ, ◌+◌, Bool, true, false, cond, not, List, [], ◌∷◌, ltb, eqb, length, set}
use Rattle.fields.specs.Cases.{◌when◌, first}
use Rattle.decoding.specs.Decoder.{Decoder}
use Rattle.byte_machine.specs.Reader.{Event, Go, Chunk, Message, Refuse, Reader, Stepped, guard, in_payload, refuse}
use Rattle.decoding.specs.Answer.{Listed, message, more, refused}
use Rattle.byte_machine.specs.Payload.{landed, pays}
use Rattle.byte_machine.specs.Step.{stepped}
use Rattle.byte_machine.specs.Rows.{put_at}
use Rattle.byte_machine.specs.Look.{look}

-- what a byte does: a byte of a payload that may come is stored at its own place
unfoldable pub step_of : Decoder → (byte : ℕ) → Stepped
step_of d b =
    cond (in_payload d.reader.stage)
    (cond (pays d.setting.room d.reader) (landed d.reader 1) (refuse d.reader guard))
    (stepped d.reader.stage d.setting (look d.rows) d.reader b)

unfoldable pub writes : Decoder → (payload : List ℕ) → (byte : ℕ) → List ℕ
writes d payload b = cond (in_payload d.reader.stage) (cond (pays d.setting.room d.reader) (set payload d.reader.message.got b) payload) payload

-- a refusal closes the decoder with its own number
abbrev pub closes : Event → ℕ → ℕ
closes Go n = n
closes Chunk n = n
closes Message n = n
closes (Refuse k) n = k

-- whether a byte is refused
abbrev pub is_refusal : Event → Bool
is_refusal Go = false
is_refusal Chunk = false
is_refusal Message = false
is_refusal (Refuse k) = true

-- a closing refusal changes only the closed number: it leaves the reader and every row as they were
unfoldable pub after : Decoder → Stepped → Decoder
after d s = record {
  setting = d.setting;
  closed = closes s.event d.closed;
  reader = cond (is_refusal s.event) d.reader s.reader;
  rows = cond (is_refusal s.event) d.rows (put_at d.rows s.place s.reader.chunk.header);
}

-- the answer, the decoder and the payload buffer after a call
pub record Outcome : Type 0 where
  pub answer : Listed
  pub deserializer : Decoder
  pub payload : List ℕ

abbrev pub outcome : Listed → Decoder → (payload : List ℕ) → Outcome
outcome answer d payload = record { answer = answer; deserializer = d; payload = payload }

-- a message, as it was read, at its last byte
abbrev pub read : Reader → (used : ℕ) → Listed
read r used =
    let h = r.chunk.header in
    message h.message_type_id h.message_stream_id h.timestamp.value h.message_length used

-- after a byte: an answer, or what follows
abbrev pub end : Event → Decoder → (payload : List ℕ) → (used : ℕ) → (rest : Outcome) → Outcome
end Go d payload used rest = rest
end Chunk d payload used rest = rest
end Message d payload used rest = outcome (read d.reader used) d payload
end (Refuse k) d payload used rest = outcome (refused k used) d payload

unfoldable pub run : (input : List ℕ) → Decoder → (payload : List ℕ) → (used : ℕ) → Outcome
run [] d payload used = outcome (more used) d payload
run (b ∷ bs) d payload used =
    end (step_of d b).event (after d (step_of d b)) (writes d payload b) (used + 1)
    (run bs (after d (step_of d b)) (writes d payload b) (used + 1))

-- "closed, 7, then by bytes"
unfoldable pub next : Decoder → (input payload : List ℕ) → Outcome
next d input payload =
    first (outcome (refused d.closed 0) d payload when not (eqb d.closed 0)
    ∷ outcome (refused 7 0) d payload when ltb (length payload) d.setting.room
    ∷ []) (run input d payload 0)
