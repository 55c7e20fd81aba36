-- Where a decoder stands after a byte: a message's last byte leaves it between messages, and any other byte does not.
use Rattle.std.proofs.Common.{◌≡◌, ℕ, ◌+◌, ◌-◌, true, false, cond, eqb, ltb, ◌≢◌, List, [], ◌∷◌, length, refl, ◌∙◌, arith, ne_eqb}
use mathlib.Core.Bool.{and-false}
use Rattle.fields.proofs.Tests.{never}
use Rattle.byte_machine.specs.Reader.{Event, Go, Chunk, Message, Refuse, Reader, Stage, Csid, CsidSecond, CsidThird, InitialTimestamp, MessageLength, MessageTypeId, MessageStreamId, ExtendedTimestamp, MessagePayload, Stepped, at_start, in_payload}
use Rattle.byte_machine.specs.Header.{opens}
use Rattle.byte_machine.specs.Payload.{landed, pays}
use Rattle.byte_machine.proofs.Everywhere.{header_step}
use Rattle.byte_machine.proofs.Passing.{either, tested}
use Rattle.decoding.specs.Decoder.{Decoder}
use Rattle.decoding.specs.Answer.{message, more, refused}
use Rattle.decoding.specs.Call.{Outcome, after, closes, end, is_refusal, run, step_of, writes}
use Rattle.decoding.specs.Told.{between}
use Rattle.decoding.proofs.Cut.{message_not_more, refused_not_more}
use Rattle.decoding.proofs.Reached.{Reached, step_reached}
use Rattle.decoding.proofs.Sound.{in_payload_past}
use Rattle.byte_machine.specs.Look.{look}

-- what an event says of the reader after it
abbrev Says : Event → Reader → Type 0
Says Go r = at_start r.stage ≡ false
Says Chunk r = r.message.id ≢ 0
Says Message r = between r ≡ true
Says (Refuse k) r = Unit {0}

abbrev Stands : Stepped → Type 0
Stands s = Says s.event s.reader

opens_stands : (size : ℕ) (r : Reader) (got : ℕ) → Stands (opens size r got)
unfolding opens
opens_stands size r got = either Stands (eqb r.chunk.header.message_length 0) refl refl

-- a payload is not the start of a chunk
in_payload_midway : (stage : Stage) → in_payload stage ≡ true → at_start stage ≡ false
in_payload_midway Csid e = never e
in_payload_midway (CsidSecond a) e = refl
in_payload_midway (CsidThird a b) e = refl
in_payload_midway (InitialTimestamp before lacks) e = refl
in_payload_midway (MessageLength before lacks) e = refl
in_payload_midway MessageTypeId e = refl
in_payload_midway (MessageStreamId before lacks) e = refl
in_payload_midway (ExtendedTimestamp before lacks) e = refl
in_payload_midway MessagePayload e = refl

-- a byte of payload, of a chunk whose stream has an id
landed_stands : (r : Reader) (n : ℕ) → in_payload r.stage ≡ true → r.chunk.header.id ≢ 0 → Stands (landed r n)
unfolding landed
landed_stands r n p h =
    either Stands (eqb (r.chunk.left - n) 0) (either Stands (ltb (r.message.got + n) r.chunk.header.message_length) h refl) (in_payload_midway r.stage p)

step_stands : (d : Decoder) (b : ℕ) → Reached d → Stands (step_of d b)
unfolding step_of
step_stands d b k =
    tested Stands (in_payload d.reader.stage)
    (λ e. either Stands (pays d.setting.room d.reader) (landed_stands d.reader 1 e (k.sound.owns (in_payload_past d.reader.stage e)).used) tt)
    (λ e. header_step Stands d.reader.message d.setting (λ r place q a. a.begun) (λ r k. tt) (λ r got q z. opens_stands d.setting.size r got)
    d.reader.stage (look d.rows) d.reader b refl)

pub more_not_message : {A : Type 0} {n type stream time long used : ℕ} → more n ≡ message type stream time long used → A
more_not_message h = absurd (let z : ◌≡◌ {A = ℕ} 0 1 = cc in omega arith)

pub refused_not_message : {A : Type 0} {k n type stream time long used : ℕ} → refused k n ≡ message type stream time long used → A
refused_not_message h = absurd (let z : ◌≡◌ {A = ℕ} 0 1 = cc in omega arith)

-- what a run leaves: it stands between messages after a message, and does not where more is wanted, unless no byte has come to one that did
pub record Stood (a : List ℕ) (d : Decoder) (o : Outcome) : Type 0 where
  pub handed : (type stream time long used : ℕ) → o.answer ≡ message type stream time long used
      → (between o.deserializer.reader ≡ true) × (o.deserializer.closed ≡ d.closed)
  pub wanted : (used : ℕ) → o.answer ≡ more used → (length a ≡ 0 → between d.reader ≡ false) → between o.deserializer.reader ≡ false

-- a byte, and others after it
module _ (x : ℕ) (a : List ℕ) (r : Reader) (d d' : Decoder) (payload : List ℕ) (n : ℕ) (o : Outcome) (h : Stood a d' o) where
  goes_stood : between d'.reader ≡ false → d'.closed ≡ d.closed → Stood (x ∷ a) d o
  goes_stood b c = record { handed = λ t m i l u e. let p = h.handed t m i l u e in (p.0, p.1 ∙ c); wanted = λ u e z. h.wanted u e (λ i. b) }

  end_stood : (e : Event) → Says e r → d'.reader ≡ cond (is_refusal e) d.reader r → d'.closed ≡ closes e d.closed → Stood (x ∷ a) d (end e d' payload n o)
  end_stood Go s q c = goes_stood (rw (q, s)) c
  end_stood Chunk s q c = goes_stood (rw (q, ne_eqb r.message.id 0 s) (and-false (at_start r.stage))) c
  end_stood Message s q c = record { handed = λ t m i l u e. (rw q s, c); wanted = λ u e z. message_not_more e }
  end_stood (Refuse k) s q c = record { handed = λ t m i l u e. refused_not_message e; wanted = λ u e z. refused_not_more e }

pub run_stood : (a : List ℕ) (d : Decoder) (payload : List ℕ) (n : ℕ) → Reached d → Stood a d (run a d payload n)
unfolding run after
run_stood [] d payload n k = record { handed = λ t m i l u e. more_not_message e; wanted = λ u e z. z refl }
run_stood (x ∷ a) d payload n k =
    let s = step_of d x in
    end_stood x a s.reader d (after d s) (writes d payload x) (n + 1) _ (run_stood a (after d s) (writes d payload x) (n + 1) (step_reached d x k)) s.event (step_stands d x k) refl refl
