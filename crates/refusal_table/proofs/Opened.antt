-- What has come to an open decoder: no answer depends on what the lent buffers hold, so it is as one that was lent the same buffer untouched, and its bytes are chunks.
use Rattle.std.proofs.Common.{◌≡◌, ℕ, ◌+◌, ◌≤◌, List, [], ◌∷◌, ◌++◌, length, take, replicate, sym, refl, ap, ◌∙◌, subst, arith}
use lib.ListN.{length-replicate}
use Rattle.chunk_header.specs.Limits.{initial_size}
use Rattle.decoding.specs.Decoder.{Decoder}
use Rattle.byte_machine.specs.Reader.{Event, Go, Chunk, Message, Refuse}
use Rattle.decoding.specs.Answer.{message, more}
use Rattle.decoding.specs.Call.{Outcome, after, end, next, run, step_of, writes}
use Rattle.decoding.proofs.Cut.{has_run, run_kept}
use Rattle.decoding.proofs.Entries.{next_by}
use Rattle.decoding.proofs.Runs.{next_runs}
use Rattle.decoding.proofs.Standing.{refused_not_message}
use Rattle.stream_meaning.specs.Connection.{quiet}
use Rattle.stream_meaning.specs.Feeding.{Feeding, Sign, handed as fed_message, opened as fed_opened, signs, sized as fed_size, wanted as fed_more}
use Rattle.stream_meaning.specs.Stream.{Message as Meant}
use Rattle.stream_meaning.specs.Taking.{NotRefused}
use Rattle.stream_meaning.proofs.Feeding.{amid_reading, feeding_amid}
use Rattle.stream_meaning.proofs.UniqueReading.{reads_one_way}
use Rattle.stream_meaning.proofs.Walking.{Amid}
use Rattle.refusal_table.specs.History.{Open, Read, opened, resized, handed, wanted}

-- answer and decoder do not depend on the buffer
pub record Same (o o' : Outcome) : Type 0 where
  pub answer : o.answer ≡ o'.answer
  pub decoder : o.deserializer ≡ o'.deserializer

end_lent : (e : Event) (d : Decoder) (p q : List ℕ) (n : ℕ) (o o' : Outcome) → Same o o' → Same (end e d p n o) (end e d q n o')
end_lent Go d p q n o o' h = h
end_lent Chunk d p q n o o' h = h
end_lent Message d p q n o o' h = record { answer = refl; decoder = refl }
end_lent (Refuse k) d p q n o o' h = record { answer = refl; decoder = refl }

lent : (a : List ℕ) (d : Decoder) (p q : List ℕ) (n : ℕ) → Same (run a d p n) (run a d q n)
unfolding run
lent [] d p q n = record { answer = refl; decoder = refl }
lent (x ∷ a) d p q n =
    let d' = after d (step_of d x) in
    end_lent (step_of d x).event d' (writes d p x) (writes d q x) (n + 1) _ _ (lent a d' (writes d p x) (writes d q x) (n + 1))

pub calls_same : (d : Decoder) (input p q : List ℕ) → d.closed ≡ 0 → d.setting.room ≤ length p → d.setting.room ≤ length q → Same (next d input p) (next d input q)
calls_same d input p q o l k =
    let a = next_runs d input p o l in
    let b = next_runs d input q o k in
    let s = lent input d p q 0 in
    record {
      answer = ap (λ (x : Outcome). x.answer) a ∙ s.answer ∙ ap (λ (x : Outcome). x.answer) (sym b);
      decoder = ap (λ (x : Outcome). x.deserializer) a ∙ s.decoder ∙ ap (λ (x : Outcome). x.deserializer) (sym b);
    }

-- a call that refuses nothing had an open decoder and a buffer that is long enough
pub not_refused_long : (d : Decoder) (input payload : List ℕ) → NotRefused (next d input payload).answer → (d.closed ≡ 0) × (d.setting.room ≤ length payload)
not_refused_long d input payload =
    next_by d input payload (λ (o : Outcome). NotRefused o.answer → (d.closed ≡ 0) × (d.setting.room ≤ length payload))
    (λ closed h. absurd (h _ _ refl)) (λ short h. absurd (h _ _ refl)) (λ o l h. (o, l))

-- a decoder to which so much came, with one buffer
pub record Stands (came : List Sign) (d : Decoder) : Type 0 where
  pub messages : List Meant
  pub buffer : List ℕ
  pub fed : Feeding came messages d buffer

-- the chunks that came whole, and the part of one more
abbrev pub amid_of : {came : List Sign} {d : Decoder} (s : Stands came d) → Amid came s.messages d s.buffer
amid_of s = feeding_amid s.fed

-- it is open, and its buffer is long enough
pub open_amid : {came : List Sign} {messages : List Meant} {d : Decoder} {buffer : List ℕ} (a : Amid came messages d buffer)
    → (d.closed ≡ 0) × ((d.setting.room ≤ length buffer) × (d.setting.room ≡ a.decoder.setting.room))
open_amid {d = d} {buffer = buffer} a =
    let r = a.at_start_lem.ready in
    let e = sym (next_runs a.decoder a.part_of a.held r.open_still r.long) ∙ a.reads in
    let k = run_kept a.part_of a.decoder a.held 0 in
    let c = k.closed (length a.part_of) (ap (λ (o : Outcome). o.answer) e) in
    let closed : d.closed ≡ a.decoder.closed = ap (λ (o : Outcome). o.deserializer.closed) (sym e) ∙ c in
    let room : d.setting.room ≡ a.decoder.setting.room = ap (λ (o : Outcome). o.deserializer.setting.room) (sym e) ∙ k.room in
    let long : length buffer ≡ length a.held = ap (λ (o : Outcome). length o.payload) (sym e) ∙ k.long in
    (closed ∙ r.open_still, (omega (arith, room, long, r.long), room))

stands_wanted : {came : List Sign} {d : Decoder} (s : Stands came d) (input payload : List ℕ) (used : ℕ) → (next d input payload).answer ≡ more used
    → Same (next d input s.buffer) (next d input payload)
stands_wanted {d = d} s input payload used h =
    let w = has_run d input payload used h in
    calls_same d input s.buffer payload w.1 (open_amid (amid_of s)).1.0 w.0

stands_handed : {came : List Sign} {d : Decoder} (s : Stands came d) (input payload : List ℕ) (type stream time long used : ℕ)
    → (next d input payload).answer ≡ message type stream time long used
    → Same (next d input s.buffer) (next d input payload)
stands_handed {d = d} s input payload type stream time long used h =
    let w = not_refused_long d input payload (λ k n e. refused_not_message (sym e ∙ h)) in
    calls_same d input s.buffer payload w.0 (open_amid (amid_of s)).1.0 w.1

pub stands_of : {came : List Sign} {d : Decoder} → Open came d → Stands came d
stands_of (opened room e) =
    record { messages = []; buffer = replicate room 0; fed = fed_opened room (replicate room 0) e (rw (length-replicate {A = ℕ} room 0) (omega arith)) }
stands_of (resized o size h) = let s = stands_of o in record { messages = s.messages; buffer = s.buffer; fed = fed_size s.fed size h }
stands_of (handed {came} {d} o input payload b type stream time long used h) =
    let s = stands_of o in
    let q = stands_handed s input payload type stream time long used h in
    let ms = s.messages ++ (record { type = type; stream = stream; time = time; payload = take long (next d input s.buffer).payload } ∷ []) in
    record {
      messages = ms;
      buffer = (next d input s.buffer).payload;
      fed = subst (λ (x : Decoder). Feeding (came ++ signs (take used input)) ms x (next d input s.buffer).payload) q.decoder
          (fed_message s.fed input b type stream time long used (q.answer ∙ h));
    }
stands_of (wanted {came} {d} o input payload b used h) =
    let s = stands_of o in
    let q = stands_wanted s input payload used h in
    record {
      messages = s.messages;
      buffer = (next d input s.buffer).payload;
      fed = subst (λ (x : Decoder). Feeding (came ++ signs input) s.messages x (next d input s.buffer).payload) q.decoder
          (fed_more s.fed input b used (q.answer ∙ h));
    }

-- what came is read as those chunks and that part, and in no other way
abbrev pub read_of : {came : List Sign} {d : Decoder} → Stands came d → Read came
read_of s = amid_reading (amid_of s)

pub only_reading : {came : List Sign} {d : Decoder} (s : Stands came d) (r : Read came)
    → ((amid_of s).at_start_lem.items ≡ r.items) × ((amid_of s).part_of ≡ r.part)
only_reading {came} s r = let e = reads_one_way initial_size quiet came (amid_reading (amid_of s)) r in (e.items, e.part)
