-- What a run does at its next byte, and over a stretch of payload: bytes one by one are one copy.
use Rattle.std.proofs.Common.{◌≡◌, ℕ, suc, ◌+◌, ◌-◌, ◌<◌, ◌≤◌, Bool, true, false, cond, not, ◌&&◌, eqb, ltb, leb, ◌≢◌, List, [], ◌∷◌, ◌++◌, length, get_or, drop, set, refl, ◌∙◌, not-suc-le-zero, add-one, arith, drop_of_length-le, drop-cons, le-ltb, lt-ltb, eq-eqb, ne_eqb, le-leb, leb-true}
use lib.Seq.{sets}
use borrow.Author.Tests.{eqb-false}
use Rattle.decoding.specs.Decoder.{Decoder}
use Rattle.byte_machine.specs.Reader.{Reader, Stepped, in_payload, ended, go, paused, refuse}
use Rattle.decoding.specs.Answer.{more, refused}
use Rattle.decoding.specs.Call.{Outcome, outcome, is_refusal, step_of, writes, after, end, run, next}
use Rattle.byte_machine.specs.Payload.{paid, pays, landed}
use Rattle.byte_machine.specs.Step.{stepped}
use Rattle.byte_machine.specs.Look.{look}

-- what follows a step of a decoder: the answer, or the rest of the run
abbrev pub then : Decoder → Stepped → List ℕ → ℕ → List ℕ → Outcome
then d s payload used rest = end s.event (after d s) payload used (run rest (after d s) payload used)

-- the decoder with another reader
abbrev pub holding : Decoder → Reader → Decoder
holding d r = after d (go r)

-- a step that is not refused does not look at the reader that was held
pub held_forgotten : (d : Decoder) (held : Reader) (s : Stepped) (payload : List ℕ) (n : ℕ) (rest : List ℕ) → is_refusal s.event ≡ false
    → then (holding d held) s payload n rest ≡ then d s payload n rest
unfolding after
held_forgotten d held s payload n rest h = rw h

-- a reader that may take payload: its chunk lacks a byte, and ends within the room
pub pays_is : (room : ℕ) (r : Reader) → 0 < r.chunk.left → r.message.got + r.chunk.left ≤ room → pays room r ≡ true
unfolding pays
pays_is room r p q = rw (ne_eqb r.chunk.left 0 (omega arith), le-leb (r.message.got + r.chunk.left) room q)

pub pays_tells : (room : ℕ) (r : Reader) → pays room r ≡ true → (0 < r.chunk.left) × (r.message.got + r.chunk.left ≤ room)
unfolding pays
pays_tells room r = go_on (eqb r.chunk.left 0) refl
  where
    go_on : (t : Bool) → eqb r.chunk.left 0 ≡ t → (not t && leb (r.message.got + r.chunk.left) room) ≡ true
        → (0 < r.chunk.left) × (r.message.got + r.chunk.left ≤ room)
    go_on true e q = absurd (let z : ◌≡◌ {A = ℕ} 0 1 = cc in omega arith)
    go_on false e q =
        let n = eqb-false r.chunk.left 0 e in
        let l = leb-true (r.message.got + r.chunk.left) room q in
        (omega arith, l)

-- one byte of a header, of a payload that cannot be, and of one that may come
module _ (b : ℕ) (bs : List ℕ) (d : Decoder) (payload : List ℕ) (n : ℕ) where
  pub run_header : in_payload d.reader.stage ≡ false
      → run (b ∷ bs) d payload n ≡ then d (stepped d.reader.stage d.setting (look d.rows) d.reader b) payload (n + 1) bs
  unfolding run step_of writes
  run_header h = rw h

  pub run_broken : in_payload d.reader.stage ≡ true → pays d.setting.room d.reader ≡ false
      → run (b ∷ bs) d payload n ≡ then d (refuse d.reader 255) payload (n + 1) bs
  unfolding run step_of writes
  run_broken h p = rw (h, p)

  run_payload : in_payload d.reader.stage ≡ true → pays d.setting.room d.reader ≡ true
      → run (b ∷ bs) d payload n ≡ then d (landed d.reader 1) (set payload d.reader.message.got b) (n + 1) bs
  unfolding run step_of writes
  run_payload h p = rw (h, p)

-- the reader after one byte of payload that is not its chunk's last
abbrev nearer : Reader → Reader
nearer r = paid r (r.message.got + 1) (r.chunk.left - 1)

-- bytes of payload that do not end their chunk settle nothing
pub landed_short : (r : Reader) (n : ℕ) → n < r.chunk.left → landed r n ≡ go (paid r (r.message.got + n) (r.chunk.left - n))
unfolding landed
landed_short r n h = rw (ne_eqb (r.chunk.left - n) 0 (omega arith))

landed_next : (r : Reader) (k : ℕ) → landed (nearer r) k ≡ landed r (suc k)
unfolding landed
landed_next r k =
    let e : r.message.got + 1 + k ≡ r.message.got + suc k = omega arith in
    let f : r.chunk.left - 1 - k ≡ r.chunk.left - suc k = omega arith in
    rw (e, f)

-- payload is not refused
pub landed_not_refused : (r : Reader) (n : ℕ) → is_refusal (landed r n).event ≡ false
unfolding landed
landed_not_refused r n = by_cases (eqb (r.chunk.left - n) 0) (ltb (r.message.got + n) r.chunk.header.message_length) (paid r (r.message.got + n) (r.chunk.left - n))
  where
    by_cases : (t u : Bool) (r' : Reader) → is_refusal (cond t (cond u (paused r' r'.message.got) (ended r')) (go r')).event ≡ false
    by_cases true true r' = refl
    by_cases true false r' = refl
    by_cases false u r' = refl

-- a run over payload bytes of one chunk
pub bulk : (xs rest : List ℕ) (d : Decoder) (payload : List ℕ) (n : ℕ) → in_payload d.reader.stage ≡ true → 0 < length xs
    → length xs ≤ d.reader.chunk.left → d.reader.message.got + d.reader.chunk.left ≤ d.setting.room
    → run (xs ++ rest) d payload n ≡ then d (landed d.reader (length xs)) (sets payload d.reader.message.got xs) (n + length xs) rest
unfolding after
bulk [] rest d payload n s h k r = absurd (not-suc-le-zero h)
bulk (x ∷ []) rest d payload n s h k r = run_payload x rest d payload n s (pays_is d.setting.room d.reader (omega arith) r)
bulk (x ∷ y ∷ xs) rest d payload n s h k r =
    let e : n + 1 + length (y ∷ xs) ≡ n + length (x ∷ y ∷ xs) = omega arith in
    run_payload x (y ∷ xs ++ rest) d payload n s (pays_is d.setting.room d.reader (omega arith) r)
    ∙ (rw (landed_short d.reader 1 (omega arith)))
    ∙ bulk (y ∷ xs) rest (holding d (nearer d.reader)) (set payload d.reader.message.got x) (n + 1) s (omega arith) (omega arith) (omega arith)
    ∙ held_forgotten d (nearer d.reader) (landed (nearer d.reader) (length (y ∷ xs))) _ _ rest (landed_not_refused (nearer d.reader) (length (y ∷ xs)))
    ∙ (rw (landed_next d.reader (length (y ∷ xs)), e, add-one))

-- a byte at a place of the input
pub byte_at : (input : List ℕ) (at : ℕ) → at < length input → drop at input ≡ get_or input at 0 ∷ drop (at + 1) input
byte_at input at h = rw (add-one, drop-cons input at 0)

-- what a call answers at once
pub next_closed : (d : Decoder) (input payload : List ℕ) → d.closed ≢ 0 → next d input payload ≡ outcome (refused d.closed 0) d payload
unfolding next
next_closed d input payload h = rw (ne_eqb d.closed 0 h)

pub next_short : (d : Decoder) (input payload : List ℕ) → d.closed ≡ 0 → length payload < d.setting.room → next d input payload ≡ outcome (refused 7 0) d payload
unfolding next
next_short d input payload h k = rw (eq-eqb d.closed 0 h, lt-ltb (length payload) d.setting.room k)

pub next_runs : (d : Decoder) (input payload : List ℕ) → d.closed ≡ 0 → d.setting.room ≤ length payload → next d input payload ≡ run input d payload 0
unfolding next
next_runs d input payload h k = rw (eq-eqb d.closed 0 h, le-ltb (length payload) d.setting.room k)

pub run_end : (d : Decoder) (input payload : List ℕ) (n at : ℕ) → length input ≤ at → run (drop at input) d payload n ≡ outcome (more n) d payload
unfolding run
run_end d input payload n at h = rw (drop_of_length-le input {i = at} h)
