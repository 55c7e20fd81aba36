-- Payload by stretches: it is never refused, and its bytes, one by one, are one copy; any other byte is one of a header.
use Rattle.std.proofs.Common.{ℕ, ◌+◌, ◌-◌, ◌≤◌, ◌<◌, min, ◌≡◌, refl, sym, ap, ◌∙◌, Bool, true, false, cond, List, ◌∷◌, eqb, ltb, drop, get_or, length, take, length-take, take-append-drop, leb, le-leb, leb-true, leb-false, Result, arith}
use Rattle.std.proofs.lemmas.Bool.{lt-leb}
use Rattle.fields.specs.Output.{stored}
use Rattle.fields.proofs.Lists.{stored_fits}
use Rattle.byte_machine.specs.Payload.{landed, paid}
use Rattle.byte_machine.specs.Reader.{Stage, Csid, CsidSecond, CsidThird, InitialTimestamp, MessageLength, MessageTypeId, MessageStreamId, ExtendedTimestamp, MessagePayload, Reader, Stepped, ended, go, guard, in_payload, paused, refuse}
use Rattle.byte_machine.specs.Look.{Look, look}
use Rattle.byte_machine.specs.Setting.{Setting}
use Rattle.byte_machine.specs.Step.{stepped}
use Rattle.decoding.specs.Call.{after, run}
use Rattle.decoding.proofs.Runs.{bulk, landed_not_refused, pays_tells, run_broken, run_header, then}
use Rattle.held.specs.declared.done.ChunkRefusal.{ChunkRefusal}
use Rattle.held.specs.declared.done.Event.{Event as HeldEvent}
use Rattle.held.specs.Stages.{stage_of}
use Rattle.header_in_place.specs.Byte.{Left, step_in}
use Rattle.held.specs.Numbers.{decode, held_in, reader_from}
use Rattle.held.proofs.Again.{decode_encode, third, from_small}
use Rattle.in_place.specs.Turn.{Ready, may_pay}

-- the stage after it is the payload's still, or the next chunk's first
landed_small : (r : Reader) (n : ℕ) → third r.stage < 256 → third (landed r n).reader.stage < 256
unfolding landed
landed_small r n h = by_cases (paid r (r.message.got + n) (r.chunk.left - n)) h (eqb (r.chunk.left - n) 0) (ltb (r.message.got + n) r.chunk.header.message_length)
  where
    by_cases : (x : Reader) → third x.stage < 256 → (t u : Bool) → third (cond t (cond u (paused x x.message.got) (ended x)) (go x)).reader.stage < 256
    by_cases x h true true = omega arith
    by_cases x h true false = omega arith
    by_cases x h false u = h

-- so the numbers that it leaves mean the decoder after it
pub landed_means : (event : Result HeldEvent ChunkRefusal) (held rows held' rows' : List ℕ) (n : ℕ)
    → Left event held' rows' (decode held rows) (landed (decode held rows).reader n)
    → decode held' rows' ≡ after (decode held rows) (landed (decode held rows).reader n)
unfolding after
landed_means event held rows held' rows' n left =
    let d = decode held rows in
    let s = landed d.reader n in
    let small : third s.reader.stage < 256 = landed_small d.reader n (from_small (get_or held 3 0) (get_or held 4 0) (get_or held 5 0)) in
    let kept : third (after d s).reader.stage < 256 = rw (landed_not_refused d.reader n) small in
    rw (left.numbers, left.table) (decode_encode (after d s) kept)

-- as many bytes as the input and the chunk have
pub stretched : (held rows input payload : List ℕ) → Ready held input payload
    → (k : ℕ) → k ≡ min (length input) (held_in held).left → (n : ℕ)
    → run input (decode held rows) payload n
    ≡ then (decode held rows) (landed (decode held rows).reader k) (stored payload (held_in held).got (take k input)) (n + k) (drop k input)
stretched held rows input payload p k e n =
    let some = p.some in
    let lacks = p.lacks in
    let ends = p.ends in
    let room = p.room in
    let d = decode held rows in
    let xs : List ℕ = take k input in
    let bytes : length xs ≡ k = simp length-take (omega arith) in
    let fits : (held_in held).got + length xs ≤ length payload = rw bytes (omega arith) in
    let stage : in_payload d.reader.stage ≡ true = p.stage in
    ap (λ (l : List ℕ). run l d payload n) (sym (take-append-drop k input))
    ∙ (rw bytes at (bulk xs (drop k input) d payload n stage (omega arith) (omega arith) ends))
    ∙ ap (λ (l : List ℕ). then d (landed d.reader k) l (n + k) (drop k input)) (sym (stored_fits payload xs (held_in held).got fits))

-- what ends within the room leaves so much room before it
pub same_test : (got left room : ℕ) → left ≤ room → leb got (room - left) ≡ leb (got + left) room
same_test got left room h = by_test (leb got (room - left)) refl
  where
    by_test : (t : Bool) → leb got (room - left) ≡ t → t ≡ leb (got + left) room
    by_test true e = let l = leb-true got (room - left) e in sym (le-leb (got + left) room (omega arith))
    by_test false e = let l = leb-false got (room - left) e in sym (lt-leb (got + left) room (omega arith))

-- payload may come, as a test says
pub ready : (held input payload : List ℕ) → may_pay (held_in held) ≡ true → 0 < length input → get_or held 0 0 ≤ length payload → Ready held input payload
ready held input payload e some room = by_stage (in_payload (stage_of (held_in held).stage)) refl
  where
    by_stage : (t : Bool) → in_payload (stage_of (held_in held).stage) ≡ t → Ready held input payload
    by_stage true s =
        let tells = pays_tells (get_or held 0 0) (reader_from (held_in held)) (rw s at e) in
        record { stage = s; some = some; lacks = tells.0; ends = tells.1; room = room }
    by_stage false s = absurd (let z : false ≡ true = rw s at e in cc)

-- a byte of a payload never comes to the header's step
guarded : (st : Stage) (setting : Setting) (ask : ℕ → Look) (r : Reader) (b : ℕ) → in_payload st ≡ true → refuse r guard ≡ stepped st setting ask r b
guarded Csid setting ask r b e = absurd cc
guarded (CsidSecond a) setting ask r b e = absurd cc
guarded (CsidThird a c) setting ask r b e = absurd cc
guarded (InitialTimestamp n l) setting ask r b e = absurd cc
guarded (MessageLength n l) setting ask r b e = absurd cc
guarded MessageTypeId setting ask r b e = absurd cc
guarded (MessageStreamId n l) setting ask r b e = absurd cc
guarded (ExtendedTimestamp n l) setting ask r b e = absurd cc
guarded MessagePayload setting ask r b e = refl

-- a byte where it may not come is one of a header
pub byte_runs : (held rows : List ℕ) (b : ℕ) (bs payload : List ℕ) (n : ℕ) → may_pay (held_in held) ≡ false
    → run (b ∷ bs) (decode held rows) payload n ≡ then (decode held rows) (step_in (decode held rows) b) payload (n + 1) bs
byte_runs held rows b bs payload n e = by_stage (in_payload (stage_of (held_in held).stage)) refl
  where
    by_stage : (t : Bool) → in_payload (stage_of (held_in held).stage) ≡ t
        → run (b ∷ bs) (decode held rows) payload n ≡ then (decode held rows) (step_in (decode held rows) b) payload (n + 1) bs
    by_stage true s =
        let d = decode held rows in
        run_broken b bs d payload n s (rw s at e)
        ∙ ap (λ (x : Stepped). then d x payload (n + 1) bs) (guarded d.reader.stage d.setting (look rows) d.reader b s)
    by_stage false s = run_header b bs (decode held rows) payload n s
