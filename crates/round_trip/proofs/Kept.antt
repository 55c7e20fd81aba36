-- What is kept of a run is to come to a decoder, packet after packet: encoder and decoder agree from the start, and each kept packet leaves them agreeing.
use Rattle.std.proofs.Common.{ℕ, ◌≤◌, ◌<◌, max, ◌≡◌, refl, sym, ap, subst, ◌∙◌, Bool, true, false, List, [], ◌∷◌, ◌++◌, arith, length, take, eq-eqb, ne_eqb, le-ltb}
use mathlib.Core.Option.{none}
use Rattle.serializer.specs.declared.ChunkSerializer.{ChunkSerializer}
use Rattle.serializer.specs.Answer.{refused as not_written}
use Rattle.serializer.specs.Header.{header}
use Rattle.serializer.specs.Remembered.{fresh, packet_of, previous, remember}
use Rattle.decoding.specs.Decoder.{Decoder}
use Rattle.decoding.specs.Answer.{Listed, message as found}
use Rattle.decoding.specs.Call.{Outcome, next, outcome, run}
use Rattle.decoding.specs.Calls.{Ready, after_size}
use Rattle.decoding.specs.Told.{between, outcome as telling, sized, taken, told, max_room, made}
use Rattle.chunk_header.specs.Limits.{max_size}
use Rattle.decoding.proofs.Reached.{made_reaches}
use Rattle.decoding.proofs.Runs.{next_runs}
use Rattle.decoding.proofs.Standing.{run_stood}
use Rattle.fields.proofs.Tests.{never}
use Rattle.stream_meaning.specs.Stream.{Message}
use Rattle.round_trip.specs.Demand3.{Call, InRange, LeavesOutDroppable, Packet, Ranged, Sending, Tell, encodes, keep, kept, longest, may_be_left_out, message, message_of, resize, send, tell_first, tell_of}
use Rattle.round_trip.proofs.Agreeing.{Agrees, awake, fresh_agree, handed_over, left_out}
use Rattle.round_trip.proofs.Packets.{packet_reads}
use Rattle.round_trip.proofs.Reading.{Reads}
use Rattle.round_trip.proofs.Sent.{Accepted, Answers, Taken, accepts, answers, body, encoded, fits, long_as, refuses, size_after, time_less}
use Rattle.round_trip.proofs.Taking.{At}

-- a size told between messages is taken
told_taken : (d : Decoder) (size : ℕ) → d.closed ≡ 0 → 0 < size → size ≤ max_size → between d.reader ≡ true → told d size ≡ telling taken (sized d size)
unfolding told
told_taken d size c p q b = rw (eq-eqb d.closed 0 c, ne_eqb size 0 (omega (arith, p)), le-ltb max_size size q, b)

-- the packet of a call that the encoder took
abbrev packet_for : ChunkSerializer → Call → Packet
packet_for s c = record { bytes = packet_of s (encoded c) (body c); message = message_of c; tell = tell_of c }

-- a packet is to come to a decoder between messages, and then what is to come after it
pub record Coming (p : Packet) (Then : Decoder → List ℕ → Type 0) (d : Decoder) (buffer : List ℕ) : Type 0 where
  pub ready : Ready d buffer
  pub between_now : between d.reader ≡ true
  pub length_of : ℕ
  pub decoder : Decoder
  pub buffer_after : List ℕ
  pub calls : next d p.bytes buffer
      ≡ outcome (found p.message.type p.message.stream p.message.time length_of (length p.bytes)) decoder buffer_after
  pub payload : take length_of buffer_after ≡ p.message.payload
  pub told_to : Decoder
  pub tells_it : (later : List Tell) → tell_first (p.tell ∷ later) decoder ≡ telling taken told_to
  pub then : Then told_to buffer_after

abbrev pub Awaits : List Packet → Decoder → List ℕ → Type 0
Awaits [] d buffer = Ready d buffer × (between d.reader ≡ true)
Awaits (p ∷ ps) d buffer = Coming p (Awaits ps) d buffer

pub awaits_ready : (packets : List Packet) {d : Decoder} {buffer : List ℕ} → Awaits packets d buffer → Ready d buffer × (between d.reader ≡ true)
awaits_ready [] a = a
awaits_ready (p ∷ ps) c = (c.ready, c.between_now)

-- what is told after a packet's message is taken, and leaves encoder and decoder agreeing
record Tells (s : ChunkSerializer) (c : Call) (d : Decoder) (buffer : List ℕ) : Type 0 where
  told_to : Decoder
  tells_it : (later : List Tell) → tell_first (tell_of c ∷ later) d ≡ telling taken told_to
  agrees : Agrees (remember s (encoded c) (size_after s c)) told_to buffer
  room : told_to.setting.room ≡ d.setting.room

tells_on : (s : ChunkSerializer) (d : Decoder) (buffer : List ℕ) (c : Call) (d' : Decoder) (buffer' : List ℕ) → Agrees s d buffer → Taken c → Ranged c
    → At d buffer (header (encoded c) (previous s (encoded c))) none d' buffer'
    → between d'.reader ≡ true
    → Tells s c d' buffer'
tells_on s d buffer (send type stream time payload forced droppable output) d' buffer' a t r at ended = record {
  told_to = d';
  tells_it = λ later. refl;
  agrees = handed_over s d buffer a _ d' buffer' s.max_chunk_size at ended d' at.ready refl refl (at.size ∙ a.size) a.some r.2;
  room = refl;
}
tells_on s d buffer (resize size time output) d' buffer' a t r at ended =
    let k = at.ready in
    let e = told_taken d' size k.open_still t.0 t.1 ended in
    let made_so = after_size k.by_calls size in
    let ready : Ready (sized d' size) buffer' = record { by_calls = rw e at made_so; open_still = k.open_still; between_chunks = k.between_chunks; long = k.long } in
    record {
      told_to = sized d' size;
      tells_it = λ later. e;
      agrees = handed_over s d buffer a _ d' buffer' size at ended (sized d' size) ready refl refl refl t.0 r;
      room = refl;
    }

-- the message of a call, by the numbers that are encoded
message_is : (c : Call) → message_of c ≡ message (encoded c).type_id (encoded c).stream_id (encoded c).timestamp.value (body c)
message_is (send type stream time payload forced droppable output) = refl
message_is (resize size time output) = refl

-- a packet that is kept is to come, and then what is to come after it
module _ (s : ChunkSerializer) (d : Decoder) (c : Call) (buffer : List ℕ) (ps : List Packet) (a : Agrees s d buffer) (r : Ranged c) (o : Accepted s c (encodes s c))
    (fit : length (body c) ≤ d.setting.room) where
  abbrev p : Packet
  p = packet_for s c

  reads : Reads d buffer (header (encoded c) (previous s (encoded c))) (body c) p.bytes
  reads =
      let size : max 1 s.max_chunk_size ≡ d.setting.size = omega (arith, a.size, a.some) in
      rw size
      (packet_reads d buffer (encoded c) (previous s (encoded c)) (body c) (awake s d buffer a (encoded c)) (λ f. fits c (previous s (encoded c)) f r o.most) (omega (arith, a.size, a.some)) (long_as c) o.some
      (omega (arith, long_as c, fit)))

  pub packet_awaited : ((d'' : Decoder) (buffer'' : List ℕ) → Agrees (remember s (encoded c) (size_after s c)) d'' buffer'' → d''.setting.room ≡ d.setting.room → Awaits ps d'' buffer'')
      → Awaits (p ∷ ps) d buffer
  packet_awaited then =
      let w = reads in
      let k = a.ready in
      let after : Outcome = next d p.bytes buffer in
      let runs : after ≡ run p.bytes d buffer 0 = next_runs d p.bytes buffer k.open_still k.long in
      let stood = (run_stood p.bytes d buffer 0 (made_reaches k.by_calls)).handed _ _ _ _ _ (rw runs at w.answer) in
      let t = tells_on s d buffer c after.deserializer after.payload a o.size r w.at (rw runs stood.0) in
      record {
        ready = k;
        between_now = a.between_now;
        length_of = length (body c);
        decoder = after.deserializer;
        buffer_after = after.payload;
        calls = rw (message_is c) (ap (λ (l : Listed). outcome l after.deserializer after.payload) w.answer);
        payload = rw (message_is c) w.holds;
        told_to = t.told_to;
        tells_it = t.tells_it;
        then = then _ _ t.agrees (t.room ∙ w.at.room);
      }

-- what is kept of a call that is refused, and of one that is taken
kept_none : (s : ChunkSerializer) (x : Sending) (xs : List Sending) (number : ℕ) → (encodes s x.call).answer ≡ not_written number → (encodes s x.call).serializer ≡ s
    → kept s (x ∷ xs) ≡ kept s xs
kept_none s x xs number e f = rw (e, f) (by_kept x.kept)
  where
    by_kept : (t : Bool) → keep t [] ++ kept s xs ≡ kept s xs
    by_kept true = refl
    by_kept false = refl

kept_sent : (s : ChunkSerializer) (c : Call) (t : Bool) (xs : List Sending) → Accepted s c (encodes s c)
    → kept s (record { call = c; kept = t } ∷ xs) ≡ keep t (packet_for s c ∷ []) ++ kept (remember s (encoded c) (size_after s c)) xs
kept_sent s c t xs o = rw (o.answer, o.output, o.serializer)

-- only a message that was marked so may be left out, and it leaves the chunk size
left_droppable : (c : Call) → may_be_left_out c ≡ true → (encoded c).can_be_dropped ≡ true
left_droppable (send type stream time payload forced droppable output) e = e
left_droppable (resize size time output) e = e

left_size : (s : ChunkSerializer) (c : Call) → may_be_left_out c ≡ true → s.max_chunk_size ≡ size_after s c
left_size s (send type stream time payload forced droppable output) e = refl
left_size s (resize size time output) e = never e

body_is : (c : Call) → (message_of c).payload ≡ body c
body_is c = ap (λ (m : Message). m.payload) (message_is c)

-- what is kept of a run is to come, where encoder and decoder agree at its start
abbrev Kept : List Sending → Type 0
Kept xs = (s : ChunkSerializer) (d : Decoder) (buffer : List ℕ) → Agrees s d buffer → longest (kept s xs) ≤ d.setting.room → Awaits (kept s xs) d buffer

module _ (c : Call) (xs : List Sending) (r : Ranged c) (later : Kept xs) (s : ChunkSerializer) (d : Decoder) (buffer : List ℕ) (a : Agrees s d buffer) where
  abbrev s' : ChunkSerializer
  s' = remember s (encoded c) (size_after s c)

  keeps : Accepted s c (encodes s c) → longest (packet_for s c ∷ kept s' xs) ≤ d.setting.room
      → Awaits (packet_for s c ∷ kept s' xs) d buffer
  keeps o fit =
      let l : length (message_of c).payload ≡ length (body c) = ap length (body_is c) in
      packet_awaited s d c buffer (kept s' xs) a r o (omega (arith, l, fit)) (λ d'' buffer'' agree same. later s' d'' buffer'' agree (omega (arith, same, fit)))

  leaves : may_be_left_out c ≡ true → longest (kept s' xs) ≤ d.setting.room → Awaits (kept s' xs) d buffer
  leaves e fit = later s' d buffer (left_out s d buffer a (encoded c) (size_after s c) (left_droppable c e) (time_less c r) (left_size s c e)) fit

  -- what is kept, by what became of the call
  abbrev Come : List Packet → Type 0
  Come ps = longest ps ≤ d.setting.room → Awaits ps d buffer

  sent_comes : (t : Bool) → (t ≡ false → may_be_left_out c ≡ true) → Accepted s c (encodes s c) → Come (keep t (packet_for s c ∷ []) ++ kept s' xs)
  sent_comes true e o = keeps o
  sent_comes false e o = leaves (e refl)

  call_comes : (t : Bool) → (t ≡ false → may_be_left_out c ≡ true) → Answers s c (encodes s c) → Come (kept s (record { call = c; kept = t } ∷ xs))
  call_comes t e (refuses number p q) = subst Come (sym (kept_none s record { call = c; kept = t } xs number p q)) (λ fit. later s d buffer a fit)
  call_comes t e (accepts o) = subst Come (sym (kept_sent s c t xs o)) (sent_comes t e o)

kept_comes : (xs : List Sending) → InRange xs → LeavesOutDroppable xs → Kept xs
kept_comes [] r l s d buffer a fit = (a.ready, a.between_now)
kept_comes (x ∷ xs) r l s d buffer a fit = call_comes x.call xs r.0 (kept_comes xs r.1 l.1) s d buffer a x.kept l.0 (answers s x.call) fit

made_room : (room : ℕ) → 1 ≤ room → room ≤ max_room → (made room).deserializer.setting.room ≡ room
unfolding made
made_room room p q = rw (ne_eqb room 0 (omega (arith, p)), le-ltb max_room room q)

-- all that is kept is to come to a fresh decoder
pub kept_awaited : (xs : List Sending) (room : ℕ) (buffer : List ℕ) → InRange xs → LeavesOutDroppable xs → 1 ≤ room → room ≤ max_room
    → longest (kept fresh xs) ≤ room
    → room ≤ length buffer
    → Awaits (kept fresh xs) (made room).deserializer buffer
kept_awaited xs room buffer r l some most fit long =
    kept_comes xs r l fresh (made room).deserializer buffer (fresh_agree room buffer some most long) (rw (made_room room some most) fit)
