-- Calls over the packets that are to come: of the first a proper part has come, and each call only asks for more, or hands out its message.
use Rattle.std.proofs.Common.{ℕ, ◌+◌, ◌-◌, ◌≤◌, ◌<◌, Bool, true, false, List, [], ◌∷◌, ◌++◌, append_assoc, map, ◌≢◌, ◌≡◌, refl, sym, ap, subst, ◌∙◌, arith, ltb, length, take, drop, length-append, length-take, take-append-drop, le-leb, ltb-false, ltb-true}
use Rattle.std.proofs.Math.Seq.{drop-append-add, drop-append_seam, take-append-add, take-append-le, take-append_seam, take-nil}
use Rattle.decoding.specs.Decoder.{Decoder}
use Rattle.decoding.specs.Answer.{Listed, message as found, more, refused as not_read, used}
use Rattle.decoding.specs.Call.{Outcome, next, outcome, run}
use Rattle.decoding.specs.Told.{Outcome as Told}
use Rattle.decoding.proofs.Cut.{feed_answered, feed_append, message_not_more, refused_not_more, run_kept, shift}
use Rattle.decoding.proofs.Progress.{more_uses_all, run_uses}
use Rattle.decoding.proofs.Runs.{next_runs}
use Rattle.decoding.proofs.Standing.{refused_not_message}
use Rattle.round_trip.specs.Breaking.{has_arrived}
use Rattle.round_trip.specs.Demand3.{Packet, Receiver, Tell, after, after_of, bytes, handed, message, notes, notes_of, offered, refusals, tail, tell_first}
use Rattle.round_trip.proofs.Kept.{Awaits, Coming, awaits_ready}
use Rattle.round_trip.proofs.Receiving.{Ready}

-- packets are to come, of whose bytes n arrive; after a decoder that awaits them only a part of the first has come, and asks for more
pub record Going (packets : List Packet) (n : ℕ) (r : Receiver) : Type 0 where
  pub decoder : Decoder
  pub buffer : List ℕ
  pub awaits : Awaits packets decoder buffer
  pub part : List ℕ
  pub came : next decoder part buffer ≡ outcome (more (length part)) r.decoder r.buffer
  pub joined : part ++ r.unread ≡ take n (bytes packets)
  pub tells : r.tells ≡ map (λ (p : Packet). p.tell) packets

-- a call asks for more, or hands out the first packet's message
pub data Step (n : ℕ) (r : Receiver) (k : ℕ) : List Packet → Type 0 where
  asks : {packets : List Packet} → notes r k ≡ [] → Going packets n (after r k) → Step n r k packets
  hands : {p : Packet} {ps : List Packet} → has_arrived n p ≡ true → notes r k ≡ handed p.message ∷ [] → Going ps (n - length p.bytes) (after r k)
      → Step n r k (p ∷ ps)

-- a decoder that awaits packets, and to which nothing of the first has come
pub starts : (packets : List Packet) (n : ℕ) (r : Receiver) → Awaits packets r.decoder r.buffer → r.unread ≡ take n (bytes packets)
    → r.tells ≡ map (λ (p : Packet). p.tell) packets
    → Going packets n r
unfolding run
starts packets n r a u t =
    let k = (awaits_ready packets a).0 in
    record {
      decoder = r.decoder;
      buffer = r.buffer;
      awaits = a;
      part = [];
      came = next_runs r.decoder [] r.buffer k.open_still k.long;
      joined = u;
      tells = t;
    }

-- a whole packet hands out its message, whatever follows it
pub whatever_follows : {p : Packet} {Then : Decoder → List ℕ → Type 0} {d : Decoder} {buffer : List ℕ} (c : Coming p Then d buffer) (rest : List ℕ)
    → next d (p.bytes ++ rest) buffer
    ≡ outcome (found p.message.type p.message.stream p.message.time c.length_of (length p.bytes)) c.decoder c.buffer_after
whatever_follows {p} {d = d} {buffer = buffer} c rest =
    feed_answered d p.bytes rest buffer (λ m z. message_not_more (sym (ap (λ (x : Outcome). x.answer) c.calls) ∙ z)) ∙ c.calls

-- of two lists that begin the same one the longer begins with the shorter
begins : (xs ys us vs : List ℕ) → xs ++ ys ≡ us ++ vs → length xs ≤ length us → xs ++ drop (length xs) us ≡ us
begins xs ys us vs e h =
    ap (λ (l : List ℕ). l ++ drop (length xs) us) (sym (take-append_seam xs ys) ∙ ap (take (length xs)) e ∙ take-append-le (length xs) us vs h)
    ∙ take-append-drop (length xs) us

both_none : (xs ys : List ℕ) → xs ++ ys ≡ [] → ys ≡ []
both_none [] ys e = e
both_none (x ∷ xs) ys e = absurd (let z = ap length e in omega (arith, z))

-- a cut after a first part
pub take_past : (n : ℕ) (xs ys : List ℕ) → length xs ≤ n → take n (xs ++ ys) ≡ xs ++ take (n - length xs) ys
take_past n xs ys h = let e : n ≡ length xs + (n - length xs) = omega (arith, h) in ap (λ (k : ℕ). take k (xs ++ ys)) e ∙ take-append-add xs ys (n - length xs)

module _ {packets : List Packet} {n : ℕ} {r : Receiver} (g : Going packets n r) where
  -- the decoder can go on
  pub ready : Ready r
  ready =
      let k = (awaits_ready packets g.awaits).0 in
      let e = sym (next_runs g.decoder g.part g.buffer k.open_still k.long) ∙ g.came in
      let w = run_kept g.part g.decoder g.buffer 0 in
      let room = w.room in
      let long = w.long in
      record {
        closed = (rw e at (w.closed (length g.part) (ap (λ (o : Outcome). o.answer) e))) ∙ k.open_still;
        room = omega (arith, rw e at room, rw e at long, k.long);
      }

  module _ (k : ℕ) where
    abbrev input : List ℕ
    input = take k r.unread

    abbrev o : Outcome
    o = offered r k

    abbrev so_far : List ℕ
    so_far = g.part ++ input

    -- a call after a part is one over both
    both : next g.decoder so_far g.buffer ≡ shift (length g.part) o
    both =
        feed_append g.decoder g.part input g.buffer (length g.part) (ap (λ (x : Outcome). x.answer) g.came)
        ∙ ap (λ (x : Outcome). shift (length g.part) (next x.deserializer input x.payload)) g.came

    splits : so_far ++ drop k r.unread ≡ take n (bytes packets)
    splits = append_assoc g.part input (drop k r.unread) ∙ ap (λ (l : List ℕ). g.part ++ l) (take-append-drop k r.unread) ∙ g.joined

    -- where that asks for more, all of the input was used
    more_step : (m : ℕ) → o.answer ≡ more m → Step n r k packets
    more_step m e =
        let u : m ≡ length input = more_uses_all r.decoder input r.buffer m e in
        let left : drop (length input) r.unread ≡ drop k r.unread =
        ap (λ (x : List ℕ). drop (length input) x) (sym (take-append-drop k r.unread)) ∙ drop-append_seam input (drop k r.unread)
        in
        asks {packets = packets} (rw e) (rw (e, u)
        (record {
          decoder = g.decoder;
          buffer = g.buffer;
          awaits = g.awaits;
          part = so_far;
          came = both ∙ (rw (e, u, length-append g.part input));
          joined = ap (λ (x : List ℕ). so_far ++ x) left ∙ splits;
          tells = g.tells;
        }))

-- an outcome whose count is shifted, taken back
unshift : (n : ℕ) (x : Outcome) {type stream time long m : ℕ} {d : Decoder} {b : List ℕ} → shift n x ≡ outcome (found type stream time long m) d b
    → (u : ℕ) × ((x ≡ outcome (found type stream time long u) d b) × (n + u ≡ m))
unshift n x {type} {stream} {time} {long} {m} {d} {b} e = by_answer x.answer refl
  where
    by_answer : (l : Listed) → x.answer ≡ l → (u : ℕ) × ((x ≡ outcome (found type stream time long u) d b) × (n + u ≡ m))
    by_answer (found t s i l u) q =
        let z = rw q at (ap (λ (y : Outcome). y.answer) e) in
        let same : found t s i l u ≡ found type stream time long u = cc in
        let a : x.answer ≡ found type stream time long u = q ∙ same in
        (u, ((λ i. outcome (a i) (e i).deserializer (e i).payload), cc))
    by_answer (more u) q = let z = rw q at (ap (λ (y : Outcome). y.answer) e) in message_not_more (sym z)
    by_answer (not_read number u) q = let z = rw q at (ap (λ (y : Outcome). y.answer) e) in refused_not_message z

module _ {p : Packet} {ps : List Packet} {n : ℕ} {r : Receiver} (g : Going (p ∷ ps) n r) (k : ℕ) where
  abbrev c : Coming p (Awaits ps) g.decoder g.buffer
  c = g.awaits

  in_all : so_far g k ++ (drop k r.unread ++ drop n (p.bytes ++ bytes ps)) ≡ p.bytes ++ bytes ps
  in_all =
      sym (append_assoc (so_far g k) (drop k r.unread) (drop n (p.bytes ++ bytes ps)))
      ∙ ap (λ (l : List ℕ). l ++ drop n (p.bytes ++ bytes ps)) (splits g k)
      ∙ take-append-drop n (p.bytes ++ bytes ps)

  -- a proper part of the packet only asks for more: any other answer would be the whole packet's, which uses all of its bytes
  part_step : length (so_far g k) < length p.bytes → Step n r k (p ∷ ps)
  part_step less = by_answer (o g k).answer refl
    where
      otherwise : ((m : ℕ) → (next g.decoder (so_far g k) g.buffer).answer ≢ more m) → Step n r k (p ∷ ps)
      otherwise h =
          let e : next g.decoder p.bytes g.buffer ≡ next g.decoder (so_far g k) g.buffer =
          ap (λ (l : List ℕ). next g.decoder l g.buffer) (sym (begins (so_far g k) _ p.bytes (bytes ps) in_all (omega (arith, less))))
          ∙ feed_answered g.decoder (so_far g k) (drop (length (so_far g k)) p.bytes) g.buffer h
          in
          let u : used (next g.decoder (so_far g k) g.buffer).answer ≡ length p.bytes = ap (λ (x : Outcome). used x.answer) (sym e ∙ c.calls) in
          let most : used (next g.decoder (so_far g k) g.buffer).answer ≤ 0 + length (so_far g k) =
          rw (next_runs g.decoder (so_far g k) g.buffer c.ready.open_still c.ready.long) (run_uses (so_far g k) g.decoder g.buffer 0).most
          in
          absurd (omega (arith, u, most, less))

      answer_both : (m : ℕ) → (next g.decoder (so_far g k) g.buffer).answer ≡ more m → (shift (length g.part) (o g k)).answer ≡ more m
      answer_both m z = ap (λ (x : Outcome). x.answer) (sym (both g k)) ∙ z

      by_answer : (l : Listed) → (o g k).answer ≡ l → Step n r k (p ∷ ps)
      by_answer (more m) e = more_step g k m e
      by_answer (found type stream time long u) e = otherwise (λ m z. message_not_more (rw e at (answer_both m z)))
      by_answer (not_read number u) e = otherwise (λ m z. refused_not_more (rw e at (answer_both m z)))

  -- the whole packet hands out its message, whatever follows
  module _ (all : length p.bytes ≤ length (so_far g k)) where
    answered : shift (length g.part) (o g k) ≡ outcome (found p.message.type p.message.stream p.message.time c.length_of (length p.bytes)) c.decoder c.buffer_after
    answered =
        sym (both g k)
        ∙ ap (λ (l : List ℕ). next g.decoder l g.buffer) (sym (begins p.bytes (bytes ps) (so_far g k) _ (sym in_all) all))
        ∙ whatever_follows c (drop (length p.bytes) (so_far g k))

    arrived : length p.bytes ≤ n
    arrived = let l = ap length (splits g k) in omega (arith, all, rw (length-append, length-take) at l)

    abbrev later : List Tell
    later = map (λ (q : Packet). q.tell) ps

    module _ (u : ℕ) (e : o g k ≡ outcome (found p.message.type p.message.stream p.message.time c.length_of u) c.decoder c.buffer_after) (counts : length g.part + u ≡ length p.bytes) where
      abbrev r' : Receiver
      r' = record { decoder = c.told_to; buffer = c.buffer_after; unread = drop u r.unread; tells = later }

      after_is : after r k ≡ r'
      after_is =
          ap (λ (x : Outcome). after_of x.answer x r) e
          ∙ ap (λ (t : List Tell). record { decoder = (tell_first t c.decoder).deserializer; buffer = c.buffer_after; unread = drop u r.unread; tells = tail t }) g.tells
          ∙ ap (λ (w : Told). record { decoder = w.deserializer; buffer = c.buffer_after; unread = drop u r.unread; tells = later }) (c.tells_it later)

      notes_are : notes r k ≡ handed p.message ∷ []
      notes_are =
          ap (λ (x : Outcome). notes_of x.answer x r.tells) e
          ∙ ap (λ (t : List Tell). handed (message p.message.type p.message.stream p.message.time (take c.length_of c.buffer_after)) ∷ refusals (tell_first t c.decoder).answer) g.tells
          ∙ (rw (c.tells_it later, c.payload))

      left_unread : drop u r.unread ≡ take (n - length p.bytes) (bytes ps)
      left_unread =
          sym (drop-append-add g.part r.unread u)
          ∙ ap (λ (l : List ℕ). drop (length g.part + u) l) (g.joined ∙ take_past n p.bytes (bytes ps) arrived)
          ∙ (rw counts (drop-append_seam p.bytes (take (n - length p.bytes) (bytes ps))))

      handed_step : Step n r k (p ∷ ps)
      handed_step = hands {p = p} (le-leb _ n (omega (arith, arrived))) notes_are (subst (Going ps (n - length p.bytes)) (sym after_is) (starts ps (n - length p.bytes) r' c.then left_unread refl))

    whole_step : Step n r k (p ∷ ps)
    whole_step = let w = unshift (length g.part) (o g k) answered in handed_step w.0 w.1.0 w.1.1

pub step : {packets : List Packet} {n : ℕ} {r : Receiver} → Going packets n r → (k : ℕ) → Step n r k packets
unfolding run
step {packets = []} {n} {r} g k =
    let none : r.unread ≡ [] = both_none g.part r.unread (g.joined ∙ take-nil n) in
    let w = ready g in
    let e : (next r.decoder [] r.buffer).answer ≡ more 0 = ap (λ (x : Outcome). x.answer) (next_runs r.decoder [] r.buffer w.closed w.room) in
    more_step g k 0 (ap (λ (l : List ℕ). (next r.decoder l r.buffer).answer) (ap (take k) none ∙ take-nil k) ∙ e)
step {packets = p ∷ ps} {n} {r} g k = by_test (ltb (length (so_far g k)) (length p.bytes)) refl
  where
    by_test : (t : Bool) → ltb (length (so_far g k)) (length p.bytes) ≡ t → Step n r k (p ∷ ps)
    by_test true e = part_step g k (ltb-true _ _ e)
    by_test false e = whole_step g k (ltb-false _ _ e)
