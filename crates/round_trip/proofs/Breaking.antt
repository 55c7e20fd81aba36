-- A line that breaks: whatever the calls, they have handed out the first of the packets that arrive, and where nothing is unread the next one lacks a byte.
use Rattle.std.proofs.Common.{ℕ, ◌-◌, Bool, true, false, List, [], ◌∷◌, ◌++◌, append-nil, map, ◌≡◌, refl, sym, ap, ◌∙◌, arith, length, take, drop, drop_of_length-le, leb-true}
use Rattle.std.proofs.Math.Seq.{drop-append_seam}
use Rattle.serializer.specs.Remembered.{fresh}
use Rattle.decoding.specs.Call.{Outcome, next, run}
use Rattle.decoding.specs.Told.{between, made}
use Rattle.decoding.proofs.Cut.{message_not_more}
use Rattle.decoding.proofs.Runs.{next_runs}
use Rattle.round_trip.specs.Breaking.{Breaking, Breaks, broken_after, has_arrived, whole}
use Rattle.round_trip.specs.Demand3.{Note, Packet, Receiver, after, bytes, handed, kept, last, log, receiver}
use Rattle.round_trip.proofs.Going.{Going, Step, asks, hands, ready, starts, step, take_past, whatever_follows}
use Rattle.round_trip.proofs.Kept.{Awaits, awaits_ready, kept_awaited}
use Rattle.round_trip.proofs.Receiving.{Always, uses_all}

abbrev notes_for : List Packet → List Note
notes_for ps = map (λ (p : Packet). handed p.message) ps

-- calls have handed out messages, and of the packets that are left so many bytes arrive
record Gone (packets : List Packet) (n : ℕ) (r : Receiver) (ns : List ℕ) : Type 0 where
  left : List Packet
  arrive : ℕ
  going : Going left arrive (last r ns)
  logged : log r ns ++ notes_for (whole arrive left) ≡ notes_for (whole n packets)
  between_two : bytes (whole n packets) ≡ take n (bytes packets) → bytes (whole arrive left) ≡ take arrive (bytes left)

both_begin : (xs ys zs : List ℕ) → xs ++ ys ≡ xs ++ zs → ys ≡ zs
both_begin xs ys zs e = sym (drop-append_seam xs ys) ∙ ap (λ (l : List ℕ). drop (length xs) l) e ∙ drop-append_seam xs zs

-- a call, and then the others
by_step : {packets : List Packet} {n k : ℕ} {r : Receiver} {ns : List ℕ} → Step n r k packets
    → ((ps : List Packet) (m : ℕ) → Going ps m (after r k) → Gone ps m (after r k) ns)
    → Gone packets n r (k ∷ ns)
by_step {packets} {n} (asks e g) later =
    let w = later packets n g in
    record { left = w.left; arrive = w.arrive; going = w.going; logged = rw e w.logged; between_two = w.between_two }
by_step {n = n} (hands {p} {ps} t e g) later =
    let w = later ps (n - length p.bytes) g in
    record {
      left = w.left;
      arrive = w.arrive;
      going = w.going;
      logged = rw (e, t) (ap (λ (l : List Note). handed p.message ∷ l) w.logged);
      between_two = λ q. w.between_two (both_begin p.bytes _ _ ((rw t at q) ∙ take_past n p.bytes (bytes ps) (leb-true _ n t)));
    }

gone : (ns : List ℕ) (packets : List Packet) (n : ℕ) (r : Receiver) → Going packets n r → Gone packets n r ns
gone [] packets n r g = record { left = packets; arrive = n; going = g; logged = refl; between_two = λ e. e }
gone (k ∷ ns) packets n r g = by_step (step g k) (λ ps m g'. gone ns ps m (after r k) g')

-- where nothing is unread, all has come, and no packet that is left has arrived
part_is : {packets : List Packet} {n : ℕ} {r : Receiver} (g : Going packets n r) → r.unread ≡ [] → g.part ≡ take n (bytes packets)
part_is g e = sym (append-nil g.part) ∙ ap (λ (u : List ℕ). g.part ++ u) (sym e) ∙ g.joined

none_whole : (packets : List Packet) (n : ℕ) (r : Receiver) → Going packets n r → r.unread ≡ [] → whole n packets ≡ []
none_whole [] n r g e = refl
none_whole (p ∷ ps) n r g e = by_test (has_arrived n p) refl
  where
    by_test : (t : Bool) → has_arrived n p ≡ t → whole n (p ∷ ps) ≡ []
    by_test false q = rw q
    by_test true q =
        let is : g.part ≡ p.bytes ++ take (n - length p.bytes) (bytes ps) = part_is g e ∙ take_past n p.bytes (bytes ps) (leb-true _ n q) in
        message_not_more (ap (λ (o : Outcome). o.answer) (sym (whatever_follows g.awaits _) ∙ ap (λ (l : List ℕ). next g.decoder l g.buffer) (sym is) ∙ g.came))

-- and where not even a part has come, the decoder stands between messages
stands_between : {packets : List Packet} {n : ℕ} {r : Receiver} (g : Going packets n r) → g.part ≡ [] → between r.decoder.reader ≡ true
unfolding run
stands_between {packets} g e =
    let a = awaits_ready packets g.awaits in
    let same = sym (next_runs g.decoder [] g.buffer a.0.open_still a.0.long) ∙ ap (λ (l : List ℕ). next g.decoder l g.buffer) (sym e) ∙ g.came in
    ap (λ (o : Outcome). between o.deserializer.reader) (sym same) ∙ a.1

-- a receiver of packets, of whose bytes the first n come
module _ (packets : List Packet) (room : ℕ) (buffer : List ℕ) (n : ℕ) (a : Awaits packets (made room).deserializer buffer) where
  abbrev r : Receiver
  r = broken_after n (receiver room buffer packets)

  after_calls_lem : (ns : List ℕ) → Gone packets n r ns
  after_calls_lem ns = gone ns packets n r (starts packets n r a refl refl)

  pub always_ready : Always r
  always_ready ns = ready (after_calls_lem ns).going

  pub breaks : (ns : List ℕ) → Breaks (receiver room buffer packets) packets n ns
  breaks ns =
      let w = after_calls_lem ns in
      let g = w.going in
      record {
        in_order = record { missing = notes_for (whole w.arrive w.left); joined = w.logged };
        all = λ e. sym (append-nil (log r ns)) ∙ ap (λ (ps : List Packet). log r ns ++ notes_for ps) (sym (none_whole w.left w.arrive (last r ns) g e)) ∙ w.logged;
        still_open = (always_ready ns).closed;
        ends = λ b e.
            let none : [] ≡ take w.arrive (bytes w.left) = ap bytes (sym (none_whole w.left w.arrive (last r ns) g e)) ∙ w.between_two b in
            stands_between g (part_is g e ∙ sym none);
        uses = λ h. drop_of_length-le (last r ns).unread {i = 0} (omega (arith, uses_all ns r always_ready, h));
      }

pub breaking : Breaking
breaking xs room buffer n schedule r l some most fit long = breaks (kept fresh xs) room buffer n (kept_awaited xs room buffer r l some most fit long) schedule
