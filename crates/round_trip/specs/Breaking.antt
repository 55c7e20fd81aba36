-- "If the kept bytes stop after any byte, the decoder has handed out exactly the kept messages whose last byte arrived, and refused nothing."
use Rattle.std.specs.Prelude.{ℕ, ◌-◌, ◌≤◌, Bool, cond, true, List, [], ◌∷◌, map, ◌≡◌, leb, length, take}
use Rattle.serializer.specs.Remembered.{fresh}
use Rattle.decoding.specs.Told.{between, max_room}
use Rattle.round_trip.specs.Demand3.{Begins, InRange, LeavesOutDroppable, Packet, Receiver, Sending, bytes, handed, kept, last, log, longest, offers, receiver}

-- a packet's last byte is among the first n bytes
abbrev pub has_arrived : (n : ℕ) → Packet → Bool
has_arrived n p = leb (length p.bytes) n

-- the packets of which that holds
abbrev pub whole : (n : ℕ) → List Packet → List Packet
whole n [] = []
whole n (p ∷ ps) = cond (has_arrived n p) (p ∷ whole (n - length p.bytes) ps) []

-- the receiver to which only the first n bytes come
abbrev pub broken_after : (n : ℕ) → Receiver → Receiver
broken_after n r = record { decoder = r.decoder; buffer = r.buffer; unread = take n r.unread; tells = r.tells }

-- "exactly the kept messages whose last byte arrived, and refused nothing": after any calls as far as they came, and all of them where nothing is unread;
-- the decoder is open, and where the line broke between two packets it stands between messages
pub record Breaks (r : Receiver) (packets : List Packet) (n : ℕ) (schedule : List ℕ) : Type 0 where
  pub in_order : Begins (log (broken_after n r) schedule) (map (λ (p : Packet). handed p.message) (whole n packets))
  pub all : (last (broken_after n r) schedule).unread ≡ [] → log (broken_after n r) schedule ≡ map (λ (p : Packet). handed p.message) (whole n packets)
  pub still_open : (last (broken_after n r) schedule).decoder.closed ≡ 0
  pub ends : bytes (whole n packets) ≡ take n (bytes packets) → (last (broken_after n r) schedule).unread ≡ [] → between (last (broken_after n r) schedule).decoder.reader ≡ true
  pub uses : length (take n (bytes packets)) ≤ offers schedule → (last (broken_after n r) schedule).unread ≡ []

-- for every n, by the conditions of demand 3
abbrev pub Breaking : Type 0
Breaking =
    (run : List Sending) (room : ℕ) (buffer : List ℕ) (n : ℕ) (schedule : List ℕ) → InRange run → LeavesOutDroppable run
    → 1 ≤ room → room ≤ max_room → longest (kept fresh run) ≤ room → room ≤ length buffer
    → Breaks (receiver room buffer (kept fresh run)) (kept fresh run) n schedule
