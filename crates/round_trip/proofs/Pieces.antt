-- Every cutting into pieces comes to an end, since a call that is offered a byte uses one: so demand 3 covers it.
use Rattle.std.proofs.Common.{ℕ, zero, suc, ◌+◌, ◌≤◌, ◌<◌, ◌≡◌, sym, ap, subst, ◌∙◌, List, [], ◌∷◌, ◌++◌, arith, length, drop, length-append, length-drop}
use Rattle.std.proofs.Math.Seq.{drop-append-le, take-append_seam}
use Rattle.serializer.specs.Remembered.{fresh}
use Rattle.decoding.specs.Answer.{used}
use Rattle.decoding.specs.Call.{next as called}
use Rattle.decoding.specs.Told.{max_room}
use Rattle.decoding.proofs.Progress.{run_uses, uses_a_byte}
use Rattle.decoding.proofs.Runs.{next_runs}
use Rattle.round_trip.specs.Demand3.{InRange, LeavesOutDroppable, Receiver, Sending, after, bytes, kept, last, longest, offered, receiver}
use Rattle.round_trip.specs.Pieces.{Fed, Offers, joined, next, none, offer}
use Rattle.round_trip.proofs.Breaking.{always_ready}
use Rattle.round_trip.proofs.Demand3.{demand_3, same_receiver}
use Rattle.round_trip.proofs.Kept.{kept_awaited}
use Rattle.round_trip.proofs.Receiving.{Always, Ready, past_used}

-- a call over a piece: it uses a byte at least, and no more than the piece has
module _ (r : Receiver) (b : ℕ) (piece others : List ℕ) (k : Ready r) (e : r.unread ≡ (b ∷ piece) ++ others) where
  abbrev n : ℕ
  n = used (offered r (length (b ∷ piece))).answer

  is_piece : offered r (length (b ∷ piece)) ≡ called r.decoder (b ∷ piece) r.buffer
  is_piece = rw (e, take-append_seam (b ∷ piece) others)

  least : 0 < n
  least = rw is_piece (uses_a_byte r.decoder b piece r.buffer k.closed k.room)

  most : n ≤ length (b ∷ piece)
  most =
      let u = (run_uses (b ∷ piece) r.decoder r.buffer 0).most in
      rw (is_piece, next_runs r.decoder (b ∷ piece) r.buffer k.closed k.room) (omega (arith, u))

  left_unread : (after r (length (b ∷ piece))).unread ≡ drop n (b ∷ piece) ++ others
  left_unread = past_used r (length (b ∷ piece)) ∙ ap (λ (l : List ℕ). drop n l) e ∙ drop-append-le n (b ∷ piece) others most

  left_less : (m bound : ℕ) → length ((b ∷ piece) ++ others) + m ≤ suc bound → length (drop n (b ∷ piece) ++ others) + m ≤ bound
  left_less m bound h = rw (length-append, length-drop) (omega (arith, least, length-append (b ∷ piece) others, h))

record Offered (r : Receiver) (pieces : List (List ℕ)) : Type 0 where
  schedule : List ℕ
  offers : Offers r pieces schedule
  ends : (last r schedule).unread ≡ []

offered_all : (bound : ℕ) (r : Receiver) (pieces : List (List ℕ)) → Always r → r.unread ≡ joined pieces
    → length (joined pieces) + length pieces ≤ bound
    → Offered r pieces
offered_all bound r [] a e h = record { schedule = []; offers = none; ends = e }
offered_all zero r (piece ∷ pieces) a e h = absurd (omega arith)
offered_all (suc bound) r ([] ∷ pieces) a e h =
    let w = offered_all bound r pieces a e (omega (arith, h)) in
    record { schedule = w.schedule; offers = next w.offers; ends = w.ends }
offered_all (suc bound) r ((b ∷ piece) ∷ pieces) a e h =
    let k = a [] in
    let w = offered_all bound (after r (length (b ∷ piece))) (drop (used (offered r (length (b ∷ piece))).answer) (b ∷ piece) ∷ pieces) (λ ns. a (length (b ∷ piece) ∷ ns)) (left_unread r b piece (joined pieces) k e) (left_less r b piece (joined pieces) k e (suc (length pieces)) bound h) in
    record { schedule = length (b ∷ piece) ∷ w.schedule; offers = offer w.offers; ends = w.ends }

-- however the kept bytes are cut into pieces, each kept message comes out
pub pieces_fed : (xs : List Sending) (room : ℕ) (buffer : List ℕ) (pieces : List (List ℕ)) → InRange xs → LeavesOutDroppable xs → 1 ≤ room → room ≤ max_room
    → longest (kept fresh xs) ≤ room
    → room ≤ length buffer
    → joined pieces ≡ bytes (kept fresh xs)
    → Fed (receiver room buffer (kept fresh xs)) (kept fresh xs) pieces
pieces_fed xs room buffer pieces r l some most fit long e =
    let always : Always (receiver room buffer (kept fresh xs)) =
    subst Always (same_receiver room buffer (kept fresh xs)) (always_ready (kept fresh xs) room buffer (length (bytes (kept fresh xs))) (kept_awaited xs room buffer r l some most fit long))
    in
    let w = offered_all (length (joined pieces) + length pieces) (receiver room buffer (kept fresh xs)) pieces always (sym e) (omega arith) in
    record { schedule = w.schedule; offers = w.offers; all = (demand_3 xs room buffer w.schedule r l some most fit long).all w.ends; ends = w.ends }
