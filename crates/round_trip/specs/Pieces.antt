-- Bytes cut into pieces, as one way to choose the numbers of the calls: each piece is offered, and what a call leaves of it is offered again before the next one.
use Rattle.std.specs.Prelude.{ℕ, List, [], ◌∷◌, ◌++◌, map, ◌≡◌, length, drop}
use Rattle.decoding.specs.Answer.{used}
use Rattle.round_trip.specs.Demand3.{Packet, Receiver, after, handed, last, log, offered}

-- the numbers by which pieces are offered to a receiver
pub data Offers : Receiver → List (List ℕ) → List ℕ → Type 0 where
  none : {r : Receiver} → Offers r [] []
  next : {r : Receiver} {pieces : List (List ℕ)} {ns : List ℕ} → Offers r pieces ns → Offers r ([] ∷ pieces) ns
  offer : {r : Receiver} {b : ℕ} {piece : List ℕ} {pieces : List (List ℕ)} {ns : List ℕ}
      → Offers (after r (length (b ∷ piece))) (drop (used (offered r (length (b ∷ piece))).answer) (b ∷ piece) ∷ pieces) ns
      → Offers r ((b ∷ piece) ∷ pieces) (length (b ∷ piece) ∷ ns)

abbrev pub joined : List (List ℕ) → List ℕ
joined [] = []
joined (piece ∷ pieces) = piece ++ joined pieces

-- pieces that are offered so hand out every message of the packets
pub record Fed (r : Receiver) (packets : List Packet) (pieces : List (List ℕ)) : Type 0 where
  pub schedule : List ℕ
  pub offers : Offers r pieces schedule
  pub all : log r schedule ≡ map (λ (p : Packet). handed p.message) packets
  pub ends : (last r schedule).unread ≡ []
