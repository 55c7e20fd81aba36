-- "An accepted plan on a session's packets, marked as the encoder was told and size changes never droppable, gives the kept messages of
-- demand 3" (document 02, Ten).
use Rattle.std.specs.Prelude.{ℕ, suc, ◌^◌, ◌≤◌, ◌<◌, Bool, true, List, [], ◌∷◌, ◌++◌, map, ◌≡◌, length, take, drop}
use Rattle.serializer.specs.declared.ChunkSerializer.{ChunkSerializer}
use Rattle.serializer.specs.Answer.{Answer as Written, wrote, refused as not_written}
use Rattle.serializer.specs.Remembered.{fresh}
use Rattle.decoding.specs.Told.{max_room}
use Rattle.drop_plan.specs.Answer.{accepted}
use Rattle.drop_plan.specs.Check.{among, judged}
use Rattle.drop_plan.specs.Queue.{Queue, length_at, queue}
use Rattle.round_trip.specs.Demand3.{Call, HandsOut, InRange, LeavesOutDroppable, Packet, Sending, bytes, encodes, kept, longest, may_be_left_out, packets_of, receiver}

-- a stretch of a session: calls of the encoder, and the places to keep of their packets within a limit. A session is such stretches one
-- after the other, since a queue holds 64 packets at most
pub record Stretch : Type 0 where
  pub calls : List Call
  pub limit : ℕ
  pub places : List ℕ

-- "a session's packets": those of the accepted calls, each with its call
pub record Queued : Type 0 where
  pub call : Call
  pub packet : Packet

abbrev pub queued : ChunkSerializer → List Call → List Queued
queued s [] = []
queued s (c ∷ cs) =
    let o = encodes s c in
    map (λ (p : Packet). record { call = c; packet = p }) (packets_of c o.answer o.output) ++ queued o.serializer cs

abbrev pub packets : List Queued → List Packet
packets xs = map (λ (x : Queued). x.packet) xs

-- "marked as the encoder was told and size changes never droppable"
abbrev pub queue_of : List Queued → Queue
queue_of xs = queue (map (λ (p : Packet). length p.bytes) (packets xs)) (map (λ (x : Queued). may_be_left_out x.call) xs)

-- the encoder after calls
abbrev pub after_calls : ChunkSerializer → List Call → ChunkSerializer
after_calls s [] = s
after_calls s (c ∷ cs) = after_calls (encodes s c).serializer cs

abbrev pub Accepted : ChunkSerializer → List Stretch → Type 0
Accepted s [] = Unit {0}
Accepted s (x ∷ xs) = (judged (queue_of (queued s x.calls)) x.limit x.places ≡ accepted) × Accepted (after_calls s x.calls) xs

-- the run of demand 3 that keeps those places, where `at` packets came before: a refused call has no packet to leave out
abbrev pub is_kept : Written → (at : ℕ) → (places : List ℕ) → Bool
is_kept (wrote n) at places = among at places
is_kept (not_written number) at places = true

abbrev pub next_place : Written → (at : ℕ) → ℕ
next_place (wrote n) at = suc at
next_place (not_written number) at = at

abbrev pub sendings : ChunkSerializer → (at : ℕ) → (places : List ℕ) → List Call → List Sending
sendings s at places [] = []
sendings s at places (c ∷ cs) =
    let o = encodes s c in
    record { call = c; kept = is_kept o.answer at places } ∷ sendings o.serializer (next_place o.answer at) places cs

abbrev pub run : ChunkSerializer → List Stretch → List Sending
run s [] = []
run s (x ∷ xs) = sendings s 0 x.places x.calls ++ run (after_calls s x.calls) xs

-- the plan's packets, in its order
abbrev pub chosen : (places : List ℕ) → List Packet → List Packet
chosen [] ps = []
chosen (k ∷ ks) ps = take 1 (drop k ps) ++ chosen ks ps

abbrev pub planned : ChunkSerializer → List Stretch → List Packet
planned s [] = []
planned s (x ∷ xs) = chosen x.places (packets (queued s x.calls)) ++ planned (after_calls s x.calls) xs

-- the bytes of each stretch's packets are within its limit
abbrev pub WithinLimits : ChunkSerializer → List Stretch → Type 0
WithinLimits s [] = Unit {0}
WithinLimits s (x ∷ xs) = (length (bytes (chosen x.places (packets (queued s x.calls)))) ≤ x.limit) × WithinLimits (after_calls s x.calls) xs

-- "gives the kept messages of demand 3": the run leaves out droppable packets only and keeps the plan's, and these are handed out
pub record Gives (session : List Stretch) : Type 0 where
  pub leaves_out : LeavesOutDroppable (run fresh session)
  pub keeps : kept fresh (run fresh session) ≡ planned fresh session
  pub within : WithinLimits fresh session
  pub hands_out : (room : ℕ) (buffer schedule : List ℕ) → InRange (run fresh session)
      → 1 ≤ room
      → room ≤ max_room
      → longest (planned fresh session) ≤ room
      → room ≤ length buffer
      → HandsOut (receiver room buffer (planned fresh session)) (planned fresh session) schedule

-- and the queue is one that the check takes: each length is of 32 bits
abbrev pub LengthsFit : Type 0
LengthsFit = (s : ChunkSerializer) (calls : List Call) (place : ℕ) → length_at (queue_of (queued s calls)) place < 2 ^ 32

abbrev pub PlanKeeps : Type 0
PlanKeeps = (session : List Stretch) → Accepted fresh session → Gives session
