-- A session in two stretches, written out: what it queues, what the planner keeps of it and what is handed out.
use Rattle.std.specs.Prelude.{ℕ, true, false, List, [], ◌∷◌, replicate}
use Rattle.drop_plan.specs.Queue.{Queue, queue}
use Rattle.round_trip.specs.Demand3.{Call, message, resize, send}
use Rattle.stream_meaning.specs.Stream.{Message}
use Rattle.plan_keeps.specs.Session.{Stretch}

abbrev output : List ℕ
output = replicate 40 0xDD

-- droppable pictures and doors, on stream 1
abbrev picture : (time : ℕ) → List ℕ → Call
picture time payload = send 9 1 time payload false true output

abbrev door : (time : ℕ) → List ℕ → Call
door time payload = send 18 1 time payload false false output

-- a picture without payload is refused, and the others are queued
abbrev pub first_calls : List Call
first_calls = picture 990 [] ∷ picture 1000 (0x11 ∷ 0x12 ∷ 0x13 ∷ []) ∷ door 1010 (0x31 ∷ []) ∷ picture 1040 (0x21 ∷ 0x22 ∷ 0x23 ∷ []) ∷ []

abbrev pub first_queue : Queue
first_queue = queue (15 ∷ 13 ∷ 15 ∷ []) (true ∷ false ∷ true ∷ [])

-- of 43 bytes 28 may be kept: the oldest picture goes
abbrev pub first : Stretch
first = record { calls = first_calls; limit = 28; places = 1 ∷ 2 ∷ [] }

-- a size change is not droppable
abbrev pub second_calls : List Call
second_calls = resize 2 1050 output ∷ picture 1080 (0x41 ∷ 0x42 ∷ 0x43 ∷ []) ∷ []

abbrev pub second_queue : Queue
second_queue = queue (16 ∷ 16 ∷ []) (false ∷ true ∷ [])

abbrev pub second : Stretch
second = record { calls = second_calls; limit = 16; places = 0 ∷ [] }

abbrev pub session : List Stretch
session = first ∷ second ∷ []

abbrev pub session_messages : List Message
session_messages = message 18 1 1010 (0x31 ∷ []) ∷ message 9 1 1040 (0x21 ∷ 0x22 ∷ 0x23 ∷ []) ∷ message 1 0 1050 (0x00 ∷ 0x00 ∷ 0x00 ∷ 0x02 ∷ []) ∷ []
