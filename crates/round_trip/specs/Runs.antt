-- Runs for demand 3: a trip that it speaks of, written out, and for each of four weaker conditions a small run on which it would fail.
use Rattle.std.specs.Prelude.{ℕ, ◌+◌, ◌≤◌, true, false, List, [], ◌∷◌, ◌++◌, map, length, set, replicate}
use Rattle.serializer.specs.Remembered.{fresh}
use Rattle.decoding.specs.Told.{max_room}
use Rattle.stream_meaning.specs.Stream.{Message}
use Rattle.round_trip.specs.Demand3.{
  Call,
  send,
  resize,
  message,
  Tell,
  nothing,
  Packet,
  Sending,
  kept,
  InRange,
  longest,
  Receiver,
  receiver,
  Note,
  handed,
  refused,
  notes,
  after,
  log,
  Begins,
}

-- a call whose packet is kept, and one whose packet is left out
abbrev pub keeping : Call → Sending
keeping call = record { call = call; kept = true }

abbrev pub leaving_out : Call → Sending
leaving_out call = record { call = call; kept = false }

-- the output lent to a call
abbrev output : List ℕ
output = replicate 40 0xDD

-- pictures, doors and sound, all on stream 1
abbrev picture : (time : ℕ) → List ℕ → Call
picture time payload = send 9 1 time payload false false output

abbrev droppable_picture : (time : ℕ) → List ℕ → Call
droppable_picture time payload = send 9 1 time payload false true output

abbrev door : (time : ℕ) → List ℕ → Call
door time payload = send 18 1 time payload false false output

abbrev sound : (time : ℕ) → List ℕ → Call
sound time payload = send 8 1 time payload false false output

abbrev pub trip : List Sending
trip =
    -- refused 1: no payload
    keeping (picture 1000 [])
    -- a first picture: type 0
    ∷ keeping (picture 1000 (0x11 ∷ 0x12 ∷ 0x13 ∷ []))
    -- 40 later, where 1000 is remembered: type 2
    ∷ keeping (picture 1040 (0x21 ∷ 0x22 ∷ 0x23 ∷ []))
    -- a door, on another chunk stream, is refused 5: 13 bytes are needed, and 12 are lent
    ∷ keeping (send 18 1 1050 (0x31 ∷ []) false false (replicate 12 0xDD))
    -- the door again, with output enough: type 0
    ∷ keeping (door 1050 (0x31 ∷ []))
    -- 40 later again: type 3
    ∷ keeping (picture 1080 (0x41 ∷ 0x42 ∷ 0x43 ∷ []))
    -- a droppable picture, of type 3 too, is left out
    ∷ leaving_out (droppable_picture 1120 (0x51 ∷ 0x52 ∷ 0x53 ∷ []))
    -- a picture after a droppable one: type 0
    ∷ keeping (picture 1160 (0x61 ∷ 0x62 ∷ 0x63 ∷ []))
    -- refused 3: a chunk size of 0
    ∷ keeping (resize 0 1170 output)
    -- a chunk size of 2: type 0, whole by the old size
    ∷ keeping (resize 2 1170 output)
    -- a longer door: type 1, and a chunk of type 3
    ∷ keeping (door 1180 (0x71 ∷ 0x72 ∷ 0x73 ∷ []))
    -- a sound late on the clock: type 0 with an extended time, and a chunk of type 3 with it
    ∷ keeping (sound 16777215 (0x81 ∷ 0x82 ∷ 0x83 ∷ []))
    -- the time goes back by 10: type 2 with an extended time, and a chunk of type 3 with it
    ∷ keeping (sound 16777205 (0x91 ∷ 0x92 ∷ 0x93 ∷ []))
    -- a chunk size of 3, cut by the old size: two chunks of type 0
    ∷ keeping (resize 3 1200 output)
    -- the largest type, stream and time, forced, droppable and kept: two chunks of type 0 with an extended time
    ∷ keeping (send 255 4294967295 4294967295 (0xA1 ∷ 0xA2 ∷ 0xA3 ∷ 0xA4 ∷ []) true true output)
    ∷ []

-- the bytes of the kept packets, one packet a line, the last two in two lines each
abbrev pub trip_packets : List (List ℕ)
trip_packets =
    (0x04 ∷ 0x00 ∷ 0x03 ∷ 0xE8 ∷ 0x00 ∷ 0x00 ∷ 0x03 ∷ 0x09 ∷ 0x01 ∷ 0x00 ∷ 0x00 ∷ 0x00 ∷ 0x11 ∷ 0x12 ∷ 0x13 ∷ [])
    ∷ (0x84 ∷ 0x00 ∷ 0x00 ∷ 0x28 ∷ 0x21 ∷ 0x22 ∷ 0x23 ∷ [])
    ∷ (0x03 ∷ 0x00 ∷ 0x04 ∷ 0x1A ∷ 0x00 ∷ 0x00 ∷ 0x01 ∷ 0x12 ∷ 0x01 ∷ 0x00 ∷ 0x00 ∷ 0x00 ∷ 0x31 ∷ [])
    ∷ (0xC4 ∷ 0x41 ∷ 0x42 ∷ 0x43 ∷ [])
    ∷ (0x04 ∷ 0x00 ∷ 0x04 ∷ 0x88 ∷ 0x00 ∷ 0x00 ∷ 0x03 ∷ 0x09 ∷ 0x01 ∷ 0x00 ∷ 0x00 ∷ 0x00 ∷ 0x61 ∷ 0x62 ∷ 0x63 ∷ [])
    ∷ (0x02 ∷ 0x00 ∷ 0x04 ∷ 0x92 ∷ 0x00 ∷ 0x00 ∷ 0x04 ∷ 0x01 ∷ 0x00 ∷ 0x00 ∷ 0x00 ∷ 0x00 ∷ 0x00 ∷ 0x00 ∷ 0x00 ∷ 0x02 ∷ [])
    ∷ (0x43 ∷ 0x00 ∷ 0x00 ∷ 0x82 ∷ 0x00 ∷ 0x00 ∷ 0x03 ∷ 0x12 ∷ 0x71 ∷ 0x72 ∷ 0xC3 ∷ 0x73 ∷ [])
    ∷ (0x05 ∷ 0xFF ∷ 0xFF ∷ 0xFF ∷ 0x00 ∷ 0x00 ∷ 0x03 ∷ 0x08 ∷ 0x01 ∷ 0x00 ∷ 0x00 ∷ 0x00 ∷ 0x00 ∷ 0xFF ∷ 0xFF ∷ 0xFF ∷ 0x81 ∷ 0x82 ∷ 0xC5 ∷ 0x00 ∷ 0xFF ∷ 0xFF ∷ 0xFF ∷ 0x83 ∷ [])
    ∷ (0x85 ∷ 0xFF ∷ 0xFF ∷ 0xFF ∷ 0xFF ∷ 0xFF ∷ 0xFF ∷ 0xF6 ∷ 0x91 ∷ 0x92 ∷ 0xC5 ∷ 0xFF ∷ 0xFF ∷ 0xFF ∷ 0xF6 ∷ 0x93 ∷ [])
    ∷ (0x02 ∷ 0x00 ∷ 0x04 ∷ 0xB0 ∷ 0x00 ∷ 0x00 ∷ 0x04 ∷ 0x01 ∷ 0x00 ∷ 0x00 ∷ 0x00 ∷ 0x00 ∷ 0x00 ∷ 0x00
    ∷ 0x02 ∷ 0x00 ∷ 0x04 ∷ 0xB0 ∷ 0x00 ∷ 0x00 ∷ 0x04 ∷ 0x01 ∷ 0x00 ∷ 0x00 ∷ 0x00 ∷ 0x00 ∷ 0x00 ∷ 0x03 ∷ [])
    ∷ (0x06 ∷ 0xFF ∷ 0xFF ∷ 0xFF ∷ 0x00 ∷ 0x00 ∷ 0x04 ∷ 0xFF ∷ 0xFF ∷ 0xFF ∷ 0xFF ∷ 0xFF ∷ 0xFF ∷ 0xFF ∷ 0xFF ∷ 0xFF ∷ 0xA1 ∷ 0xA2 ∷ 0xA3
    ∷ 0x06 ∷ 0xFF ∷ 0xFF ∷ 0xFF ∷ 0x00 ∷ 0x00 ∷ 0x04 ∷ 0xFF ∷ 0xFF ∷ 0xFF ∷ 0xFF ∷ 0xFF ∷ 0xFF ∷ 0xFF ∷ 0xFF ∷ 0xFF ∷ 0xA4 ∷ [])
    ∷ []

-- the messages that are to come out
abbrev pub trip_messages : List Message
trip_messages =
    message 9 1 1000 (0x11 ∷ 0x12 ∷ 0x13 ∷ [])
    ∷ message 9 1 1040 (0x21 ∷ 0x22 ∷ 0x23 ∷ [])
    ∷ message 18 1 1050 (0x31 ∷ [])
    ∷ message 9 1 1080 (0x41 ∷ 0x42 ∷ 0x43 ∷ [])
    ∷ message 9 1 1160 (0x61 ∷ 0x62 ∷ 0x63 ∷ [])
    ∷ message 1 0 1170 (0x00 ∷ 0x00 ∷ 0x00 ∷ 0x02 ∷ [])
    ∷ message 18 1 1180 (0x71 ∷ 0x72 ∷ 0x73 ∷ [])
    ∷ message 8 1 16777215 (0x81 ∷ 0x82 ∷ 0x83 ∷ [])
    ∷ message 8 1 16777205 (0x91 ∷ 0x92 ∷ 0x93 ∷ [])
    ∷ message 1 0 1200 (0x00 ∷ 0x00 ∷ 0x00 ∷ 0x03 ∷ [])
    ∷ message 255 4294967295 4294967295 (0xA1 ∷ 0xA2 ∷ 0xA3 ∷ 0xA4 ∷ [])
    ∷ []

-- the room is the longest kept payload's length, and the buffer is longer
abbrev pub room : ℕ
room = 4

abbrev pub buffer : List ℕ
buffer = replicate 8 0xEE

-- where the bytes are cut
abbrev pub trip_schedule : List ℕ
trip_schedule =
    -- after the basic header, in the time, in the length, nothing, before the stream id, in it, in the payload; then more than is left of the message
    1 ∷ 2 ∷ 2 ∷ 0 ∷ 3 ∷ 2 ∷ 3 ∷ 9
    -- in the delta, in the payload
    ∷ 3 ∷ 2 ∷ 9
    -- a door whole, and what was offered beyond it again; after a basic header, nothing; a picture whole
    ∷ 30 ∷ 1 ∷ 0 ∷ 30 ∷ 30
    -- in the payload of a size change
    ∷ 14 ∷ 30
    -- in the delta, in the length, before the type, after it, between two chunks, after a basic header
    ∷ 2 ∷ 3 ∷ 2 ∷ 1 ∷ 2 ∷ 1 ∷ 30
    -- in the extended time, in the payload, after a basic header, in the extended time of a later chunk
    ∷ 14 ∷ 3 ∷ 2 ∷ 2 ∷ 30
    -- in the extended delta, in the one of a later chunk
    ∷ 6 ∷ 6 ∷ 30
    -- in the header of a later chunk of type 0
    ∷ 20 ∷ 30
    -- between two chunks, in the extended time of a later chunk of type 0
    ∷ 19 ∷ 14 ∷ 30
    -- nothing is left
    ∷ 1
    ∷ []

-- the same cut at every byte, of which there are 186; and one call a message, each offered all that is unread
abbrev pub byte_by_byte : List ℕ
byte_by_byte = replicate 186 1

abbrev pub message_by_message : List ℕ
message_by_message = replicate 11 186

-- What demand 3 says of the order alone, with three of its parts open: what may be left out, how the calls are made, and by how much the room may be short.
-- Demand 3 is this at `LeavesOutDroppable`, `log` and 0. With any one of them weaker it is false, and a small run shows it.
abbrev pub Claim : (List Sending → Type 0) → (Receiver → List ℕ → List Note) → ℕ → Type 0
Claim MayLeaveOut calls short =
    (run : List Sending) (room : ℕ) (buffer schedule : List ℕ) → InRange run → MayLeaveOut run
    → 1 ≤ room → room ≤ max_room → longest (kept fresh run) ≤ room + short → room ≤ length buffer
    → Begins (calls (receiver room buffer (kept fresh run)) schedule) (map (λ (p : Packet). handed p.message) (kept fresh run))

-- three calls, each offered all that is unread
abbrev pub uncut : List ℕ
uncut = 100 ∷ 100 ∷ 100 ∷ []

-- 1. any packet may be left out, droppable or not
abbrev pub Any : List Sending → Type 0
Any run = Unit {0}

-- three pictures, 40 apart, of which the second is left out: the third is of type 3, and adds to the first
abbrev pub undroppable_left_out : List Sending
undroppable_left_out = keeping (picture 0 (0x11 ∷ [])) ∷ leaving_out (picture 40 (0x22 ∷ [])) ∷ keeping (picture 80 (0x33 ∷ [])) ∷ []

-- the third comes out at 0, and not at 80
abbrev pub undroppable_left_out_log : List Note
undroppable_left_out_log = handed (message 9 1 0 (0x11 ∷ [])) ∷ handed (message 9 1 0 (0x33 ∷ [])) ∷ []

-- 2. each size is told one message late
abbrev pub telling : List Tell → Receiver → Receiver
telling tells r = record { decoder = r.decoder; buffer = r.buffer; unread = r.unread; tells = tells }

abbrev pub log_late : Receiver → List ℕ → List Note
log_late r schedule = log (telling (nothing ∷ r.tells) r) schedule

-- a chunk size of 1, and a picture of two chunks
abbrev pub told_late : List Sending
told_late = keeping (resize 1 0 output) ∷ keeping (picture 0 (0x11 ∷ 0x99 ∷ [])) ∷ []

-- the header of the second chunk, C4, comes out as payload, and the byte after it is read as a header
abbrev pub told_late_log : List Note
told_late_log = handed (message 1 0 0 (0x00 ∷ 0x00 ∷ 0x00 ∷ 0x01 ∷ [])) ∷ handed (message 9 1 0 (0x11 ∷ 0xC4 ∷ [])) ∷ refused 9 ∷ []

-- 3. the room may be one byte short: a picture of two bytes, for a room of 1
abbrev pub room_one_short : List Sending
room_one_short = keeping (picture 0 (0x11 ∷ 0x22 ∷ [])) ∷ []

-- refused, and at each later call again
abbrev pub room_one_short_log : List Note
room_one_short_log = refused 14 ∷ refused 14 ∷ refused 14 ∷ []

-- 4. the first byte of the buffer is changed to FF after a call that was offered 13 bytes
abbrev touched : Receiver → Receiver
touched r = record { decoder = r.decoder; buffer = set r.buffer 0 0xFF; unread = r.unread; tells = r.tells }

abbrev pub log_touched : Receiver → List ℕ → List Note
log_touched r schedule = notes r 13 ++ log (touched (after r 13)) schedule

-- a picture of two bytes: 12 bytes of header and one of payload, and then the last
abbrev pub buffer_touched : List Sending
buffer_touched = keeping (picture 0 (0x11 ∷ 0x22 ∷ [])) ∷ []

-- the byte that was changed comes out
abbrev pub buffer_touched_log : List Note
buffer_touched_log = handed (message 9 1 0 (0xFF ∷ 0x22 ∷ [])) ∷ []

-- A size that is refused is noted as well: 0, told after a picture.
abbrev pub zero_told : List Sending
zero_told = keeping (picture 0 (0x11 ∷ 0x22 ∷ [])) ∷ []

abbrev pub zero_told_log : List Note
zero_told_log = handed (message 9 1 0 (0x11 ∷ 0x22 ∷ [])) ∷ refused 3 ∷ []
