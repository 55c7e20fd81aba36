-- The runs give what is expected, by computing the definitions.
use Rattle.std.proofs.Common.{ℕ, ◌≤◌, true, List, [], ◌∷◌, map, ◌≡◌, refl, sym, ap, arith, lit≤, length, get_or, take}
use Rattle.fields.specs.Endian.{big_endian, little_endian, gather}
use Rattle.chunk_header.specs.Basic.{csid}
use Rattle.chunk_header.specs.Layout.{chunk_bytes}
use Rattle.chunk_header.specs.Table.{field_length, format_of}
use Rattle.serializer.specs.Header.{delta, format}
use Rattle.serializer.specs.Message.{chunk_stream}
use Rattle.serializer.specs.Packet.{pieces, packet}
use Rattle.serializer.specs.Remembered.{fresh}
use Rattle.serializer.specs.Serialize.{sent, serialized, size_changed}
use Rattle.decoding.specs.Call.{after, next, run, step_of, writes}
use Rattle.byte_machine.specs.Payload.{pays, landed}
use Rattle.byte_machine.specs.Step.{named, timestamp_field_step, length_field_step, type_field_step, stream_field_step, extended_field_step}
use Rattle.byte_machine.specs.Header.{opens, whole, extended_next, stream_next, type_next, length_next, timestamp_next}
use Rattle.chunk_meaning.specs.Meaning.{basic_refusal, later_refusal, first_refusal}
use Rattle.byte_machine.specs.Rows.{find, free, put_row}
use Rattle.decoding.specs.Told.{made, told, between}
use Rattle.round_trip.specs.Demand3.{
  new,
  Packet,
  kept,
  LeavesOutDroppable,
  InRange,
  bytes,
  longest,
  receiver,
  Note,
  handed,
  refused,
  log,
  last,
  offers,
  HandsOut,
}
use Rattle.round_trip.specs.Breaking.{broken_after}
use Rattle.round_trip.proofs.Demand3.{demand_3}
use Rattle.round_trip.specs.Runs.{
  trip,
  trip_packets,
  trip_messages,
  trip_schedule,
  byte_by_byte,
  message_by_message,
  room,
  buffer,
  uncut,
  Claim,
  Any,
  undroppable_left_out,
  undroppable_left_out_log,
  log_late,
  told_late,
  told_late_log,
  room_one_short,
  room_one_short_log,
  log_touched,
  buffer_touched,
  buffer_touched_log,
  telling,
  zero_told,
  zero_told_log,
}

-- all that a run computes with: a statement that unfolds this unfolds what it names
unfoldable Computing : Type 0
unfolding field_length format_of after next run step_of writes opens whole extended_next stream_next type_next length_next timestamp_next named timestamp_field_step length_field_step type_field_step stream_field_step extended_field_step pays landed basic_refusal later_refusal first_refusal put_row find free made told big_endian little_endian gather csid chunk_bytes delta format chunk_stream pieces packet sent serialized size_changed
Computing = Unit {0}

-- the trip: what is written ..
pub trip_writes : map (λ (p : Packet). p.bytes) (kept fresh trip) ≡ trip_packets
unfolding Computing
trip_writes = refl

pub trip_keeps : map (λ (p : Packet). p.message) (kept fresh trip) ≡ trip_messages
unfolding Computing
trip_keeps = refl

-- .. and what is handed out
pub trip_hands_out : log (receiver room buffer (kept fresh trip)) trip_schedule ≡ map handed trip_messages
unfolding Computing
trip_hands_out = refl

pub trip_uses_all : (last (receiver room buffer (kept fresh trip)) trip_schedule).unread ≡ []
unfolding Computing
trip_uses_all = refl

pub trip_hands_out_byte_by_byte : log (receiver room buffer (kept fresh trip)) byte_by_byte ≡ map handed trip_messages
unfolding Computing
trip_hands_out_byte_by_byte = refl

pub trip_hands_out_message_by_message : log (receiver room buffer (kept fresh trip)) message_by_message ≡ map handed trip_messages
unfolding Computing
trip_hands_out_message_by_message = refl

-- where the line breaks: before the first byte, one byte before the end of the second packet, and at its end
pub trip_breaks :
    (log (broken_after 0 (receiver room buffer (kept fresh trip))) byte_by_byte ≡ [])
    × (log (broken_after 21 (receiver room buffer (kept fresh trip))) byte_by_byte ≡ map handed (take 1 trip_messages))
    × (log (broken_after 22 (receiver room buffer (kept fresh trip))) byte_by_byte ≡ map handed (take 2 trip_messages))
unfolding Computing
trip_breaks = (refl, refl, refl)

pub trip_ends :
    (between (last (receiver room buffer (kept fresh trip)) trip_schedule).decoder.reader ≡ true)
    × ((last (receiver room buffer (kept fresh trip)) trip_schedule).decoder.closed ≡ 0)
unfolding Computing
trip_ends = (refl, refl)

-- demand 3's conditions hold of the trip
pub trip_in_range : InRange trip
trip_in_range = search arith

pub trip_leaves_out_droppable : LeavesOutDroppable trip
trip_leaves_out_droppable = (sym, (sym, (sym, (sym, (sym, (sym, (λ _. refl, (sym, (sym, (sym, (sym, (sym, (sym, (sym, (λ _. refl, tt)))))))))))))))

pub trip_fits : longest (kept fresh trip) ≤ room
unfolding Computing
trip_fits = lit≤ tt

pub trip_offers_all : length (bytes (kept fresh trip)) ≤ offers byte_by_byte
unfolding Computing
trip_offers_all = lit≤ tt

-- .. so the theorem speaks of it
pub trip_demanded : HandsOut (receiver room buffer (kept fresh trip)) (kept fresh trip) trip_schedule
trip_demanded = demand_3 trip room buffer trip_schedule trip_in_range trip_leaves_out_droppable (lit≤ tt) (lit≤ tt) trip_fits (lit≤ tt)

-- the claim that is weakened below is demand 3's own
pub demand_3_claims : Claim LeavesOutDroppable log 0
demand_3_claims run room buffer schedule ranged leaves some most fits lent =
    (demand_3 run room buffer schedule ranged leaves some most (omega arith) lent).in_order

-- the numbers of a note: 1 and a message's own, or 0 and a refusal's
abbrev numbers : Note → List ℕ
numbers (handed m) = 1 ∷ m.type ∷ m.stream ∷ m.time ∷ m.payload
numbers (refused number) = 0 ∷ number ∷ []

abbrev number_of : ℕ → ℕ → List Note → ℕ
number_of i j notes = get_or (get_or (map numbers notes) i []) j 0

-- 1. the clock slips after a packet that was not droppable
pub undroppable_left_out_logs : log (receiver room buffer (kept fresh undroppable_left_out)) uncut ≡ undroppable_left_out_log
unfolding Computing
undroppable_left_out_logs = refl

pub not_any_left_out : Claim Any log 0 → ⊥
unfolding Computing
not_any_left_out claim =
    let begins = claim undroppable_left_out room buffer uncut (search arith) tt (lit≤ tt) (lit≤ tt) (lit≤ tt) (lit≤ tt) in
    let times : ◌≡◌ {A = ℕ} 0 80 = ap (number_of 1 3) begins.joined in
    omega arith

-- 2. a header lands in the payload where the size is told late
pub told_late_logs : log_late (receiver room buffer (kept fresh told_late)) uncut ≡ told_late_log
unfolding Computing
told_late_logs = refl

pub not_told_late : Claim LeavesOutDroppable log_late 0 → ⊥
unfolding Computing
not_told_late claim =
    let begins = claim told_late room buffer uncut (search arith) (sym, (sym, tt)) (lit≤ tt) (lit≤ tt) (lit≤ tt) (lit≤ tt) in
    let second_bytes : ◌≡◌ {A = ℕ} 0xC4 0x99 = ap (number_of 1 5) begins.joined in
    omega arith

-- 3. a room one byte short is refused
pub room_one_short_logs : log (receiver 1 buffer (kept fresh room_one_short)) uncut ≡ room_one_short_log
unfolding Computing
room_one_short_logs = refl

pub not_room_one_short : Claim LeavesOutDroppable log 1 → ⊥
unfolding Computing
not_room_one_short claim =
    let begins = claim room_one_short 1 buffer uncut (search arith) (sym, tt) (lit≤ tt) (lit≤ tt) (lit≤ tt) (lit≤ tt) in
    let kinds : ◌≡◌ {A = ℕ} 0 1 = ap (number_of 0 0) begins.joined in
    omega arith

-- 4. a byte that is changed in the buffer comes out
pub buffer_touched_logs : log_touched (receiver room buffer (kept fresh buffer_touched)) uncut ≡ buffer_touched_log
unfolding Computing
buffer_touched_logs = refl

pub not_buffer_touched : Claim LeavesOutDroppable log_touched 0 → ⊥
unfolding Computing
not_buffer_touched claim =
    let begins = claim buffer_touched room buffer uncut (search arith) (sym, tt) (lit≤ tt) (lit≤ tt) (lit≤ tt) (lit≤ tt) in
    let first_bytes : ◌≡◌ {A = ℕ} 0xFF 0x11 = ap (number_of 0 4) begins.joined in
    omega arith

-- a refused size shows in a log
pub zero_told_logs : log (telling (new 0 ∷ []) (receiver room buffer (kept fresh zero_told))) uncut ≡ zero_told_log
unfolding Computing
zero_told_logs = refl
