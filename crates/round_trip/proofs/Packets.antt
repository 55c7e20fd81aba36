-- A packet that is kept hands out its message: a first chunk after what is remembered, and the later ones.
use Rattle.std.proofs.Common.{ℕ, ◌-◌, ◌^◌, ◌≤◌, ◌<◌, min, ◌≡◌, ap, true, List, [], arith, length, take, drop, length-drop, length-take, take-append-drop}
use mathlib.Core.Option.{Option, some, get_or}
use Rattle.chunk_header.specs.declared.ChunkHeader.{ChunkHeader}
use Rattle.chunk_header.specs.declared.ChunkHeaderFormat.{ChunkHeaderFormat}
use Rattle.serializer.specs.declared.format.Message.{Message}
use Rattle.serializer.specs.Header.{format, header, header_by}
use Rattle.serializer.specs.Message.{chunk_stream}
use Rattle.serializer.specs.Packet.{later_format, packet}
use Rattle.serializer.proofs.Pieces.{pieces_step}
use Rattle.decoding.specs.Decoder.{Decoder}
use Rattle.decoding.specs.Calls.{Ready}
use Rattle.stream_meaning.specs.View.{viewed}
use Rattle.round_trip.proofs.First.{GoesOn, chosen, first_chunk_lem, outside}
use Rattle.round_trip.proofs.Held.{Spare}
use Rattle.round_trip.proofs.Reading.{Reads, chunk_then, later_reads}
use Rattle.round_trip.proofs.Wire.{Fits, said_by}

-- a forced message begins with type 0, whose field is the time
forced_time : (m : Message) (previous : ChunkHeader) → m.force_uncompressed ≡ true → (header m previous).timestamp_field ≡ m.timestamp.value
unfolding format
forced_time m previous e = rw e

-- what a decoder is to be for a message after what is remembered of its stream
pub record Awake (d : Decoder) (buffer : List ℕ) (m : Message) (previous : ChunkHeader) : Type 0 where
  pub ready : Ready d buffer
  pub message : d.reader.message.id ≡ 0
  pub spare : Spare d.rows
  pub knows : GoesOn m previous → (viewed d buffer (chunk_stream m.type_id)).stored ≡ some (said_by previous)
  pub before : previous.timestamp.value < 2 ^ 32

pub packet_reads : (d : Decoder) (buffer : List ℕ) (m : Message) (previous : ChunkHeader) (payload : List ℕ) → Awake d buffer m previous
    → ((f : ChunkHeaderFormat) → Fits (header_by f m previous))
    → 0 < d.setting.size → m.length ≡ length payload → 0 < length payload → m.length ≤ d.setting.room
    → Reads d buffer (header m previous) payload (packet d.setting.size m payload previous)
unfolding packet
packet_reads d buffer m previous payload w fits some_size long bytes room =
    let size : ℕ = d.setting.size in
    let f : ChunkHeaderFormat = format m previous in
    let g : ChunkHeaderFormat = later_format m.force_uncompressed in
    let h : ChunkHeader = header m previous in
    let k : length (take size payload) ≡ min size (length payload) = length-take size payload in
    let n : length (drop size payload) ≡ length payload - size = length-drop size payload in
    let t = first_chunk_lem m previous (take size payload) d buffer w.message w.spare w.knows f (chosen m previous) (fits f) w.before room (omega (arith, k, long)) in
    let none_yet = ap (λ (come : Option (List ℕ)). get_or come []) (outside m previous (take size payload) d buffer w.message w.spare w.knows) in
    rw (pieces_step size payload some_size bytes)
    (chunk_then f g h size [] payload (fits f) some_size w.ready t none_yet (omega (arith, long))
    (λ less a. rw (take-append-drop size payload) at (later_reads h (fits f) m.force_uncompressed (forced_time m previous) size some_size (length (drop size payload)) _ _ (take size payload) (drop size payload) a.ready a.mine a.size (omega (arith, k, n, less, long)) (omega (arith, n, less)) (omega arith))))
