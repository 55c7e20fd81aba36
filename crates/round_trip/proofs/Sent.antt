-- A call of the encoder is refused and leaves all as it was, or writes its message's packet and remembers it.
use Rattle.std.proofs.Common.{ℕ, ◌^◌, ◌≤◌, ◌<◌, ◌≡◌, refl, sym, Bool, true, false, cond, List, arith, eqb, ltb, length, take, ltb-false}
use Rattle.std.proofs.Math.Seq.{take-append_seam}
use borrow.Author.Tests.{eqb-false}
use Rattle.fields.specs.Endian.{big_endian}
use Rattle.fields.proofs.Endian.{length_big}
use Rattle.chunk_header.specs.declared.ChunkHeader.{ChunkHeader}
use Rattle.chunk_header.specs.declared.ChunkHeaderFormat.{ChunkHeaderFormat}
use Rattle.chunk_header.specs.declared.ChunkHeaderFormat.TheVariants.{Full, TimeDeltaWithoutMessageStreamId, TimeDeltaOnly, Empty}
use Rattle.serializer.specs.declared.ChunkSerializer.{ChunkSerializer}
use Rattle.serializer.specs.declared.format.Message.{Message as Parameters}
use Rattle.serializer.specs.Answer.{wrote, refused}
use Rattle.serializer.specs.Header.{delta, header_by}
use Rattle.serializer.specs.Message.{message as to_encode}
use Rattle.serializer.specs.Remembered.{packet_of, remember}
use Rattle.serializer.specs.Serialize.{Outcome, accept, refuse, sent, serialized, size_changed, size_message}
use Rattle.chunk_header.specs.Limits.{max_length, max_size}
use Rattle.serializer.proofs.Stream.{stream_range}
use Rattle.round_trip.specs.Demand3.{Call, Ranged, encodes, resize, send}
use Rattle.round_trip.proofs.Wire.{Fits}

-- the message that a call encodes, its payload, and the chunk size that holds afterwards
abbrev pub encoded : Call → Parameters
encoded (send type stream time payload forced droppable output) = to_encode type stream time (length payload) forced droppable
encoded (resize size time output) = size_message time

abbrev pub body : Call → List ℕ
body (send type stream time payload forced droppable output) = payload
body (resize size time output) = big_endian 4 size

abbrev pub size_after : ChunkSerializer → Call → ℕ
size_after s (send type stream time payload forced droppable output) = s.max_chunk_size
size_after s (resize size time output) = size

-- a size that the encoder takes
abbrev pub Taken : Call → Type 0
Taken (send type stream time payload forced droppable output) = Unit {0}
Taken (resize size time output) = (0 < size) × (size ≤ max_size)

-- the packet is written at the start of the output, and its header remembered
pub record Accepted (s : ChunkSerializer) (c : Call) (o : Outcome) : Type 0 where
  pub answer : o.answer ≡ wrote (length (packet_of s (encoded c) (body c)))
  pub output : take (length (packet_of s (encoded c) (body c))) o.output ≡ packet_of s (encoded c) (body c)
  pub serializer : o.serializer ≡ remember s (encoded c) (size_after s c)
  pub some : 0 < length (body c)
  pub most : length (body c) ≤ max_length
  pub size : Taken c

pub data Answers (s : ChunkSerializer) (c : Call) (o : Outcome) : Type 0 where
  refuses : (number : ℕ) → o.answer ≡ refused number → o.serializer ≡ s → Answers s c o
  accepts : Accepted s c o → Answers s c o

-- a packet that is sent is refused with 5, or written
sent_by : (P : Outcome → Type 0) (s : ChunkSerializer) (m : Parameters) (payload : List ℕ) (size : ℕ) (output : List ℕ) → P (refuse s output 5)
    → P (accept s m payload size output)
    → P (sent s m payload size output)
unfolding sent
sent_by P s m payload size output p q = by_test (ltb (length output) (length (packet_of s m payload)))
  where
    by_test : (t : Bool) → P (cond t (refuse s output 5) (accept s m payload size output))
    by_test true = p
    by_test false = q

answers_send : (s : ChunkSerializer) (type stream time : ℕ) (payload : List ℕ) (forced droppable : Bool) (output : List ℕ)
    → Answers s (send type stream time payload forced droppable output) (encodes s (send type stream time payload forced droppable output))
unfolding serialized
answers_send s type stream time payload forced droppable output = by_tests (eqb (length payload) 0) (ltb max_length (length payload)) refl refl
  where
    m : Parameters
    m = to_encode type stream time (length payload) forced droppable

    c : Call
    c = send type stream time payload forced droppable output

    by_tests : (a b : Bool) → eqb (length payload) 0 ≡ a → ltb max_length (length payload) ≡ b
        → Answers s c (cond a (refuse s output 1) (cond b (refuse s output 2) (sent s m payload s.max_chunk_size output)))
    by_tests true b p q = refuses 1 refl refl
    by_tests false true p q = refuses 2 refl refl
    by_tests false false p q =
        sent_by (Answers s c) s m payload s.max_chunk_size output (refuses 5 refl refl)
        (accepts record {
          answer = refl;
          output = take-append_seam (packet_of s m payload) _;
          serializer = refl;
          some = let n = eqb-false (length payload) 0 p in omega arith;
          most = ltb-false max_length (length payload) q;
          size = tt;
        })

answers_resize : (s : ChunkSerializer) (size time : ℕ) (output : List ℕ) → Answers s (resize size time output) (encodes s (resize size time output))
unfolding size_changed
answers_resize s size time output = by_tests (eqb size 0) (ltb max_size size) refl refl
  where
    by_tests : (a b : Bool) → eqb size 0 ≡ a → ltb max_size size ≡ b
        → Answers s (resize size time output)
        (cond a (refuse s output 3) (cond b (refuse s output 4) (sent s (size_message time) (big_endian 4 size) size output)))
    by_tests true b p q = refuses 3 refl refl
    by_tests false true p q = refuses 4 refl refl
    by_tests false false p q =
        sent_by (Answers s (resize size time output)) s (size_message time) (big_endian 4 size) size output (refuses 5 refl refl)
        (accepts record {
          answer = refl;
          output = take-append_seam (packet_of s (size_message time) (big_endian 4 size)) _;
          serializer = refl;
          some = rw (length_big 4 size) (omega arith);
          most = rw (length_big 4 size) (omega arith);
          size = (let n = eqb-false size 0 p in omega arith, ltb-false max_size size q);
        })

pub answers : (s : ChunkSerializer) (c : Call) → Answers s c (encodes s c)
answers s (send type stream time payload forced droppable output) = answers_send s type stream time payload forced droppable output
answers s (resize size time output) = answers_resize s size time output

-- the message of a call is as long as its payload
pub long_as : (c : Call) → (encoded c).length ≡ length (body c)
long_as (send type stream time payload forced droppable output) = refl
long_as (resize size time output) = sym (length_big 4 size)

-- a delta has 32 bits
field_less : (f : ChunkHeaderFormat) (m : Parameters) (previous : ChunkHeader) → m.timestamp.value < 2 ^ 32 → (header_by f m previous).timestamp_field < 2 ^ 32
unfolding delta
field_less Full m previous h = h
field_less TimeDeltaWithoutMessageStreamId m previous h = omega arith
field_less TimeDeltaOnly m previous h = omega arith
field_less Empty m previous h = omega arith

-- the numbers of a call's message fit their fields
pub time_less : (c : Call) → Ranged c → (encoded c).timestamp.value < 2 ^ 32
time_less (send type stream time payload forced droppable output) r = r.2
time_less (resize size time output) r = r

type_less : (c : Call) → Ranged c → (encoded c).type_id < 2 ^ 8
type_less (send type stream time payload forced droppable output) r = r.0
type_less (resize size time output) r = omega arith

stream_less : (c : Call) → Ranged c → (encoded c).stream_id < 2 ^ 32
stream_less (send type stream time payload forced droppable output) r = r.1
stream_less (resize size time output) r = omega arith

pub fits : (c : Call) (previous : ChunkHeader) (f : ChunkHeaderFormat) → Ranged c → length (body c) ≤ max_length → Fits (header_by f (encoded c) previous)
fits c previous f r l =
    let i = stream_range (encoded c).type_id in
    record {
      id_least = i.0;
      id_most = i.1;
      time = time_less c r;
      field = field_less f (encoded c) previous (time_less c r);
      length = omega (arith, long_as c, l);
      type = type_less c r;
      stream = stream_less c r;
    }
