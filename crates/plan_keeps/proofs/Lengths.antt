-- A packet is at most its payload and 16 bytes a chunk, a chunk has a byte of payload at least, and a payload is at most 16777215 bytes: so its length is of 32 bits.
use Rattle.std.proofs.Common.{ℕ, zero, suc, ◌+◌, ◌-◌, ◌*◌, ◌/◌, ◌^◌, ◌≤◌, ◌<◌, Bool, true, false, cond, List, [], ◌∷◌, ◌++◌, map, ◌≡◌, refl, div-lt_iff_lt-mul, mul-le-mul, arith, eqb, ltb, length, length-take, ltb-false}
use Rattle.std.proofs.lemmas.Bool.{eqb-false}
use Rattle.fields.proofs.Endian.{length_big}
use Rattle.fields.specs.Endian.{big_endian}
use Rattle.chunk_header.specs.Limits.{max_length, max_size}
use Rattle.serializer.specs.declared.ChunkSerializer.{ChunkSerializer}
use Rattle.serializer.specs.declared.format.Message.{Message}
use Rattle.serializer.specs.Answer.{Answer as Written, wrote, refused as not_written}
use Rattle.serializer.specs.Message.{message as to_encode}
use Rattle.serializer.specs.Packet.{rounded_up}
use Rattle.serializer.specs.Remembered.{packet_of, size_of}
use Rattle.serializer.specs.Serialize.{accept, refuse, sent, serialized, size_changed, size_message}
use Rattle.serializer.proofs.Bounds.{bounds}
use Rattle.drop_plan.specs.Queue.{length_at}
use Rattle.round_trip.specs.Demand3.{Call, Packet, encodes, packets_of, resize, send}
use Rattle.plan_keeps.specs.Session.{LengthsFit, Queued, queue_of, queued}

-- there are no more chunks than bytes
rounded_most : (n size : ℕ) → 0 < size → rounded_up n size ≤ n
rounded_most n size h =
    let more : n * 1 ≤ n * size = mul-le-mul {m₂ = size} (omega arith) h in
    let below : n + (size - 1) < (n + 1) * size = omega arith in
    let k : (n + (size - 1)) / size < n + 1 = (div-lt_iff_lt-mul h).1 below in
    omega arith

-- an answer is a refusal, or a number of 32 bits
abbrev Small : Written → Type 0
Small (wrote n) = n < 2 ^ 32
Small (not_written number) = Unit {0}

small_sent : (s : ChunkSerializer) (m : Message) (payload : List ℕ) (size : ℕ) (output : List ℕ) → 0 < length payload → length payload ≤ max_length
    → Small (sent s m payload size output).answer
unfolding sent
small_sent s m payload size output p h = go (ltb (length output) (length (packet_of s m payload)))
  where
    go : (b : Bool) → Small (cond b (refuse s output 5) (accept s m payload size output)).answer
    go true = tt
    go false =
        let one : 0 < size_of s = omega arith in
        let a = bounds.most s m payload in
        let n = bounds.count s m payload in
        let b = rounded_most (length payload) (size_of s) one in
        omega arith

small : (s : ChunkSerializer) (c : Call) → Small (encodes s c).answer
unfolding serialized size_changed
small s (send type stream time payload forced droppable output) = go (eqb (length payload) 0) refl (ltb max_length (length payload)) refl
  where
    m : Message
    m = to_encode type stream time (length payload) forced droppable

    go : (b : Bool) → eqb (length payload) 0 ≡ b → (c : Bool) → ltb max_length (length payload) ≡ c
        → Small (cond b (refuse s output 1) (cond c (refuse s output 2) (sent s m payload s.max_chunk_size output))).answer
    go true e c f = tt
    go false e true f = tt
    go false e false f =
        let some : 0 < length payload = omega (arith, eqb-false (length payload) 0 e) in
        small_sent s m payload s.max_chunk_size output some (ltb-false max_length (length payload) f)
small s (resize size time output) = go (eqb size 0) (ltb max_size size)
  where
    go : (b c : Bool) → Small (cond b (refuse s output 3) (cond c (refuse s output 4) (sent s (size_message time) (big_endian 4 size) size output))).answer
    go true c = tt
    go false true = tt
    go false false =
        let four = length_big 4 size in
        small_sent s (size_message time) (big_endian 4 size) size output (omega arith) (omega arith)

-- of what a call puts behind the others, and of what came before it
first_fits : (c : Call) (w : Written) (output : List ℕ) (qs : List Queued) → Small w
    → ((place : ℕ) → length_at (queue_of qs) place < 2 ^ 32)
    → (place : ℕ) → length_at (queue_of (map (λ (p : Packet). record { call = c; packet = p }) (packets_of c w output) ++ qs)) place < 2 ^ 32
first_fits c (wrote n) output qs s h zero = let e = length-take n output in omega arith
first_fits c (wrote n) output qs s h (suc place) = h place
first_fits c (not_written number) output qs s h place = h place

pub lengths_fit : LengthsFit
lengths_fit s [] place = omega arith
lengths_fit s (c ∷ cs) place = let o = encodes s c in first_fits c o.answer o.output (queued o.serializer cs) (small s c) (lengths_fit o.serializer cs) place
