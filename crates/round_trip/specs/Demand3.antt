-- Demand 3, phrase by phrase: the kept messages of an encoder come out of a decoder, however their bytes are cut.
use Rattle.std.specs.Prelude.{ℕ, zero, suc, ◌^◌, ◌≤◌, ◌<◌, max, Bool, true, false, List, [], ◌∷◌, ◌++◌, map, ◌≡◌, length, take, drop}
use Rattle.serializer.specs.declared.ChunkSerializer.{ChunkSerializer}
use Rattle.serializer.specs.Answer.{Answer as Written, wrote, refused as not_written}
use Rattle.serializer.specs.Message.{message as to_encode}
use Rattle.serializer.specs.Remembered.{fresh}
use Rattle.serializer.specs.Serialize.{Outcome as Encoded, serialized, size_body, size_changed}
use Rattle.decoding.specs.Decoder.{Decoder}
use Rattle.decoding.specs.Answer.{Listed, message as found, more, refused as not_read}
use Rattle.decoding.specs.Call.{Outcome as Decoded, next}
use Rattle.decoding.specs.Told.{Outcome as Told, Size, taken, refused as not_taken, between, made, max_room, outcome as telling, told}
use Rattle.stream_meaning.specs.Stream.{Message}

-- "any run of messages and chunk size changes": each call with its parameters and the output lent to it
pub data Call : Type 0 where
  send : (type stream time : ℕ) → (payload : List ℕ) → (forced droppable : Bool) → (output : List ℕ) → Call
  resize : (size time : ℕ) → (output : List ℕ) → Call

-- what the encoder answers and leaves, by its promises
abbrev pub encodes : ChunkSerializer → Call → Encoded
encodes s (send type stream time payload forced droppable output) = serialized s (to_encode type stream time (length payload) forced droppable) payload output
encodes s (resize size time output) = size_changed s size time output

-- "type, stream, timestamp and payload"
abbrev pub message : (type stream time : ℕ) → List ℕ → Message
message type stream time payload = record { type = type; stream = stream; time = time; payload = payload }

-- the message of a call, "each accepted size change's own among them", read off its parameters
abbrev pub message_of : Call → Message
message_of (send type stream time payload forced droppable output) = message type stream time payload
message_of (resize size time output) = message 1 0 time (size_body size)

-- what the decoder is told straight after a message
pub data Tell : Type 0 where
  nothing : Tell
  new : (size : ℕ) → Tell

abbrev pub tell_of : Call → Tell
tell_of (send type stream time payload forced droppable output) = nothing
tell_of (resize size time output) = new size

-- the bytes that an accepted call wrote, with its message; "refused calls among them" leave none
pub record Packet : Type 0 where
  pub bytes : List ℕ
  pub message : Message
  pub tell : Tell

abbrev pub packets_of : Call → Written → List ℕ → List Packet
packets_of call (wrote n) output = record { bytes = take n output; message = message_of call; tell = tell_of call } ∷ []
packets_of call (not_written number) output = []

-- "leave out any of the droppable packets, each whole": a call, and whether its packet is kept
pub record Sending : Type 0 where
  pub call : Call
  pub kept : Bool

abbrev pub keep : Bool → List Packet → List Packet
keep true packets = packets
keep false packets = []

abbrev pub kept : ChunkSerializer → List Sending → List Packet
kept s [] = []
kept s (x ∷ xs) =
    let o = encodes s x.call in
    keep x.kept (packets_of x.call o.answer o.output) ++ kept o.serializer xs

abbrev pub may_be_left_out : Call → Bool
may_be_left_out (send type stream time payload forced droppable output) = droppable
may_be_left_out (resize size time output) = false

abbrev pub LeavesOutDroppable : List Sending → Type 0
LeavesOutDroppable [] = Unit {0}
LeavesOutDroppable (x ∷ xs) = (x.kept ≡ false → may_be_left_out x.call ≡ true) × LeavesOutDroppable xs

-- the ranges of the parameters' types
abbrev pub Ranged : Call → Type 0
Ranged (send type stream time payload forced droppable output) = (type < 2 ^ 8) × (stream < 2 ^ 32) × (time < 2 ^ 32)
Ranged (resize size time output) = time < 2 ^ 32

abbrev pub InRange : List Sending → Type 0
InRange [] = Unit {0}
InRange (x ∷ xs) = Ranged x.call × InRange xs

-- "the remaining bytes", and "the longest kept payload"
abbrev pub bytes : List Packet → List ℕ
bytes [] = []
bytes (p ∷ ps) = p.bytes ++ bytes ps

abbrev pub longest : List Packet → ℕ
longest [] = 0
longest (p ∷ ps) = max (length p.message.payload) (longest ps)

-- the receiver: a decoder, the payload buffer lent to it each time, the bytes still unread, and what is to be told after each message
pub record Receiver : Type 0 where
  pub decoder : Decoder
  pub buffer : List ℕ
  pub unread : List ℕ
  pub tells : List Tell

-- "a fresh decoder"
abbrev pub receiver : ℕ → List ℕ → List Packet → Receiver
receiver room buffer packets = record {
  decoder = (made room).deserializer;
  buffer = buffer;
  unread = bytes packets;
  tells = map (λ (p : Packet). p.tell) packets;
}

-- what comes of a call: a message, its payload read from the buffer at that moment, or a refusal
pub data Note : Type 0 where
  handed : Message → Note
  refused : (number : ℕ) → Note

-- "told each new size straight after its message"
abbrev pub tell_first : List Tell → Decoder → Told
tell_first [] d = telling taken d
tell_first (nothing ∷ later) d = telling taken d
tell_first (new size ∷ later) d = told d size

abbrev pub refusals : Size → List Note
refusals taken = []
refusals (not_taken number) = refused number ∷ []

abbrev pub tail : List Tell → List Tell
tail [] = []
tail (t ∷ later) = later

-- "fed in order with unread bytes offered again": a call offers the next n of them
abbrev pub offered : Receiver → ℕ → Decoded
offered r n = next r.decoder (take n r.unread) r.buffer

abbrev pub notes_of : Listed → Decoded → List Tell → List Note
notes_of (found type stream time length used) o later = handed (message type stream time (take length o.payload)) ∷ refusals (tell_first later o.deserializer).answer
notes_of (more used) o later = []
notes_of (not_read number used) o later = refused number ∷ []

abbrev pub notes : Receiver → ℕ → List Note
notes r n = notes_of (offered r n).answer (offered r n) r.tells

abbrev pub after_of : Listed → Decoded → Receiver → Receiver
after_of (found type stream time length used) o r =
    record { decoder = (tell_first r.tells o.deserializer).deserializer; buffer = o.payload; unread = drop used r.unread; tells = tail r.tells }
after_of (more used) o r = record { decoder = o.deserializer; buffer = o.payload; unread = drop used r.unread; tells = r.tells }
after_of (not_read number used) o r = record { decoder = o.deserializer; buffer = o.payload; unread = drop used r.unread; tells = r.tells }

abbrev pub after : Receiver → ℕ → Receiver
after r n = after_of (offered r n).answer (offered r n) r

-- "cut the remaining bytes anywhere": call after call, by any list of numbers
abbrev pub log : Receiver → List ℕ → List Note
log r [] = []
log r (n ∷ ns) = notes r n ++ log (after r n) ns

abbrev pub last : Receiver → List ℕ → Receiver
last r [] = r
last r (n ∷ ns) = last (after r n) ns

-- how many of the calls offer a byte
abbrev pub offers : List ℕ → ℕ
offers [] = 0
offers (zero ∷ ns) = offers ns
offers (suc n ∷ ns) = suc (offers ns)

-- one list begins another
pub record Begins (xs ys : List Note) : Type 0 where
  pub missing : List Note
  pub joined : xs ++ missing ≡ ys

-- "hands out exactly the kept messages", after any calls as far as they came, and all of them where nothing is unread;
-- "refuses nothing, uses every byte and ends between messages"
pub record HandsOut (r : Receiver) (packets : List Packet) (schedule : List ℕ) : Type 0 where
  pub in_order : Begins (log r schedule) (map (λ (p : Packet). handed p.message) packets)
  pub all : (last r schedule).unread ≡ [] → log r schedule ≡ map (λ (p : Packet). handed p.message) packets
  pub ends : (last r schedule).unread ≡ [] → (between (last r schedule).decoder.reader ≡ true) × ((last r schedule).decoder.closed ≡ 0)
  pub uses : length (bytes packets) ≤ offers schedule → (last r schedule).unread ≡ []

abbrev pub Demand3 : Type 0
Demand3 =
    (run : List Sending) (room : ℕ) (buffer schedule : List ℕ) → InRange run → LeavesOutDroppable run
    → 1 ≤ room → room ≤ max_room → longest (kept fresh run) ≤ room → room ≤ length buffer
    → HandsOut (receiver room buffer (kept fresh run)) (kept fresh run) schedule
