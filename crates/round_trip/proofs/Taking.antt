-- What a chunk that is taken does: what the encoder remembers is what was said last on its stream, and its message goes on or is handed out.
use Rattle.std.proofs.Common.{ℕ, ◌≤◌, ◌<◌, ◌≡◌, ap, ◌∙◌, true, false, List, ◌≢◌, arith, length, take, le-ltb, lt-ltb}
use mathlib.Core.Option.{Option, none, some}
use Rattle.chunk_header.specs.declared.ChunkHeader.{ChunkHeader}
use Rattle.chunk_header.specs.declared.ChunkHeaderFormat.{ChunkHeaderFormat}
use Rattle.chunk_header.specs.Layout.{Chunk, chunk_bytes}
use Rattle.serializer.specs.Packet.{chunk}
use Rattle.decoding.specs.Decoder.{Decoder}
use Rattle.decoding.specs.Answer.{message as found, more}
use Rattle.decoding.specs.Call.{Outcome}
use Rattle.decoding.specs.Calls.{Ready}
use Rattle.stream_meaning.specs.Stream.{Said, Stream, lacks, payload, saying, takes}
use Rattle.stream_meaning.specs.Taking.{Took, fed}
use Rattle.stream_meaning.specs.View.{viewed}
use Rattle.stream_meaning.proofs.Taking.{lists_passed, passes, streams_same}
use Rattle.round_trip.proofs.Held.{Spare, still_spare}
use Rattle.round_trip.proofs.Wire.{Fits, Taken, stands}

-- some chunks of a message after another decoder: what is seen of the message's stream, and all else as it was
pub record At (d : Decoder) (buffer : List ℕ) (h : ChunkHeader) (come : Option (List ℕ)) (d' : Decoder) (buffer' : List ℕ) : Type 0 where
  pub ready : Ready d' buffer'
  pub mine : viewed d' buffer' h.chunk_stream_id ≡ stands h come
  pub others : (id : ℕ) → id ≢ 0 → id ≢ h.chunk_stream_id → viewed d' buffer' id ≡ viewed d buffer id
  pub room : d'.setting.room ≡ d.setting.room
  pub size : d'.setting.size ≡ d.setting.size
  pub spare : Spare d.rows → Spare d'.rows

pub at_then : {d d' d'' : Decoder} {buffer buffer' buffer'' : List ℕ} {h : ChunkHeader} {come come' : Option (List ℕ)} → At d buffer h come d' buffer'
    → At d' buffer' h come' d'' buffer''
    → At d buffer h come' d'' buffer''
at_then a b = record {
  ready = b.ready;
  mine = b.mine;
  others = λ id z n. b.others id z n ∙ a.others id z n;
  room = b.room ∙ a.room;
  size = b.size ∙ a.size;
  spare = λ s. b.spare (a.spare s);
}

module _ {d : Decoder} {buffer : List ℕ} (f : ChunkHeaderFormat) (h : ChunkHeader) (piece : List ℕ) (r : Ready d buffer) (k : Fits h)
    (t : Taken d buffer (chunk f h piece) h) where
  abbrev c : Chunk
  c = chunk f h piece

  abbrev s : Stream
  s = viewed d buffer h.chunk_stream_id

  abbrev o : Outcome
  o = fed d buffer c

  took : Took d buffer c o
  took = passes c r t.fits t.basic t.head

  at_taken : (come : Option (List ℕ)) → (takes s c).come ≡ come → At d buffer h come o.deserializer o.payload
  at_taken come e = record {
    ready = took.ready;
    mine = took.mine ∙ streams_same (ap some t.says) e;
    others = took.others;
    room = took.same_room;
    size = took.same_size;
    spare = λ q. still_spare h.chunk_stream_id k.id_least k.id_most q (lists_passed c r t.fits t.basic t.head q.ids q.lists);
  }

  length_is : (saying s c).length ≡ h.message_length
  length_is = ap (λ (x : Said). x.length) t.says

  -- its message goes on ..
  pub chunk_goes_on : length (payload s c) < h.message_length
      → (o.answer ≡ more (length (chunk_bytes c))) × At d buffer h (some (payload s c)) o.deserializer o.payload
  chunk_goes_on less =
      let e : lacks s c ≡ true = lt-ltb (length (payload s c)) (saying s c).length (omega (arith, less, length_is)) in
      (rw e at took.answers, at_taken (some (payload s c)) (rw e))

  -- .. or is handed out
  pub chunk_ends : h.message_length ≤ length (payload s c)
      → (o.answer ≡ found h.message_type_id h.message_stream_id h.timestamp.value (length (payload s c)) (length (chunk_bytes c)))
      × (take (length (payload s c)) o.payload ≡ payload s c)
      × At d buffer h none o.deserializer o.payload
  chunk_ends whole =
      let e : lacks s c ≡ false = le-ltb (length (payload s c)) (saying s c).length (omega (arith, whole, length_is)) in
      let a = rw e at took.answers in
      (a.0 ∙ ap (λ (x : Said). found x.type x.stream x.time (length (payload s c)) (length (chunk_bytes c))) t.says, a.1, at_taken none (rw e))
