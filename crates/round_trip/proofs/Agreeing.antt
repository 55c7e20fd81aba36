-- Encoder and decoder agree: between messages what the encoder remembers of every stream whose last message was not droppable is what was said last on it.
use Rattle.std.proofs.Common.{ℕ, ◌+◌, ◌^◌, ◌≤◌, ◌<◌, ◌≡◌, refl, sym, ap, ◌∙◌, ◌≢◌, Bool, true, false, List, [], arith, eqb, length, get_or, set, length-set, get_or-set_other, get_or-set_same, eqb-true, le-ltb, ne_eqb}
use mathlib.Core.Option.{none, some}
use Rattle.std.proofs.Math.ListN.{get_or-replicate}
use borrow.Author.Tests.{eqb-false}
use Rattle.chunk_header.specs.declared.ChunkHeader.{ChunkHeader}
use Rattle.chunk_header.specs.Header.{nothing}
use Rattle.serializer.specs.declared.ChunkSerializer.{ChunkSerializer}
use Rattle.serializer.specs.declared.format.Message.{Message}
use Rattle.serializer.specs.Header.{header}
use Rattle.serializer.specs.Message.{chunk_stream}
use Rattle.serializer.specs.Remembered.{fresh, previous, remember, row_of}
use Rattle.serializer.proofs.Stream.{stream_range}
use Rattle.decoding.specs.Decoder.{Decoder}
use Rattle.decoding.specs.Calls.{Ready, by_new}
use Rattle.decoding.specs.Told.{between, made, max_room}
use Rattle.byte_machine.specs.Reader.{at_start}
use Rattle.byte_machine.proofs.Putting.{lists_empty}
use Rattle.fields.proofs.Tests.{both, clash, equal, itself}
use Rattle.stream_meaning.specs.Stream.{Stream}
use Rattle.stream_meaning.specs.View.{viewed}
use Rattle.round_trip.proofs.Held.{Spare}
use Rattle.round_trip.proofs.Packets.{Awake}
use Rattle.round_trip.proofs.Taking.{At}
use Rattle.round_trip.proofs.Wire.{said_by}

-- what the encoder remembers of the stream with that id was said last on it, unless it may have been left out
pub record Knows (h : ChunkHeader) (id : ℕ) (s : Stream) : Type 0 where
  pub held : h.chunk_stream_id ≡ id → h.can_be_dropped ≡ false → s.stored ≡ some (said_by h)
  pub time : h.timestamp.value < 2 ^ 32

pub record Agrees (s : ChunkSerializer) (d : Decoder) (buffer : List ℕ) : Type 0 where
  pub ready : Ready d buffer
  pub between_now : between d.reader ≡ true
  pub size : d.setting.size ≡ s.max_chunk_size
  pub some : 0 < s.max_chunk_size
  pub spare : Spare d.rows
  pub long : length s.previous_headers ≡ 5
  pub knows : (i : ℕ) → i < 5 → Knows (get_or s.previous_headers i nothing) (i + 2) (viewed d buffer (i + 2))

module _ (s : ChunkSerializer) (d : Decoder) (buffer : List ℕ) (a : Agrees s d buffer) (m : Message) where
  row_less : row_of m < 5
  row_less = let r = stream_range m.type_id in omega (arith, r.0, r.1)

  row_stream : row_of m + 2 ≡ chunk_stream m.type_id
  row_stream = let r = stream_range m.type_id in omega (arith, r.0, r.1)

  -- the decoder is ready for any message
  pub awake : Awake d buffer m (previous s m)
  awake =
      let k = a.knows (row_of m) row_less in
      record {
        ready = a.ready;
        message = ((both (itself (at_start d.reader.stage)) (equal d.reader.message.id 0)).yes a.between_now).1;
        spare = a.spare;
        knows = λ g. rw row_stream at (k.held (g.stream ∙ sym row_stream) g.undroppable);
        before = k.time;
      }

  -- what is remembered after a message, stream by stream
  knows_after : (seen : ℕ → Stream) → Knows (header m (previous s m)) (row_of m + 2) (seen (row_of m + 2))
      → ((i : ℕ) → i < 5 → i ≢ row_of m → Knows (get_or s.previous_headers i nothing) (i + 2) (seen (i + 2)))
      → (i : ℕ)
      → i < 5
      → Knows (get_or (set s.previous_headers (row_of m) (header m (previous s m))) i nothing) (i + 2) (seen (i + 2))
  knows_after seen own others i l = by_row (eqb i (row_of m)) refl
    where
      by_row : (t : Bool) → eqb i (row_of m) ≡ t → Knows (get_or (set s.previous_headers (row_of m) (header m (previous s m))) i nothing) (i + 2) (seen (i + 2))
      by_row true e = rw (eqb-true i (row_of m) e, get_or-set_same s.previous_headers (row_of m) (header m (previous s m)) nothing (omega (arith, a.long, row_less))) own
      by_row false e =
          let n = eqb-false i (row_of m) e in
          rw (get_or-set_other s.previous_headers (row_of m) i (header m (previous s m)) nothing n) (others i l n)

  -- a packet that is left out
  pub left_out : (size : ℕ) → m.can_be_dropped ≡ true → m.timestamp.value < 2 ^ 32 → s.max_chunk_size ≡ size → Agrees (remember s m size) d buffer
  left_out size drops time e = record {
    ready = a.ready;
    between_now = a.between_now;
    size = a.size ∙ e;
    some = rw (← e) a.some;
    spare = a.spare;
    long = length-set s.previous_headers (row_of m) (header m (previous s m)) ∙ a.long;
    knows = knows_after (viewed d buffer) record { held = λ p q. clash q drops; time = time } (λ i l n. a.knows i l);
  }

  -- a packet that is kept, and a chunk size from then on
  pub handed_over : (d' : Decoder) (buffer' : List ℕ) (size : ℕ) → At d buffer (header m (previous s m)) none d' buffer' → between d'.reader ≡ true
      → (d'' : Decoder)
      → Ready d'' buffer'
      → d''.reader ≡ d'.reader
      → d''.rows ≡ d'.rows
      → d''.setting.size ≡ size
      → 0 < size
      → m.timestamp.value < 2 ^ 32
      → Agrees (remember s m size) d'' buffer'
  handed_over d' buffer' size at ended d'' ready reader rows e positive time = record {
    ready = ready;
    between_now = rw reader ended;
    size = e;
    some = positive;
    spare = rw rows (at.spare a.spare);
    long = length-set s.previous_headers (row_of m) (header m (previous s m)) ∙ a.long;
    knows = rw (reader, rows)
        (knows_after (viewed d' buffer') record { held = λ p q. rw row_stream (ap (λ (x : Stream). x.stored) at.mine); time = time }
        (λ i l n. record {
          held = λ p q. ap (λ (x : Stream). x.stored) (at.others (i + 2) (λ e. omega (arith, e)) (λ e. n (omega (arith, e, row_stream)))) ∙ (a.knows i l).held p q;
          time = (a.knows i l).time;
        }));
  }

-- a fresh encoder and a fresh decoder agree
pub fresh_agree : (room : ℕ) (buffer : List ℕ) → 1 ≤ room → room ≤ max_room → room ≤ length buffer → Agrees fresh (made room).deserializer buffer
unfolding made
fresh_agree room buffer p q l =
    let m = by_new room in
    rw (ne_eqb room 0 (omega (arith, p)), le-ltb max_room room q) record {
      ready = record { by_calls = rw (ne_eqb room 0 (omega (arith, p)), le-ltb max_room room q) at m; open_still = refl; between_chunks = refl; long = l };
      between_now = refl;
      size = refl;
      some = omega arith;
      spare = record { ids = []; lists = lists_empty; few = omega arith };
      long = refl;
      knows = λ i l. rw (get_or-replicate {A = ChunkHeader} 5 i nothing nothing l) record { held = λ e. absurd (omega (arith, e)); time = omega arith };
    }
