-- A decoder's view of a stream says what the decoder's own definitions say of a chunk of it: what was said before, what it says, its time, and how much has come.
use Rattle.std.proofs.Common.{◌≡◌, ℕ, ◌+◌, ◌≤◌, Bool, true, false, eqb, ltb, ◌≢◌, List, length, take, sym, refl, ap, ◌∙◌, arith, length-append, length-take-le, eq-eqb, ne_eqb, eqb-true}
use mathlib.Core.Option.{none, some}
use borrow.Author.Tests.{eqb-false}
use Rattle.chunk_header.specs.Layout.{Chunk, Extended, FormFits, Header, absent, present, type0, type1, type2, type3}
use Rattle.chunk_meaning.specs.Stored.{Row}
use Rattle.chunk_meaning.specs.Meaning.{first_time}
use Rattle.byte_machine.specs.Rows.{find, row_count}
use Rattle.decoding.specs.Decoder.{Decoder}
use Rattle.decoding.specs.Chunk.{ChunkFits, ExtendedFits, HeadFits as DecoderFits, basic_refused, carried, format_for, got, header, row, says, stored}
use Rattle.decoding.proofs.Accepts.{own_stream}
use Rattle.decoding.proofs.Reached.{Reached}
use Rattle.decoding.proofs.Taken.{id_some}
use Rattle.stream_meaning.specs.Stream.{Fits, HeadFits, Stream, ThereWhere, before, carries, clock, earlier, number, payload, said, saying, time}
use Rattle.stream_meaning.specs.View.{said_in, viewed}

-- the two ways to say it, by the header and by the extended time
carries_is : (h : Header) (r : Row) → carries h (said_in r) ≡ said_in (carried h r)
carries_is (type0 time length type stream) r = refl
carries_is (type1 delta length type) r = refl
carries_is (type2 delta) r = refl
carries_is type3 r = refl

clock_is : (h : Header) (b n : ℕ) → clock h b n ≡ first_time (format_for h) b n
clock_is (type0 time length type stream) b n = refl
clock_is (type1 delta length type) b n = refl
clock_is (type2 delta) b n = refl
clock_is type3 b n = refl

pub number_is : (e : Extended) (r : Row) → number e r.timestamp_field ≡ says e r
number_is absent r = refl
number_is (present time) r = refl

there_fits : (e : Extended) (r : Row) → ThereWhere e r.timestamp_field → ExtendedFits e r
there_fits absent r h = h
there_fits (present time) r h = h

fits_there : (e : Extended) (r : Row) → ExtendedFits e r → ThereWhere e r.timestamp_field
fits_there absent r h = h
fits_there (present time) r h = h

-- what a head says
module _ (d : Decoder) (buffer : List ℕ) (c : Chunk) where
  pub before_is : before (viewed d buffer c.id) c ≡ said_in (row d c)
  before_is = by_row (ltb (find d.rows c.id) row_count) refl
    where
      by_row : (t : Bool) → ltb (find d.rows c.id) row_count ≡ t → before (viewed d buffer c.id) c ≡ said_in (row d c)
      by_row true e = rw e
      by_row false e = rw e

  pub saying_is : saying (viewed d buffer c.id) c ≡ said_in (header d c)
  saying_is = ap (carries c.header) before_is ∙ carries_is c.header (row d c)

  pub head_fits : HeadFits (viewed d buffer c.id) c → DecoderFits d c
  head_fits f = record { form = f.form; fields = f.fields; extended = there_fits c.extended (header d c) (rw saying_is at f.extended) }

  pub head_seen : DecoderFits d c → HeadFits (viewed d buffer c.id) c
  head_seen f = record { form = f.form; fields = f.fields; extended = rw saying_is (fits_there c.extended (header d c) f.extended) }

-- a chunk whose basic header is not refused
pub record Named (d : Decoder) (buffer : List ℕ) (c : Chunk) : Type 0 where
  pub reached : Reached d
  pub long : d.setting.room ≤ length buffer
  pub form : FormFits c.form c.id
  pub passes : basic_refused d c ≡ 0

module _ {d : Decoder} {buffer : List ℕ} {c : Chunk} (h : Named d buffer c) where
  abbrev s : Stream
  s = viewed d buffer c.id

  -- what has come of the stream's message, outside a message and inside
  come_outside : d.reader.message.id ≡ 0 → s.come ≡ none
  come_outside e = let n = id_some c.form c.id h.form in rw (ne_eqb d.reader.message.id c.id (λ z. n (sym z ∙ e)))

  come_inside : d.reader.message.id ≢ 0 → s.come ≡ some (take d.reader.message.got buffer)
  come_inside m = rw (eq-eqb d.reader.message.id c.id (own_stream d c h.reached h.passes m).0)

  -- it is the first bytes of the buffer
  pub earlier_is : (earlier s c ≡ take (got d c) buffer) × (got d c ≤ length buffer)
  earlier_is = by_message (eqb d.reader.message.id 0) refl
    where
      by_message : (t : Bool) → eqb d.reader.message.id 0 ≡ t → (earlier s c ≡ take (got d c) buffer) × (got d c ≤ length buffer)
      by_message true e = rw (come_outside (eqb-true _ _ e), e) (refl, omega arith)
      by_message false e =
          let m = eqb-false _ _ e in
          let f = h.reached.fits in
          rw (come_inside m, e) (refl, omega (arith, f.got m, f.room_for m, h.long))

  pub earlier_length : length (earlier s c) ≡ got d c
  earlier_length = ap length earlier_is.0 ∙ length-take-le (got d c) buffer earlier_is.1

  pub payload_length : length (payload s c) ≡ got d c + length c.payload
  payload_length = length-append (earlier s c) c.payload ∙ rw earlier_length

  -- to fit the stream is to fit the decoder
  pub chunk_fits : Fits d.setting.size s c → ChunkFits d c
  chunk_fits f = record { head = head_fits d buffer c f.head; payload = rw (saying_is d buffer c, earlier_length) at f.payload_of }

  pub stream_fits : ChunkFits d c → Fits d.setting.size s c
  stream_fits f = record { head = head_seen d buffer c f.head; payload_of = rw (saying_is d buffer c, earlier_length) f.payload }

  -- what is stored
  time_is : time s c ≡ (stored d c).timestamp.value
  time_is = by_message (eqb d.reader.message.id 0) refl
    where
      by_message : (t : Bool) → eqb d.reader.message.id 0 ≡ t → time s c ≡ (stored d c).timestamp.value
      by_message true e =
          rw (come_outside (eqb-true _ _ e), saying_is d buffer c, before_is d buffer c, number_is c.extended (header d c), e)
          (clock_is c.header (row d c).timestamp.value (says c.extended (header d c)))
      by_message false e = rw (come_inside (eqb-false _ _ e), before_is d buffer c, e)

  pub said_is : said (time s c) (saying s c).field (saying s c).length (saying s c).type (saying s c).stream ≡ said_in (stored d c)
  said_is = rw (time_is, saying_is d buffer c)
