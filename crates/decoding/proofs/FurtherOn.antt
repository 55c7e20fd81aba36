-- A further chunk of type 3, whole in the input, is read back: it leaves the decoder as it was but for what the message has.
use Rattle.std.proofs.Common.{◌≡◌, ℕ, suc, ◌+◌, ◌-◌, ◌<◌, ◌≤◌, min, true, false, eqb, ltb, ◌≢◌, List, ◌∷◌, ◌++◌, length, take, drop, sym, refl, ap, ◌∙◌, add-one, arith, length-drop, take-append-drop, length-take, drop-cons, drop-drop, lt-ltb, eq-eqb, ne_eqb}
use lib.Seq.{sets}
use Rattle.fields.specs.Output.{stored as stored_at}
use Rattle.fields.proofs.Lists.{stored_fits}
use Rattle.chunk_header.specs.Layout.{Chunk, absent, chunk_bytes, one, type3}
use Rattle.decoding.specs.Decoder.{Decoder}
use Rattle.byte_machine.specs.Reader.{Event, Chunk as ChunkEnds, Csid, current, reader, unfinished}
use Rattle.chunk_meaning.specs.Stored.{Row}
use Rattle.chunk_header.specs.declared.ChunkHeaderFormat.TheVariants.{Empty}
use Rattle.decoding.specs.Call.{after, end, run}
use Rattle.decoding.specs.Chunk.{ChunkFits, basic_refused, got, header, header_refused, row, stored}
use Rattle.decoding.specs.Further.{Amid, Next, gone}
use Rattle.chunk_meaning.specs.Meaning.{basic_refusal, later_refusal}
use Rattle.chunk_header.specs.Limits.{max_field}
use Rattle.byte_machine.specs.Rows.{find, put_row, row_at, row_count}
use Rattle.decoding.proofs.ReadsBack.{Within, claiming, finished, reads_back}
use Rattle.byte_machine.proofs.RowLaws.{find_tells}
use Rattle.fields.proofs.Tests.{clash}

module _ (d : Decoder) (input : List ℕ) (at place n : ℕ) (r : Row) (a : Amid d place r)
    (w : Next input at r.id d.reader.message.got r.message_length n)
    (left_is : n ≡ min d.setting.size (r.message_length - d.reader.message.got)) where
  abbrev c : Chunk
  c = record { form = one; id = r.id; header = type3; extended = absent; payload = take n (drop (at + 1) input) }

  -- the decoder after it
  abbrev pub gone_on : Decoder
  gone_on = record {
    setting = d.setting;
    closed = d.closed;
    reader = reader Csid (current Empty place r r 0) (unfinished r.id (d.reader.message.got + n));
    rows = put_row d.rows place r;
  }

  begun : eqb d.reader.message.id 0 ≡ false
  begun = ne_eqb d.reader.message.id 0 (omega (arith, a.message, a.least))

  found : ltb (find d.rows r.id) row_count ≡ true
  found = lt-ltb (find d.rows r.id) row_count (rw a.place_is a.found)

  its_row : row d c ≡ r
  its_row = rw (found, a.place_is) a.held

  long : length c.payload ≡ n
  long = rw (length-take, length-drop) (omega (arith, w.whole_in, w.there))

  not_basic : basic_refused d c ≡ 0
  unfolding basic_refusal
  not_basic = rw (begun, eq-eqb d.reader.message.id r.id a.message)

  not_head : header_refused d c ≡ 0
  unfolding later_refusal
  not_head = rw begun

  chunk_fits : ChunkFits d c
  chunk_fits = record { head = record { form = (a.least, a.most); fields = tt; extended = rw its_row a.plain }; payload = long ∙ rw (its_row, begun) left_is }

  its_bytes : drop at input ≡ chunk_bytes c ++ drop (at + 1 + n) input
  unfolding chunk_bytes
  its_bytes =
      drop-cons input at 0 w.there
      ∙ ap (λ (b : ℕ). b ∷ drop (suc at) input) w.first
      ∙ ap (λ (l : List ℕ). (192 + r.id) ∷ l) ((rw (← add-one at)) ∙ sym ((rw (← drop-drop n (at + 1) input)) ∙ take-append-drop n (drop (at + 1) input)))

  chunk_length : at + length (chunk_bytes c) ≡ at + 1 + n
  unfolding chunk_bytes
  chunk_length = omega (arith, long)

  within : Within d c
  within some = rw (its_row, begun) (omega (arith, left_is, w.some), omega (arith, left_is, w.goes_on, a.fits))

  goes : ltb (got d c + length c.payload) (header d c).message_length ≡ true
  goes = rw (its_row, begun, long) (lt-ltb (d.reader.message.got + n) r.message_length w.goes_on)

  stores : stored d c ≡ r
  stores = rw (its_row, begun)

  after_is : after (claiming d c.id) (finished d c) ≡ gone_on
  unfolding after
  after_is = rw (goes, stores, its_row, found, begun, long, a.place_is, lt-ltb place row_count a.found)

  event_is : (finished d c).event ≡ ChunkEnds
  event_is = rw goes

  got_is : got d c ≡ d.reader.message.got
  got_is = rw begun

  pub further_on : (payload : List ℕ)
      → run (drop at input) d payload at
      ≡ run (drop (at + 1 + n) input) gone_on (sets payload d.reader.message.got (take n (drop (at + 1) input))) (at + 1 + n)
  further_on payload =
      let rest = drop (at + 1 + n) input in
      let d' = after (claiming d c.id) (finished d c) in
      let payload' = sets payload (got d c) c.payload in
      let m = at + length (chunk_bytes c) in
      ap (λ (l : List ℕ). run l d payload at) its_bytes
      ∙ reads_back d c payload at rest a.stage chunk_fits not_basic not_head (λ e. clash e found) within
      ∙ ap (λ (e : Event). end e d' payload' m (run rest d' payload' m)) event_is
      ∙ (rw (after_is, got_is, chunk_length))

-- the bytes of a chunk stored at their own places
pub stored_piece : (payload input : List ℕ) (start n at x y : ℕ) → x ≡ n → y ≡ at → start + n ≤ length input → at + n ≤ length payload
    → stored_at payload y (take (start + x - start) (drop start input)) ≡ sets payload at (take n (drop start input))
stored_piece payload input start n at x y e f k h =
    let m : start + x - start ≡ n = omega (arith, e) in
    let l : at + length (take n (drop start input)) ≤ length payload = rw (length-take, length-drop) (omega (arith, h)) in
    (rw (m, f)) ∙ stored_fits payload (take n (drop start input)) at l

-- the same where the rows hold the row already
pub further_runs : (d : Decoder) (input payload : List ℕ) (at place n : ℕ) (r : Row) → Amid d place r → put_row d.rows place r ≡ d.rows
    → Next input at r.id d.reader.message.got r.message_length n
    → n ≡ min d.setting.size (r.message_length - d.reader.message.got)
    → run (drop at input) d payload at
    ≡ run (drop (at + 1 + n) input) (gone d place r (d.reader.message.got + n)) (sets payload d.reader.message.got (take n (drop (at + 1) input))) (at + 1 + n)
further_runs d input payload at place n r a same w e = further_on d input at place n r a w e payload ∙ (rw same)

pub amid_gone : (d : Decoder) (place got : ℕ) (r : Row) → Amid d place r → Amid (gone d place r got) place r
amid_gone d place got r a = record {
  stage = refl;
  message = refl;
  least = a.least;
  most = a.most;
  place_is = a.place_is;
  found = a.found;
  held = a.held;
  plain = a.plain;
  fits = a.fits;
}

-- where such chunks may follow: the row that the search finds is that of the message's own stream
pub amid_at : (d : Decoder) (place : ℕ) → d.reader.stage ≡ Csid → 2 ≤ d.reader.message.id → d.reader.message.id ≤ 63
    → place ≡ find d.rows d.reader.message.id
    → place < row_count
    → (row_at d.rows place).timestamp_field ≢ max_field
    → (row_at d.rows place).message_length ≤ d.setting.room
    → Amid d place (row_at d.rows place)
amid_at d place s p q e f plain fits =
    let i : (row_at d.rows place).id ≡ d.reader.message.id = rw e (find_tells d.rows d.reader.message.id (rw e at f)) in
    record { stage = s; message = sym i; least = rw i p; most = rw i q; place_is = rw i (sym e); found = f; held = refl; plain = plain; fits = fits }
