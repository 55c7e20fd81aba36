-- A decoder that calls can make takes every chunk that fits and is not refused: its message has a row, fits the room and lacks a byte.
use Rattle.std.proofs.Common.{◌≡◌, ℕ, ◌+◌, ◌<◌, ◌≤◌, Bool, true, false, eqb, ltb, ◌≢◌, List, ◌++◌, length, sym, refl, ◌∙◌, arith, lt-ltb, ne_eqb, eqb-true}
use lib.Seq.{sets}
use borrow.Author.Tests.{eqb-false}
use Rattle.chunk_header.specs.declared.ChunkHeaderFormat.{ChunkHeaderFormat}
use Rattle.chunk_header.specs.declared.ChunkHeaderFormat.TheVariants.{Full, TimeDeltaWithoutMessageStreamId, TimeDeltaOnly, Empty}
use Rattle.chunk_header.specs.Layout.{Chunk, Header, type0, type1, type2, type3, chunk_bytes, FormFits}
use Rattle.decoding.specs.Decoder.{Decoder}
use Rattle.byte_machine.specs.Reader.{Reader, Csid, refuse}
use Rattle.chunk_meaning.specs.Stored.{Row}
use Rattle.decoding.specs.Answer.{refused}
use Rattle.decoding.specs.Call.{Outcome, after, run}
use Rattle.decoding.specs.Chunk.{ChunkFits, HeadFits, basic_refused, carried, format_for, got, header, header_refused, inside, left, row, says}
use Rattle.chunk_meaning.specs.Meaning.{basic_refusal, first_refusal, later_refusal}
use Rattle.chunk_header.specs.Table.{is_empty, is_full}
use Rattle.byte_machine.specs.Rows.{find, free, row_count}
use Rattle.decoding.proofs.Fields.{Reaches}
use Rattle.decoding.proofs.Fitting.{length_of}
use Rattle.chunk_meaning.proofs.Unrefused.{first_fits, inside_tells, later_length}
use Rattle.decoding.proofs.Reached.{Reached}
use Rattle.decoding.proofs.ReadsBack.{Rowed, Within, basic_of, claiming, extended_of, finished, head_of, reads_back, refused_basic, refused_header}
use Rattle.decoding.proofs.Runs.{then}

-- a refusal: the number, the bytes used, a decoder closed with that number, its rows, and the buffer; `Closing` says that the rest of the decoder stays
pub record Refuses (o : Outcome) (k used : ℕ) (rows payload : List ℕ) : Type 0 where
  pub answer : o.answer ≡ refused k used
  pub closed : o.deserializer.closed ≡ k
  pub rows_left : o.deserializer.rows ≡ rows
  pub buffer : o.payload ≡ payload

refuses : {o : Outcome} {d : Decoder} {r : Reader} {payload rest : List ℕ} {n k : ℕ} → Reaches o d (λ r'. refuse r' k) r payload n rest
    → Refuses o k n d.rows payload
unfolding after
refuses h = record { answer = rw h.reached; closed = rw h.reached; rows_left = rw h.reached; buffer = rw h.reached }

-- outside a message a chunk of a stream with no row is not refused only where it is type 0
outside_full : (format : ChunkHeaderFormat) (unused own : Bool) → basic_refusal format false unused false own ≡ 0 → format ≡ Full
unfolding basic_refusal
outside_full Full unused own h = refl
outside_full TimeDeltaWithoutMessageStreamId unused own h = absurd (let z : 9 ≡ 0 = h in omega arith)
outside_full TimeDeltaOnly unused own h = absurd (let z : 9 ≡ 0 = h in omega arith)
outside_full Empty unused own h = absurd (let z : 9 ≡ 0 = h in omega arith)

-- a chunk with no header has the length of its row
empty_length : (h : Header) (r : Row) → is_empty (format_for h) ≡ true → (carried h r).message_length ≡ r.message_length
empty_length (type0 time length type stream) r e = absurd (let z : ◌≡◌ {A = ℕ} 0 1 = cc in omega arith)
empty_length (type1 delta length type) r e = absurd (let z : ◌≡◌ {A = ℕ} 0 1 = cc in omega arith)
empty_length (type2 delta) r e = absurd (let z : ◌≡◌ {A = ℕ} 0 1 = cc in omega arith)
empty_length type3 r e = refl

module _ (d : Decoder) (c : Chunk) (reached : Reached d) (k : basic_refused d c ≡ 0) where
  -- inside a message its own stream goes on, and that has a row
  pub own_stream : d.reader.message.id ≢ 0 → (d.reader.message.id ≡ c.id) × (is_full (format_for c.header) ≡ false → is_empty (format_for c.header) ≡ true)
  own_stream m =
      let e : inside d c ≡ true = rw (ne_eqb d.reader.message.id 0 m) in
      let t = inside_tells (format_for c.header) (ltb (find d.rows c.id) row_count) (ltb (free d.rows) row_count) (eqb d.reader.message.id c.id) (rw e at k) in
      (eqb-true d.reader.message.id c.id t.0, t.1)

  rowed : Rowed d c
  rowed none = by_message (eqb d.reader.message.id 0) refl
    where
      by_message : (t : Bool) → eqb d.reader.message.id 0 ≡ t → format_for c.header ≡ Full
      by_message true e = outside_full (format_for c.header) (ltb (free d.rows) row_count) (eqb d.reader.message.id c.id) (rw (none, e) at k)
      by_message false e =
          let m = eqb-false d.reader.message.id 0 e in
          let o = (own_stream m).0 in
          let h : find d.rows c.id < row_count = rw o at (reached.sound.begun m) in
          absurd (let z : ◌≡◌ {A = Bool} true false = sym (lt-ltb (find d.rows c.id) row_count h) ∙ none in let y : ◌≡◌ {A = ℕ} 0 1 = cc in omega arith)

  module _ (j : header_refused d c ≡ 0) where
    -- inside a message the chunk says its length, which is more than what has come and fits the room
    pub length_inside : d.reader.message.id ≢ 0 → (d.reader.message.got < (header d c).message_length) × ((header d c).message_length ≤ d.setting.room)
    length_inside m =
        let o = own_stream m in
        let h : find d.rows c.id < row_count = rw o.0 at (reached.sound.begun m) in
        let l : (row d c).message_length ≡ length_of d.rows d.reader.message.id = rw (o.0, lt-ltb (find d.rows c.id) row_count h) in
        let same : (header d c).message_length ≡ (row d c).message_length = by_format (is_full (format_for c.header)) refl in
        (omega (arith, same, l, reached.fits.got m), omega (arith, same, l, reached.fits.room_for m))
      where
        later : later_refusal (format_for c.header) (row d c) (header d c) (says c.extended (header d c)) ≡ 0
        later = rw (ne_eqb d.reader.message.id 0 m) at j

        by_format : (t : Bool) → is_full (format_for c.header) ≡ t → (header d c).message_length ≡ (row d c).message_length
        by_format true e = later_length (format_for c.header) (row d c) (header d c) (says c.extended (header d c)) later e
        by_format false e = empty_length c.header (row d c) ((own_stream m).1 e)

    within : Within d c
    within some = by_message (eqb d.reader.message.id 0) refl
      where
        by_message : (t : Bool) → eqb d.reader.message.id 0 ≡ t → (0 < left d c) × (got d c + left d c ≤ d.setting.room)
        by_message true e =
            let f : first_refusal (format_for c.header) (header d c) (says c.extended (header d c)) d.setting.room ≡ 0 = rw e at j in
            let r = first_fits (format_for c.header) (header d c) (says c.extended (header d c)) d.setting.room f in
            rw e (omega (arith, reached.some, some), omega (arith, r))
        by_message false e =
            let i = length_inside (eqb-false d.reader.message.id 0 e) in
            rw e (omega (arith, reached.some, i.0), omega (arith, i.0, i.1))

    -- the machine does to its state what the chunk says, and uses its bytes
    pub accepts : (payload : List ℕ) (n : ℕ) (rest : List ℕ) → d.reader.stage ≡ Csid → ChunkFits d c
        → run (chunk_bytes c ++ rest) d payload n ≡ then (claiming d c.id) (finished d c) (sets payload (got d c) c.payload) (n + length (chunk_bytes c)) rest
    accepts payload n rest s fits = reads_back d c payload n rest s fits k j rowed within

  -- and one that is refused for its header closes the decoder at the header's last byte, with its row claimed
  pub refuses_header : (payload : List ℕ) (n : ℕ) (rest : List ℕ) → d.reader.stage ≡ Csid → HeadFits d c → header_refused d c ≢ 0
      → Refuses (run (basic_of c ++ (head_of c ++ (extended_of c ++ rest))) d payload n) (header_refused d c)
      (n + length (basic_of c) + length (head_of c) + length (extended_of c)) (claiming d c.id).rows payload
  refuses_header payload n rest s fits j = refuses (refused_header d c payload n rest s fits k j rowed)

-- one that is refused for its basic header closes any decoder at that header's last byte
pub refuses_basic : (d : Decoder) (c : Chunk) (payload : List ℕ) (n : ℕ) (rest : List ℕ) → d.reader.stage ≡ Csid → FormFits c.form c.id
    → basic_refused d c ≢ 0
    → Refuses (run (basic_of c ++ rest) d payload n) (basic_refused d c) (n + length (basic_of c)) d.rows payload
refuses_basic d c payload n rest s fits k = refuses (refused_basic d c payload n rest s fits k)
