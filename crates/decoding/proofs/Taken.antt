-- What a chunk that is taken leaves: its row is put, its message goes on or is handed out, and the decoder stands between chunks again.
use Rattle.std.proofs.Common.{◌≡◌, ℕ, ◌+◌, ◌<◌, ◌≤◌, Bool, true, false, cond, not, eqb, ltb, ◌≢◌, List, [], ◌++◌, length, refl, ap, ◌∙◌, append_assoc, arith, length-append, ltb-true, le-ltb}
use lib.Seq.{sets}
use borrow.Author.Tests.{eqb-false}
use Rattle.fields.proofs.Tests.{clash}
use Rattle.chunk_header.specs.Layout.{Chunk, Form, FormFits, Header, HeaderFits, basic_bytes, chunk_bytes, format, one, three, two, type0, type1, type2, type3}
use Rattle.chunk_meaning.specs.Stored.{Row}
use Rattle.chunk_meaning.specs.Meaning.{first_refusal}
use Rattle.chunk_meaning.proofs.Unrefused.{claims_free, first_fits}
use Rattle.byte_machine.specs.Reader.{Event, Message, Csid, unfinished}
use Rattle.byte_machine.specs.Rows.{find, free, put_own, row_count}
use Rattle.byte_machine.proofs.Putting.{Puts, puts}
use Rattle.byte_machine.proofs.RowLaws.{find_tells}
use Rattle.decoding.specs.Decoder.{Decoder}
use Rattle.decoding.specs.Answer.{message}
use Rattle.decoding.specs.Call.{after, end, outcome, run}
use Rattle.decoding.specs.Chunk.{ChunkFits, basic_refused, carried, format_for, got, header, header_refused, inside, row, says, stored}
use Rattle.decoding.proofs.Accepts.{accepts, length_inside, own_stream}
use Rattle.decoding.proofs.Reached.{Reached, run_reached}
use Rattle.decoding.proofs.ReadsBack.{basic_of, claiming, extended_of, finished, head_of}

-- the parts of a chunk's bytes
pub parts : (c : Chunk) → chunk_bytes c ≡ basic_of c ++ (head_of c ++ (extended_of c ++ c.payload))
unfolding chunk_bytes
parts c = simp append_assoc

-- each chunk has a byte
pub basic_some : (f : Form) (type id : ℕ) → 0 < length (basic_bytes f type id)
basic_some one type id = omega arith
basic_some two type id = omega arith
basic_some three type id = omega arith

pub chunk_some : (c : Chunk) → 0 < length (chunk_bytes c)
chunk_some c = rw (parts c, length-append) (omega (arith, basic_some c.form (format c.header) c.id))

-- no form says the id 0
pub id_some : (f : Form) (id : ℕ) → FormFits f id → id ≢ 0
id_some one id h e = omega (arith, e, h.0)
id_some two id h e = omega (arith, e, h.0)
id_some three id h e = omega (arith, e, h.0)

-- the id and the type of what is stored
carried_id : (h : Header) (r : Row) → (carried h r).id ≡ r.id
carried_id (type0 time length type stream) r = refl
carried_id (type1 delta length type) r = refl
carried_id (type2 delta) r = refl
carried_id type3 r = refl

carried_type : (h : Header) (r : Row) → HeaderFits h → r.message_type_id < 256 → (carried h r).message_type_id < 256
carried_type (type0 time length type stream) r h k = h.2
carried_type (type1 delta length type) r h k = h.2
carried_type (type2 delta) r h k = k
carried_type type3 r h k = k

-- a chunk that comes to a decoder between chunks, fits it and is not refused
pub record Takes (d : Decoder) (c : Chunk) : Type 0 where
  pub reached : Reached d
  pub between : d.reader.stage ≡ Csid
  pub fits : ChunkFits d c
  pub basic : basic_refused d c ≡ 0
  pub head : header_refused d c ≡ 0

module _ (d : Decoder) (c : Chunk) where
  -- how much of its message has come with it, and whether more of it comes
  abbrev pub done : ℕ
  done = got d c + length c.payload

  abbrev pub goes : Bool
  goes = ltb done (header d c).message_length

  -- the decoder after it
  abbrev pub taking : Decoder
  taking = after (claiming d c.id) (finished d c)

  row_id : (row d c).id ≡ c.id
  row_id = by_row (ltb (find d.rows c.id) row_count) refl
    where
      by_row : (t : Bool) → ltb (find d.rows c.id) row_count ≡ t → (row d c).id ≡ c.id
      by_row true e = rw e (find_tells d.rows c.id (ltb-true _ _ e))
      by_row false e = rw e

  row_type : (row d c).message_type_id < 256
  row_type = by_row (ltb (find d.rows c.id) row_count) refl
    where
      by_row : (t : Bool) → ltb (find d.rows c.id) row_count ≡ t → (row d c).message_type_id < 256
      by_row true e = rw e (omega arith)
      by_row false e = rw e (omega arith)

  stored_id : (stored d c).id ≡ c.id
  stored_id = carried_id c.header (row d c) ∙ row_id

  -- what it leaves
  pub record Leaves : Type 0 where
    pub reached : Reached taking
    pub between : taking.reader.stage ≡ Csid
    pub closed : taking.closed ≡ d.closed
    pub message : taking.reader.message ≡ cond goes (unfinished c.id done) (unfinished 0 0)
    pub rows : Puts d.rows c.id (stored d c) taking.rows

module _ {d : Decoder} {c : Chunk} (t : Takes d c) where
  n : c.id ≢ 0
  n = id_some c.form c.id t.fits.head.form

  -- inside a message it is of the message's own stream, which has a row
  pub its_own : d.reader.message.id ≢ 0 → d.reader.message.id ≡ c.id
  its_own m = (own_stream d c t.reached t.basic m).0

  has_row : d.reader.message.id ≢ 0 → find d.rows c.id < row_count
  has_row m = rw (its_own m) at (t.reached.sound.begun m)

  -- a stream without a row finds a free one
  spare : row_count ≤ find d.rows c.id → free d.rows < row_count
  spare none_yet =
      let e : ltb (find d.rows c.id) row_count ≡ false = le-ltb (find d.rows c.id) row_count none_yet in
      ltb-true (free d.rows) row_count
      (claims_free (format_for c.header) (ltb (free d.rows) row_count) (inside d c) (eqb d.reader.message.id c.id) (λ i o. outside i) (rw e at t.basic))
    where
      outside : inside d c ≡ true → ⊥
      outside i = by_message (eqb d.reader.message.id 0) refl i
        where
          by_message : (u : Bool) → eqb d.reader.message.id 0 ≡ u → not u ≡ true → ⊥
          by_message true e i = clash refl i
          by_message false e i = let h = has_row (eqb-false _ _ e) in omega (arith, h, none_yet)

  -- its message is no longer than the room, and it ends within its message
  pub ends_within : (done d c ≤ (header d c).message_length) × ((header d c).message_length ≤ d.setting.room)
  ends_within = by_message (eqb d.reader.message.id 0) refl
    where
      by_message : (u : Bool) → eqb d.reader.message.id 0 ≡ u → (done d c ≤ (header d c).message_length) × ((header d c).message_length ≤ d.setting.room)
      by_message true e =
          let f : first_refusal (format_for c.header) (header d c) (says c.extended (header d c)) d.setting.room ≡ 0 = rw e at t.head in
          let z : got d c ≡ 0 = rw e in
          (omega (arith, z, t.fits.payload), first_fits (format_for c.header) (header d c) (says c.extended (header d c)) d.setting.room f)
      by_message false e =
          let i = length_inside d c t.reached t.basic t.head (eqb-false _ _ e) in
          let g : got d c ≡ d.reader.message.got = rw e in
          (omega (arith, g, i.0, t.fits.payload), i.1)

  runs_over : (payload : List ℕ) (n : ℕ) (rest : List ℕ)
      → run (chunk_bytes c ++ rest) d payload n
      ≡ end (finished d c).event (taking d c) (sets payload (got d c) c.payload) (n + length (chunk_bytes c))
      (run rest (taking d c) (sets payload (got d c) c.payload) (n + length (chunk_bytes c)))
  runs_over payload n rest = accepts d c t.reached t.basic t.head payload n rest t.between t.fits

  -- its message goes on: the run goes on after its bytes
  pub goes_on : goes d c ≡ true → (payload : List ℕ) (n : ℕ) (rest : List ℕ)
      → run (chunk_bytes c ++ rest) d payload n ≡ run rest (taking d c) (sets payload (got d c) c.payload) (n + length (chunk_bytes c))
  goes_on e payload n rest = runs_over payload n rest ∙ rw e

  -- or is handed out
  pub hands_out : goes d c ≡ false → (payload : List ℕ) (n : ℕ) (rest : List ℕ)
      → run (chunk_bytes c ++ rest) d payload n
      ≡ outcome (message (stored d c).message_type_id (stored d c).message_stream_id (stored d c).timestamp.value (stored d c).message_length (n + length (chunk_bytes c)))
      (taking d c) (sets payload (got d c) c.payload)
  unfolding after
  hands_out e payload n rest =
      let payload' = sets payload (got d c) c.payload in
      let n' = n + length (chunk_bytes c) in
      let ends : (finished d c).event ≡ Message = rw e in
      runs_over payload n rest ∙ ap (λ (x : Event). end x (taking d c) payload' n' (run rest (taking d c) payload' n')) ends ∙ (rw e)

  pub leaves : Leaves d c
  unfolding after run
  leaves = by_rest (goes d c) refl
    where
      rows_put : Puts d.rows c.id (stored d c) (put_own d.rows c.id (stored d c))
      rows_put =
          puts d.rows (stored d c) c.id (stored_id d c) t.reached.sound.long t.reached.sound.distinct n
          (carried_type c.header (row d c) t.fits.head.fields (row_type d c)) spare

      by_rest : (u : Bool) → goes d c ≡ u → Leaves d c
      by_rest true e = record {
        reached = rw (goes_on e [] 0 []) at (run_reached (chunk_bytes c ++ []) d [] 0 t.reached);
        between = rw e;
        closed = rw e;
        message = rw e (ap (λ (i : ℕ). unfinished i (done d c)) (stored_id d c));
        rows = rw e rows_put;
      }
      by_rest false e = record {
        reached = rw (hands_out e [] 0 []) at (run_reached (chunk_bytes c ++ []) d [] 0 t.reached);
        between = rw e;
        closed = rw e;
        message = rw e;
        rows = rw e rows_put;
      }
