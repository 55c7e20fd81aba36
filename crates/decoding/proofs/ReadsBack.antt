-- The machine reads back a whole chunk: its basic header names the row, its header settles the row, its payload fills the buffer.
use Rattle.std.proofs.Common.{◌≡◌, ℕ, ◌+◌, ◌-◌, ◌<◌, ◌≤◌, Bool, true, false, cond, eqb, ltb, ◌≢◌, List, [], ◌++◌, length, refl, ap, ◌∙◌, append_assoc, add-zero, arith, length-append, drop_of_length-le, le-ltb, eq-eqb, ne_eqb, eqb-true}
use lib.Seq.{sets}
use borrow.Author.Tests.{eqb-false}
use Rattle.chunk_header.specs.declared.ChunkHeaderFormat.TheVariants.{Full}
use Rattle.chunk_header.specs.Layout.{Chunk, Header, type0, type1, type2, type3, basic_bytes, header_bytes, extended_bytes, chunk_bytes, format, FormFits}
use Rattle.chunk_header.specs.Table.{field_length, type_of}
use Rattle.decoding.specs.Decoder.{Decoder}
use Rattle.byte_machine.specs.Reader.{Chunk as ChunkEnds, Message, Reader, Stage, Csid, MessagePayload, Stepped, at, current, ended, go, reader, refuse, unfinished}
use Rattle.decoding.specs.Call.{after, is_refusal, run}
use Rattle.decoding.specs.Chunk.{ChunkFits, HeadFits, basic_refused, format_for, got, header, header_refused, inside, left, row, says, stored}
use Rattle.byte_machine.specs.Payload.{landed}
use Rattle.byte_machine.specs.Step.{named}
use Rattle.byte_machine.specs.Header.{opens, timestamp_next, whole}
use Rattle.chunk_meaning.specs.Meaning.{first_refusal, later_refusal}
use Rattle.byte_machine.specs.Rows.{claimed_in, find, free, place_of, row_count}
use Rattle.chunk_meaning.proofs.Unrefused.{has_free}
use Rattle.decoding.proofs.Fields.{Reaches}
use Rattle.decoding.proofs.Identifying.{basic_read}
use Rattle.byte_machine.proofs.Naming.{named_refused}
use Rattle.decoding.proofs.Reading.{extended_read, header_read}
use Rattle.decoding.proofs.Runs.{bulk, held_forgotten, holding, then}
use Rattle.byte_machine.specs.Look.{look}

-- the decoder once a stream has its row
abbrev pub claiming : Decoder → ℕ → Decoder
claiming d id = record {
  setting = d.setting;
  closed = d.closed;
  reader = d.reader;
  rows = claimed_in d.rows id;
}

-- the parts of a chunk before its payload
abbrev pub basic_of : Chunk → List ℕ
basic_of c = basic_bytes c.form (format c.header) c.id

abbrev pub head_of : Chunk → List ℕ
head_of c = header_bytes c.header

abbrev pub extended_of : Chunk → List ℕ
extended_of c = extended_bytes c.extended

-- the number of a chunk's type is that of its header
type_for : (h : Header) → type_of (format_for h) ≡ format h
type_for (type0 time length type stream) = refl
type_for (type1 delta length type) = refl
type_for (type2 delta) = refl
type_for type3 = refl

-- a decoder between chunks is one whose reader has just been put there
put_between : (d : Decoder) → d.reader.stage ≡ Csid → holding d (at d.reader Csid) ≡ d
unfolding after
put_between d s = rw (← s)

module _ (d : Decoder) (c : Chunk) where
  -- what the last byte of the chunk does: the chunk ends before its message does, or with it, and its row is stored
  abbrev pub finished : Stepped
  finished =
      let done = got d c + length c.payload in
      let goes_on = ltb done (header d c).message_length in
      record {
        reader = reader Csid (current (format_for c.header) (place_of d.rows c.id) (row d c) (stored d c) 0) (cond goes_on (unfinished (stored d c).id done) (unfinished 0 0));
        event = cond goes_on ChunkEnds Message;
        place = place_of d.rows c.id;
      }

  -- a chunk of a message that lacks a byte ends within the room
  abbrev pub Within : Type 0
  Within = (header d c).message_length ≢ 0 → (0 < left d c) × (got d c + left d c ≤ d.setting.room)

  -- a chunk is not of a stream without a row, except for type 0
  abbrev pub Rowed : Type 0
  Rowed = ltb (find d.rows c.id) row_count ≡ false → format_for c.header ≡ Full

module _ (d : Decoder) (c : Chunk) (payload : List ℕ) where
  -- the reader at the last byte of the basic header, of the header, and in the payload
  abbrev reading : Stage → Reader
  reading st = reader st (current (format_for c.header) (place_of d.rows c.id) (row d c) (row d c) 0) d.reader.message

  abbrev read : Stage → Reader
  read st = reader st (current (format_for c.header) (place_of d.rows c.id) (row d c) (header d c) 0) d.reader.message

  begins : (held : Reader) (st : Stage) (m : ℕ) (rest : List ℕ) → basic_refused d c ≡ 0 → (ltb (find d.rows c.id) row_count ≡ false → format_for c.header ≡ Full)
      → then (holding d held) (named d.setting (look d.rows c.id) (at d.reader st) (format_for c.header) c.id) payload m rest
      ≡ then (holding (claiming d c.id) held) (timestamp_next d.setting (reading st)) payload m rest
  unfolding named timestamp_next field_length after
  begins held st m rest k f = by_row (ltb (find d.rows c.id) row_count) refl
    where
      by_row : (t : Bool) → ltb (find d.rows c.id) row_count ≡ t
          → then (holding d held) (named d.setting (look d.rows c.id) (at d.reader st) (format_for c.header) c.id) payload m rest
          ≡ then (holding (claiming d c.id) held) (timestamp_next d.setting (reading st)) payload m rest
      by_row true e = rw (k, e)
      by_row false e =
          let q = f e in
          let u : ltb (free d.rows) row_count ≡ true = has_free (inside d c) (eqb d.reader.message.id c.id) (ltb (free d.rows) row_count) (rw (e, q) at k) in
          rw (k, e, u, q)

  -- the reader whose header is settled
  abbrev pub settled : Stage → Reader
  settled st = reader st (current (format_for c.header) (place_of d.rows c.id) (row d c) (stored d c) 0) d.reader.message

  settles : (st : Stage) → header_refused d c ≡ 0
      → whole d.setting (read st) (says c.extended (header d c)) ≡ opens d.setting.size (settled st) (got d c)
  unfolding whole
  settles st k = by_message (eqb d.reader.message.id 0) refl
    where
      by_message : (t : Bool) → eqb d.reader.message.id 0 ≡ t
          → whole d.setting (read st) (says c.extended (header d c)) ≡ opens d.setting.size (settled st) (got d c)
      by_message true e =
          let j : first_refusal (format_for c.header) (header d c) (says c.extended (header d c)) d.setting.room ≡ 0 = rw e at k in
          rw (e, j)
      by_message false e =
          let j : later_refusal (format_for c.header) (row d c) (header d c) (says c.extended (header d c)) ≡ 0 = rw e at k in
          rw (e, j)

  settles_not : (st : Stage) → header_refused d c ≢ 0
      → whole d.setting (read st) (says c.extended (header d c)) ≡ refuse (read st) (header_refused d c)
  unfolding whole
  settles_not st k = by_message (eqb d.reader.message.id 0) refl
    where
      by_message : (t : Bool) → eqb d.reader.message.id 0 ≡ t
          → whole d.setting (read st) (says c.extended (header d c)) ≡ refuse (read st) (header_refused d c)
      by_message true e =
          let j : first_refusal (format_for c.header) (header d c) (says c.extended (header d c)) d.setting.room ≢ 0 = rw e at k in
          rw (e, ne_eqb _ 0 j)
      by_message false e =
          let j : later_refusal (format_for c.header) (row d c) (header d c) (says c.extended (header d c)) ≢ 0 = rw e at k in
          rw (e, ne_eqb _ 0 j)

  -- a message of no bytes ends with its header
  no_bytes : (st : Stage) → (header d c).message_length ≡ 0 → opens d.setting.size (settled st) (got d c) ≡ finished d c
  unfolding opens
  no_bytes st e =
      let f : ltb (got d c + length c.payload) (header d c).message_length ≡ false =
      le-ltb (got d c + length c.payload) (header d c).message_length (omega (arith, e))
      in
      rw (eq-eqb (header d c).message_length 0 e, f)

  -- the reader in the payload
  abbrev paying : Reader
  paying = reader MessagePayload (current (format_for c.header) (place_of d.rows c.id) (row d c) (stored d c) (left d c)) (unfinished d.reader.message.id (got d c))

  opens_payload : (st : Stage) → (header d c).message_length ≢ 0 → opens d.setting.size (settled st) (got d c) ≡ go paying
  unfolding opens
  opens_payload st e = rw (ne_eqb (header d c).message_length 0 e)

  lands : length c.payload ≡ left d c → landed paying (length c.payload) ≡ finished d c
  unfolding landed
  lands e = by_rest (ltb (got d c + length c.payload) (header d c).message_length) refl
    where
      none : left d c - length c.payload ≡ 0
      none = omega (arith, e)

      by_rest : (t : Bool) → ltb (got d c + length c.payload) (header d c).message_length ≡ t → landed paying (length c.payload) ≡ finished d c
      by_rest true q = rw (none, q)
      by_rest false q = rw (none, q)

  -- the end of a chunk is no refusal ..
  not_refused : (t : Bool) → is_refusal (cond t ChunkEnds Message) ≡ false
  not_refused true = refl
  not_refused false = refl

  -- .. so the reader that was held does not matter
  finishes : (held : Reader) (p : List ℕ) (n : ℕ) (rest : List ℕ)
      → then (holding (claiming d c.id) held) (finished d c) p n rest ≡ then (claiming d c.id) (finished d c) p n rest
  finishes held p n rest = held_forgotten (claiming d c.id) held (finished d c) p n rest (not_refused (ltb (got d c + length c.payload) (header d c).message_length))

  -- the payload, from the last byte of the header on
  fills : (held : Reader) (st : Stage) (n : ℕ) (rest : List ℕ) → length c.payload ≡ left d c → Within d c
      → then (holding (claiming d c.id) held) (opens d.setting.size (settled st) (got d c)) payload n (c.payload ++ rest)
      ≡ then (claiming d c.id) (finished d c) (sets payload (got d c) c.payload) (n + length c.payload) rest
  unfolding after
  fills held st n rest e w = by_length (eqb (header d c).message_length 0) refl
    where
      empty : (header d c).message_length ≡ 0 → length c.payload ≡ 0
      empty q = omega (arith, e, q)

      by_length : (t : Bool) → eqb (header d c).message_length 0 ≡ t
          → then (holding (claiming d c.id) held) (opens d.setting.size (settled st) (got d c)) payload n (c.payload ++ rest)
          ≡ then (claiming d c.id) (finished d c) (sets payload (got d c) c.payload) (n + length c.payload) rest
      by_length true t =
          let q = eqb-true (header d c).message_length 0 t in
          let z : c.payload ≡ [] = drop_of_length-le c.payload {i = 0} (omega (arith, empty q)) in
          (rw (no_bytes st q)) ∙ finishes held payload n (c.payload ++ rest) ∙ (rw (z, add-zero n))
      by_length false t =
          let q = eqb-false (header d c).message_length 0 t in
          let b = w q in
          (rw (opens_payload st q))
          ∙ bulk c.payload rest (holding (claiming d c.id) paying) payload n refl (omega (arith, e, b.0)) (omega (arith, e)) b.1
          ∙ (rw (lands e))
          ∙ finishes paying (sets payload (got d c) c.payload) (n + length c.payload) rest

  parts : (rest : List ℕ) → chunk_bytes c ++ rest ≡ basic_of c ++ (head_of c ++ (extended_of c ++ (c.payload ++ rest)))
  unfolding chunk_bytes
  parts rest = simp append_assoc

  parts_length : (n : ℕ) → n + length (basic_of c) + length (head_of c) + length (extended_of c) + length c.payload ≡ n + length (chunk_bytes c)
  unfolding chunk_bytes
  parts_length n = simp length-append (omega arith)

  -- to the last byte of the basic header
  basic_back : (n : ℕ) (rest : List ℕ) → d.reader.stage ≡ Csid → FormFits c.form c.id
      → Reaches (run (basic_of c ++ rest) d payload n) d (λ r. named d.setting (look d.rows c.id) r (format_for c.header) c.id) d.reader payload
      (n + length (basic_of c)) rest
  basic_back n rest s fits =
      rw (put_between d s) at (rw (type_for c.header) at (basic_read d d.reader (format_for c.header) payload n rest c.form c.id fits))

  -- to the last byte of the header
  headed_back : (n : ℕ) (rest : List ℕ) → d.reader.stage ≡ Csid → HeadFits d c → basic_refused d c ≡ 0 → Rowed d c
      → Reaches (run (basic_of c ++ (head_of c ++ (extended_of c ++ rest))) d payload n) (claiming d c.id)
      (λ r. whole d.setting r (says c.extended (header d c))) (read Csid) payload (n + length (basic_of c) + length (head_of c) + length (extended_of c)) rest
  headed_back n rest s fits k f =
      let n1 = n + length (basic_of c) in
      let n2 = n1 + length (head_of c) in
      let b = basic_back n (head_of c ++ (extended_of c ++ rest)) s fits.form in
      let h = header_read (claiming d c.id) payload b.held b.stage (place_of d.rows c.id) (row d c) (row d c) 0 d.reader.message c.header n1 (extended_of c ++ rest) fits.fields in
      let x = extended_read (claiming d c.id) payload h.held c.extended (read Csid) h.stage n2 rest fits.extended in
      record {
        stage = x.stage;
        held = x.held;
        reached =
            b.reached
            ∙ begins b.held b.stage n1 (head_of c ++ (extended_of c ++ rest)) k f
            ∙ h.reached
            ∙ x.reached;
      }

  -- what opening a payload settles is never a refusal, and goes by no stage
  opens_quietly : (st : Stage) → is_refusal (opens d.setting.size (settled st) (got d c)).event ≡ false
  unfolding opens
  opens_quietly st = by_length (eqb (header d c).message_length 0)
    where
      by_length : (t : Bool) → is_refusal (cond t (ended (settled st)) (go paying)).event ≡ false
      by_length true = refl
      by_length false = refl

  stage_forgotten : (st : Stage) → opens d.setting.size (settled st) (got d c) ≡ opens d.setting.size (settled Csid) (got d c)
  unfolding opens
  stage_forgotten st = refl

  -- a whole header that is not refused, up to its payload
  pub opened : (n : ℕ) (rest : List ℕ) → d.reader.stage ≡ Csid → HeadFits d c → basic_refused d c ≡ 0 → header_refused d c ≡ 0 → Rowed d c
      → run (basic_of c ++ (head_of c ++ (extended_of c ++ rest))) d payload n
      ≡ then (claiming d c.id) (opens d.setting.size (settled Csid) (got d c)) payload (n + length (basic_of c) + length (head_of c) + length (extended_of c)) rest
  opened n rest s fits k j f =
      let h = headed_back n rest s fits k f in
      let m = n + length (basic_of c) + length (head_of c) + length (extended_of c) in
      h.reached
      ∙ ap (λ (x : Stepped). then (holding (claiming d c.id) h.held) x payload m rest) (settles h.stage j)
      ∙ held_forgotten (claiming d c.id) h.held (opens d.setting.size (settled h.stage) (got d c)) payload m rest (opens_quietly h.stage)
      ∙ ap (λ (x : Stepped). then (claiming d c.id) x payload m rest) (stage_forgotten h.stage)

  -- a whole chunk that is not refused
  pub reads_back : (n : ℕ) (rest : List ℕ) → d.reader.stage ≡ Csid → ChunkFits d c → basic_refused d c ≡ 0 → header_refused d c ≡ 0 → Rowed d c → Within d c
      → run (chunk_bytes c ++ rest) d payload n ≡ then (claiming d c.id) (finished d c) (sets payload (got d c) c.payload) (n + length (chunk_bytes c)) rest
  reads_back n rest s fits k j f w =
      let h = headed_back n (c.payload ++ rest) s fits.head k f in
      let n3 = n + length (basic_of c) + length (head_of c) + length (extended_of c) in
      (rw (parts rest))
      ∙ h.reached
      ∙ (rw (settles h.stage j))
      ∙ fills h.held h.stage n3 rest fits.payload w
      ∙ (rw (parts_length n))

  -- a chunk that is refused at the end of its basic header, whatever follows
  pub refused_basic : (n : ℕ) (rest : List ℕ) → d.reader.stage ≡ Csid → FormFits c.form c.id → basic_refused d c ≢ 0
      → Reaches (run (basic_of c ++ rest) d payload n) d (λ r. refuse r (basic_refused d c)) d.reader payload (n + length (basic_of c)) rest
  refused_basic n rest s fits k =
      let b = basic_back n rest s fits in
      record {
        stage = b.stage;
        held = b.held;
        reached =
            b.reached
            ∙ (rw (← named_refused d.setting d.rows (at d.reader b.stage) (format_for c.header) c.id (find d.rows c.id) (free d.rows) (basic_refused d c) refl refl refl k));
      }

  -- a chunk that is refused at the end of its header, extended time included, whatever follows
  pub refused_header : (n : ℕ) (rest : List ℕ) → d.reader.stage ≡ Csid → HeadFits d c → basic_refused d c ≡ 0 → header_refused d c ≢ 0 → Rowed d c
      → Reaches (run (basic_of c ++ (head_of c ++ (extended_of c ++ rest))) d payload n) (claiming d c.id) (λ r. refuse r (header_refused d c)) (read Csid) payload
      (n + length (basic_of c) + length (head_of c) + length (extended_of c)) rest
  refused_header n rest s fits k j f =
      let h = headed_back n rest s fits k f in
      record { stage = h.stage; held = h.held; reached = h.reached ∙ (rw (settles_not h.stage j)) }
