-- A header that is all there does in one turn what its bytes do one by one: they are a chunk's head, which is read back.
use Rattle.std.proofs.Common.{◌≡◌, ℕ, ◌+◌, ◌*◌, ◌%◌, ◌^◌, ◌<◌, ◌≤◌, Bool, true, false, cond, not, eqb, ltb, ◌≢◌, List, [], ◌++◌, length, get_or, take, drop, refl, ap, ◌∙◌, append_assoc, arith, length-drop, take-append-drop, length-take, drop-cons, drop-drop, lt-ltb}
use Rattle.fields.specs.Endian.{Bytes, big_endian, gather, little_endian, number, swapped}
use Rattle.fields.proofs.Endian.{number_lt}
use Rattle.fields.proofs.Lists.{big_take, bytes_drop, bytes_take}
use Rattle.chunk_header.specs.declared.ChunkHeaderFormat.{ChunkHeaderFormat}
use Rattle.chunk_header.specs.declared.ChunkHeaderFormat.TheVariants.{Full, TimeDeltaWithoutMessageStreamId, TimeDeltaOnly, Empty}
use Rattle.chunk_header.specs.Layout.{Chunk, absent, format as type_number, header_bytes, one, HeaderFits}
use Rattle.chunk_header.specs.Table.{field_length, header_length, type_of}
use Rattle.chunk_header.proofs.Table.{type_of_byte}
use Rattle.decoding.specs.Decoder.{Decoder}
use Rattle.byte_machine.specs.Reader.{Csid}
use Rattle.chunk_meaning.specs.Stored.{Row}
use Rattle.decoding.specs.Call.{run}
use Rattle.decoding.specs.Chunk.{HeadFits, basic_refused, carried, format_for, got, header, header_refused, row}
use Rattle.decoding.specs.Head.{Known, header_in, refusal_of, settled_by}
use Rattle.byte_machine.specs.Header.{opens}
use Rattle.chunk_meaning.specs.Meaning.{basic_refusal, first_refusal, later_refusal}
use Rattle.chunk_header.specs.Limits.{max_field}
use Rattle.byte_machine.specs.Rows.{find, free, row_at, row_count}
use Rattle.fields.proofs.Swapped.{little_take, swapped_small}
use Rattle.decoding.proofs.ReadsBack.{basic_of, claiming, head_of, opened, settled}
use Rattle.byte_machine.proofs.RowLaws.{find_tells}
use Rattle.decoding.proofs.Runs.{then}
use Rattle.chunk_meaning.proofs.Unrefused.{with_row}
use Rattle.fields.proofs.Tests.{clash}

-- one byte as a number
pub one_number : (bs : List ℕ) (i : ℕ) → i < length bs → number (take 1 (drop i bs)) ≡ get_or bs i 0
unfolding gather
one_number bs i h = rw (drop-cons bs i 0 h) (omega arith)

-- the bytes after the first, as the header's and the rest
module _ (bs : List ℕ) (h : Bytes bs) where
  field_bytes : (at n : ℕ) → at + n ≤ length bs → big_endian n (number (take n (drop at bs))) ++ drop (at + n) bs ≡ drop at bs
  field_bytes at n k =
      (rw (big_take n (drop at bs) (bytes_drop at bs h) (rw length-drop (omega arith)), ← drop-drop n at bs)) ∙ take-append-drop n (drop at bs)

  stream_bytes_lem : 12 ≤ length bs → little_endian 4 (swapped (number (take 4 (drop 8 bs)))) ++ drop 12 bs ≡ drop 8 bs
  stream_bytes_lem k =
      (rw (little_take (drop 8 bs) (bytes_drop 8 bs h) (rw length-drop (omega arith)), ← drop-drop 4 8 bs)) ∙ take-append-drop 4 (drop 8 bs)

  -- a number of n bytes
  field_small : (at n : ℕ) → at + n ≤ length bs → number (take n (drop at bs)) < 256 ^ n
  field_small at n k =
      let l : length (take n (drop at bs)) ≡ n = rw (length-take, length-drop) (omega arith) in
      rw l at (number_lt (take n (drop at bs)) (bytes_take n (drop at bs) (bytes_drop at bs h)))

  head_rest : (f : ChunkHeaderFormat) → 1 + header_length (type_of f) ≤ length bs → header_bytes (header_in f bs) ++ drop (1 + header_length (type_of f)) bs ≡ drop 1 bs
  unfolding header_length field_length
  head_rest Full k =
      (simp append_assoc)
      ∙ ap (λ (l : List ℕ). big_endian 3 (number (take 3 (drop 1 bs))) ++ (big_endian 3 (number (take 3 (drop 4 bs))) ++ (big_endian 1 (number (take 1 (drop 7 bs))) ++ l))) (stream_bytes_lem k)
      ∙ ap (λ (l : List ℕ). big_endian 3 (number (take 3 (drop 1 bs))) ++ (big_endian 3 (number (take 3 (drop 4 bs))) ++ l)) (field_bytes 7 1 (omega (arith, k)))
      ∙ ap (λ (l : List ℕ). big_endian 3 (number (take 3 (drop 1 bs))) ++ l) (field_bytes 4 3 (omega (arith, k)))
      ∙ field_bytes 1 3 (omega (arith, k))
  head_rest TimeDeltaWithoutMessageStreamId k =
      (simp append_assoc)
      ∙ ap (λ (l : List ℕ). big_endian 3 (number (take 3 (drop 1 bs))) ++ (big_endian 3 (number (take 3 (drop 4 bs))) ++ l)) (field_bytes 7 1 (omega (arith, k)))
      ∙ ap (λ (l : List ℕ). big_endian 3 (number (take 3 (drop 1 bs))) ++ l) (field_bytes 4 3 (omega (arith, k)))
      ∙ field_bytes 1 3 (omega (arith, k))
  head_rest TimeDeltaOnly k = field_bytes 1 3 (omega (arith, k))
  head_rest Empty k = refl

  fields_fit : (f : ChunkHeaderFormat) → 1 + header_length (type_of f) ≤ length bs → HeaderFits (header_in f bs)
  unfolding header_length field_length
  fields_fit Full k = (field_small 1 3 (omega (arith, k)), field_small 4 3 (omega (arith, k)), field_small 7 1 (omega (arith, k)), swapped_small (number (take 4 (drop 8 bs))))
  fields_fit TimeDeltaWithoutMessageStreamId k = (field_small 1 3 (omega (arith, k)), field_small 4 3 (omega (arith, k)), field_small 7 1 (omega (arith, k)))
  fields_fit TimeDeltaOnly k = field_small 1 3 (omega (arith, k))
  fields_fit Empty k = tt

-- the format that a header says, and its type's number
format_in : (f : ChunkHeaderFormat) (bs : List ℕ) → format_for (header_in f bs) ≡ f
format_in Full bs = refl
format_in TimeDeltaWithoutMessageStreamId bs = refl
format_in TimeDeltaOnly bs = refl
format_in Empty bs = refl

type_in_lem : (f : ChunkHeaderFormat) (bs : List ℕ) → type_number (header_in f bs) ≡ type_of f
type_in_lem Full bs = refl
type_in_lem TimeDeltaWithoutMessageStreamId bs = refl
type_in_lem TimeDeltaOnly bs = refl
type_in_lem Empty bs = refl

head_length : (f : ChunkHeaderFormat) (bs : List ℕ) → length (header_bytes (header_in f bs)) ≡ header_length (type_of f)
unfolding header_length field_length big_endian little_endian
head_length Full bs = refl
head_length TimeDeltaWithoutMessageStreamId bs = refl
head_length TimeDeltaOnly bs = refl
head_length Empty bs = refl

-- the chunk that begins with the input's first bytes, as far as its payload
module _ (d : Decoder) (bs : List ℕ) (f : ChunkHeaderFormat) (place : ℕ) (w : Known d bs f place) (r h : Row) (row_is : r ≡ row_at d.rows place)
    (header_is : h ≡ carried (header_in f bs) r) (plain : h.timestamp_field ≢ max_field)
    (basic : basic_refusal f true true (not (eqb d.reader.message.id 0)) (eqb d.reader.message.id r.id) ≡ 0)
    (head : refusal_of f r h d.reader.message d.setting.room ≡ 0) where
  abbrev id : ℕ
  id = get_or bs 0 0 % 64

  abbrev begun : Chunk
  begun = record { form = one; id = id; header = header_in f bs; extended = absent; payload = [] }

  found : ltb (find d.rows id) row_count ≡ true
  found = lt-ltb (find d.rows id) row_count (rw w.place_is at w.found)

  its_row : row d begun ≡ r
  its_row = rw (found, row_is, w.place_is)

  its_header : header d begun ≡ h
  its_header = rw (its_row, header_is)

  its_id : r.id ≡ id
  its_id = rw (row_is, w.place_is) (find_tells d.rows id (rw w.place_is at w.found))

  -- the bytes are the chunk's
  first_byte : 64 * type_of f + id ≡ get_or bs 0 0
  first_byte = omega (arith, ap type_of w.format_is ∙ type_of_byte (get_or bs 0 0) (w.bytes 0))

  its_bytes : bs ≡ basic_of begun ++ (head_of begun ++ drop (1 + header_length (type_of f)) bs)
  its_bytes = drop-cons bs 0 0 (omega (arith, w.long)) ∙ (rw (type_in_lem f bs, first_byte, head_rest bs w.bytes f w.long))

  not_basic : basic_refused d begun ≡ 0
  not_basic = rw (format_in f bs, found, ← with_row f (ltb (free d.rows) row_count) (not (eqb d.reader.message.id 0)) (eqb d.reader.message.id id), ← its_id) basic

  not_head : header_refused d begun ≡ 0
  not_head = rw (format_in f bs, its_header, its_row) (by_message (eqb d.reader.message.id 0) refl)
    where
      by_message : (t : Bool) → eqb d.reader.message.id 0 ≡ t
          → cond (not t) (later_refusal f r h h.timestamp_field) (first_refusal f h h.timestamp_field d.setting.room) ≡ 0
      by_message true e = rw e at head
      by_message false e = rw e at head

  head_fits : HeadFits d begun
  head_fits = record { form = (w.id, omega arith); fields = fields_fit bs w.bytes f w.long; extended = rw its_header plain }

  -- what is settled, by the row and the header
  settles_so : opens d.setting.size (settled d begun [] Csid) (got d begun) ≡ settled_by d.setting.size f place r h d.reader
  settles_so = by_message (eqb d.reader.message.id 0) refl
    where
      by_message : (t : Bool) → eqb d.reader.message.id 0 ≡ t
          → opens d.setting.size (settled d begun [] Csid) (got d begun) ≡ settled_by d.setting.size f place r h d.reader
      by_message true e = rw (e, format_in f bs, its_header, its_row, found, w.stage, w.place_is)
      by_message false e = rw (e, format_in f bs, its_header, its_row, found, w.stage, w.place_is)

  claimed_already : claiming d id ≡ d
  claimed_already = rw found

  pub known_runs : (payload : List ℕ) (n : ℕ)
      → run bs d payload n
      ≡ then d (settled_by d.setting.size f place r h d.reader) payload (n + (1 + header_length (type_of f))) (drop (1 + header_length (type_of f)) bs)
  known_runs payload n =
      let rest = drop (1 + header_length (type_of f)) bs in
      let k : n + 1 + length (head_of begun) + 0 ≡ n + (1 + header_length (type_of f)) = omega (arith, head_length f bs) in
      ap (λ (l : List ℕ). run l d payload n) its_bytes
      ∙ opened d begun payload n rest w.stage head_fits not_basic not_head (λ e. clash e found)
      ∙ (rw (claimed_already, settles_so, k))
