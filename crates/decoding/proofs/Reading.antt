-- The bytes of a header are read back: its fields one after the other, each from where the one before it ended.
use Rattle.std.proofs.Common.{◌≡◌, ℕ, ◌+◌, ◌/◌, ◌%◌, ◌^◌, ◌<◌, List, ◌++◌, length, refl, ◌∙◌, append_assoc, add-zero, arith, lit<, length-append, eq-eqb, ne_eqb}
use Rattle.fields.specs.Endian.{big_endian, little_endian, swapped}
use Rattle.fields.proofs.Endian.{bytes_big, bytes_little, length_big, length_little, number_big}
use Rattle.chunk_header.specs.Layout.{Header, type0, type1, type2, type3, header_bytes, Extended, absent, present, extended_bytes, HeaderFits}
use Rattle.chunk_header.specs.Table.{field_length}
use Rattle.decoding.specs.Decoder.{Decoder}
use Rattle.byte_machine.specs.Reader.{Reader, Stage, InitialTimestamp, MessageLength, MessageTypeId, MessageStreamId, ExtendedTimestamp, Stepped, Unfinished, at, current, headed, reader}
use Rattle.chunk_meaning.specs.Stored.{Row, fielded, lengthed, streamed, typed}
use Rattle.decoding.specs.Call.{Outcome, after, run}
use Rattle.decoding.specs.Chunk.{ExtendedFits, carried, format_for, says}
use Rattle.byte_machine.specs.Step.{extended_field_step, length_field_step, stream_field_step, timestamp_field_step, type_field_step}
use Rattle.byte_machine.specs.Header.{extended_next, length_next, stream_next, timestamp_next, type_next, whole}
use Rattle.chunk_header.specs.Limits.{max_field}
use Rattle.fields.proofs.Swapped.{swapped_back}
use Rattle.decoding.proofs.Fields.{Reaches, field}
use Rattle.decoding.proofs.Runs.{holding, run_header, then}

-- the same step with the same number
of_number : {o : Outcome} {d : Decoder} {r : Reader} {payload rest : List ℕ} {n x y : ℕ} (f : ℕ → Reader → Stepped) → x ≡ y
    → Reaches o d (f x) r payload n rest → Reaches o d (f y) r payload n rest
of_number f e h = rw e at h

module _ (d : Decoder) (payload : List ℕ) where
  -- the time field, the length, the type, the stream id and the extended time
  time_field_lem : (r : Reader) (v n : ℕ) (rest : List ℕ) → v < 2 ^ 24
      → Reaches (run (big_endian 3 v ++ rest) (holding d (at r (InitialTimestamp 0 3))) payload n) d
      (λ r'. length_next d.setting (headed r' (fielded r'.chunk.header v))) r payload (n + 1 + 2) rest
  unfolding big_endian timestamp_field_step
  time_field_lem r v n rest h =
      rw (number_big 3 v h) at
      (field InitialTimestamp (λ setting r' x. length_next setting (headed r' (fielded r'.chunk.header x))) (λ x k. refl) (λ x k setting rows r' b. refl) d r payload rest
      _ (big_endian 2 v) 0 0 n (bytes_big 3 v) (lit< tt) (lit< tt))

  length_field : (r : Reader) (v n : ℕ) (rest : List ℕ) → v < 2 ^ 24
      → Reaches (run (big_endian 3 v ++ rest) (holding d (at r (MessageLength 0 3))) payload n) d
      (λ r'. type_next d.setting (headed r' (lengthed r'.chunk.header v))) r payload (n + 1 + 2) rest
  unfolding big_endian length_field_step
  length_field r v n rest h =
      rw (number_big 3 v h) at
      (field MessageLength (λ setting r' x. type_next setting (headed r' (lengthed r'.chunk.header x))) (λ x k. refl) (λ x k setting rows r' b. refl) d r payload rest
      _ (big_endian 2 v) 0 0 n (bytes_big 3 v) (lit< tt) (lit< tt))

  type_field : (r : Reader) (v n : ℕ) (rest : List ℕ) → v < 2 ^ 8
      → run (big_endian 1 v ++ rest) (holding d (at r MessageTypeId)) payload n
      ≡ then (holding d (at r MessageTypeId)) (stream_next d.setting (headed (at r MessageTypeId) (typed r.chunk.header v))) payload (n + 1) rest
  unfolding big_endian type_field_step after
  type_field r v n rest h =
      let e : v / 256 ^ 0 % 256 ≡ v = omega arith in
      run_header (v / 256 ^ 0 % 256) rest (holding d (at r MessageTypeId)) payload n refl ∙ (rw e)

  stream_field : (r : Reader) (v n : ℕ) (rest : List ℕ) → v < 2 ^ 32
      → Reaches (run (little_endian 4 v ++ rest) (holding d (at r (MessageStreamId 0 4))) payload n) d
      (λ r'. extended_next d.setting (headed r' (streamed r'.chunk.header v))) r payload (n + 1 + 3) rest
  unfolding little_endian stream_field_step
  stream_field r v n rest h =
      of_number (λ x r'. extended_next d.setting (headed r' (streamed r'.chunk.header x))) (swapped_back v h)
      (field MessageStreamId (λ setting r' x. extended_next setting (headed r' (streamed r'.chunk.header (swapped x)))) (λ x k. refl) (λ x k setting rows r' b. refl) d r payload rest
      _ (little_endian 3 (v / 256)) 0 0 n (bytes_little 4 v) (lit< tt) (lit< tt))

  extended_field : (r : Reader) (v n : ℕ) (rest : List ℕ) → v < 2 ^ 32
      → Reaches (run (big_endian 4 v ++ rest) (holding d (at r (ExtendedTimestamp 0 4))) payload n) d
      (λ r'. whole d.setting r' v) r payload (n + 1 + 3) rest
  unfolding big_endian extended_field_step
  extended_field r v n rest h =
      rw (number_big 4 v h) at
      (field ExtendedTimestamp (λ setting r' x. whole setting r' x) (λ x k. refl) (λ x k setting rows r' b. refl) d r payload rest
      _ (big_endian 3 v) 0 0 n (bytes_big 4 v) (lit< tt) (lit< tt))

  -- a header, from the byte after the basic header to the byte before the extended time
  module _ (held : Reader) (st : Stage) (place : ℕ) (before row : Row) (left : ℕ) (m : Unfinished) where
    abbrev begun : Header → Reader
    begun h = reader st (current (format_for h) place before row left) m

    abbrev HeaderRead : Header → ℕ → List ℕ → Type 0
    HeaderRead h n rest =
        Reaches (then (holding d held) (timestamp_next d.setting (begun h)) payload n (header_bytes h ++ rest)) d
        (λ r. extended_next d.setting (headed r (carried h r.chunk.header))) (begun h) payload (n + length (header_bytes h)) rest

    type_2 : (delta n : ℕ) (rest : List ℕ) → delta < 2 ^ 24 → HeaderRead (type2 delta) n rest
    unfolding timestamp_next length_next type_next stream_next field_length after
    type_2 delta n rest h =
        let f = time_field_lem (begun (type2 delta)) delta n rest h in
        let k : n + 1 + 2 ≡ n + length (big_endian 3 delta) = rw (length_big 3 delta) (omega arith) in
        record { stage = f.stage; held = f.held; reached = f.reached ∙ (rw k) }

    type_1 : (delta long type n : ℕ) (rest : List ℕ) → delta < 2 ^ 24 → long < 2 ^ 24 → type < 2 ^ 8 → HeaderRead (type1 delta long type) n rest
    unfolding timestamp_next length_next type_next stream_next field_length after
    type_1 delta long type n rest h i j =
        let r = begun (type1 delta long type) in
        let s = big_endian 1 type ++ rest in
        let f = time_field_lem r delta n (big_endian 3 long ++ s) h in
        let r1 = headed (at r f.stage) (fielded row delta) in
        let g = length_field r1 long (n + 1 + 2) s i in
        let r2 = headed (at r1 g.stage) (lengthed r1.chunk.header long) in
        let k : n + 1 + 2 + 1 + 2 + 1 ≡ n + length (header_bytes (type1 delta long type)) =
        simp (length-append, length_big) (omega arith)
        in
        let e : header_bytes (type1 delta long type) ++ rest ≡ big_endian 3 delta ++ (big_endian 3 long ++ s) = simp append_assoc in
        record { stage = MessageTypeId; held = at r2 MessageTypeId; reached = (rw e) ∙ f.reached ∙ g.reached ∙ type_field r2 type (n + 1 + 2 + 1 + 2) rest j ∙ (rw k) }

    type_0 : (time long type stream n : ℕ) (rest : List ℕ) → time < 2 ^ 24 → long < 2 ^ 24 → type < 2 ^ 8 → stream < 2 ^ 32
        → HeaderRead (type0 time long type stream) n rest
    unfolding timestamp_next length_next type_next stream_next field_length after
    type_0 time long type stream n rest h i j q =
        let r = begun (type0 time long type stream) in
        let t = little_endian 4 stream ++ rest in
        let s = big_endian 1 type ++ t in
        let f = time_field_lem r time n (big_endian 3 long ++ s) h in
        let r1 = headed (at r f.stage) (fielded row time) in
        let g = length_field r1 long (n + 1 + 2) s i in
        let r2 = headed (at r1 g.stage) (lengthed r1.chunk.header long) in
        let r3 = headed (at r2 MessageTypeId) (typed r2.chunk.header type) in
        let u = stream_field r3 stream (n + 1 + 2 + 1 + 2 + 1) rest q in
        let k : n + 1 + 2 + 1 + 2 + 1 + 1 + 3 ≡ n + length (header_bytes (type0 time long type stream)) =
        simp (length-append, length_big, length_little) (omega arith)
        in
        let e : header_bytes (type0 time long type stream) ++ rest ≡ big_endian 3 time ++ (big_endian 3 long ++ s) = simp append_assoc in
        record {
          stage = u.stage;
          held = u.held;
          reached = (rw e) ∙ f.reached ∙ g.reached ∙ type_field r2 type (n + 1 + 2 + 1 + 2) t j ∙ u.reached ∙ (rw k);
        }

    pub header_read : (h : Header) (n : ℕ) (rest : List ℕ) → HeaderFits h → HeaderRead h n rest
    unfolding timestamp_next length_next type_next stream_next field_length after
    header_read (type0 time long type stream) n rest h = type_0 time long type stream n rest h.0 h.1 h.2 h.3
    header_read (type1 delta long type) n rest h = type_1 delta long type n rest h.0 h.1 h.2
    header_read (type2 delta) n rest h = type_2 delta n rest h
    header_read type3 n rest h = record { stage = st; held = held; reached = rw (add-zero n) }

  -- the extended time, where the field says that there is one
  pub extended_read : (held : Reader) (e : Extended) (r : Reader) (s : Stage) (n : ℕ) (rest : List ℕ) → ExtendedFits e r.chunk.header
      → Reaches (then (holding d held) (extended_next d.setting (at r s)) payload n (extended_bytes e ++ rest)) d
      (λ r'. whole d.setting r' (says e r.chunk.header)) r payload (n + length (extended_bytes e)) rest
  unfolding extended_next after
  extended_read held absent r s n rest h = record { stage = s; held = held; reached = rw (ne_eqb r.chunk.header.timestamp_field max_field h, add-zero n) }
  extended_read held (present time) r s n rest h =
      let f = extended_field r time n rest h.1 in
      let k : n + 1 + 3 ≡ n + length (big_endian 4 time) = rw (length_big 4 time) (omega arith) in
      record { stage = f.stage; held = f.held; reached = (rw (eq-eqb r.chunk.header.timestamp_field max_field h.0)) ∙ f.reached ∙ (rw k) }
