-- A message of one chunk, all there, is its header read back and then one stretch of payload that ends it.
use Rattle.std.proofs.Common.{Some, ℕ, ◌+◌, ◌-◌, ◌%◌, ◌≤◌, ◌<◌, min, ◌≡◌, refl, sym, ap, ◌∙◌, ◌≢◌, Bool, true, false, List, arith, eqb, drop, get_or, length, take, length-drop, length-take, take-append-drop, eq-eqb, le-ltb, ne_eqb}
use Rattle.std.proofs.lemmas.List.Edits.{sets}
use Rattle.fields.specs.Endian.{Bytes}
use Rattle.chunk_header.specs.declared.ChunkHeaderFormat.{ChunkHeaderFormat}
use Rattle.chunk_header.specs.declared.ChunkHeaderFormat.TheVariants.{Full, TimeDeltaWithoutMessageStreamId, TimeDeltaOnly, Empty}
use Rattle.chunk_header.specs.Limits.{max_field}
use Rattle.chunk_header.specs.Table.{header_length, type_of}
use Rattle.chunk_meaning.specs.Stored.{Row}
use Rattle.chunk_meaning.specs.Meaning.{basic_refusal, first_refusal, first_time}
use Rattle.byte_machine.specs.Reader.{Reader, Csid, MessagePayload, Stepped, current, ended, go, reader, unfinished}
use Rattle.byte_machine.specs.Header.{opens}
use Rattle.byte_machine.specs.Payload.{landed, paid}
use Rattle.byte_machine.specs.Setting.{setting}
use Rattle.byte_machine.specs.Rows.{put_at, row_at, row_count}
use Rattle.decoding.specs.Call.{after, next, outcome, read, run}
use Rattle.decoding.specs.Chunk.{carried}
use Rattle.decoding.specs.Head.{Known, header_in, settled_by}
use Rattle.decoding.specs.Decoder.{Decoder}
use Rattle.decoding.proofs.Heading.{known_runs}
use Rattle.decoding.proofs.Runs.{bulk, holding, next_runs, then}
use Rattle.held.specs.declared.numbers.HeldRow.{HeldRow}
use Rattle.held.specs.Numbers.{decode, encode, held_in, held_row, held_row_of, numbers_of, reader_from, row_from}
use Rattle.held.specs.declared.stage.Stage.TheVariants.{Csid as AtCsid}
use Rattle.held.proofs.Stages.{is_csid}
use Rattle.one_stroke.specs.declared.message.Seen.{Seen}
use Rattle.one_stroke.specs.Lent.{Lent}
use Rattle.one_stroke.specs.Quick.{Between, Fits, Once, Whole, format_at, header_at, place_at, row_on, timed_at}
use Rattle.one_stroke.proofs.Strokes.{stroke}

abbrev with_time : HeldRow → ℕ → HeldRow
with_time h time = held_row h.id time h.field h.length h.kind h.stream

-- what the tests saw is the chunk that the input begins with
pub sees : (held rows input : List ℕ) (f : ChunkHeaderFormat) (start place time : ℕ) (row header : HeldRow)
    → f ≡ format_at input → start ≡ 1 + header_length (type_of f) → 2 ≤ get_or input 0 0 % 64 → start ≤ length input
    → place ≡ place_at rows input → place < row_count → row ≡ held_row_of (row_at rows place)
    → header ≡ held_row_of (carried (header_in f input) (row_from row))
    → Fits header.field header.length (get_or held 0 0) (get_or held 1 0) (length input - start)
    → time ≡ first_time f row.time header.field
    → Whole (record { start = start; format = f; place = place; before = row; header = with_time header time }) held rows input
sees held rows input f start place time row header f-is start_is id long place_is found row_is header_is fits time_is =
    let r : row ≡ held_row_of (row_on rows input) = row_is ∙ ap (λ (p : ℕ). held_row_of (row_at rows p)) place_is in
    let h : header ≡ held_row_of (header_at rows input) =
    header_is
    ∙ ap (λ (x : HeldRow). held_row_of (carried (header_in f input) (row_from x))) r
    ∙ ap (λ (g : ChunkHeaderFormat). held_row_of (carried (header_in g input) (row_on rows input))) f-is
    in
    let t : time ≡ first_time (format_at input) (row_on rows input).timestamp.value (header_at rows input).timestamp_field =
    time_is
    ∙ ap (λ (x : ChunkHeaderFormat). first_time x row.time header.field) f-is
    ∙ ap (λ (x : HeldRow). first_time (format_at input) x.time header.field) r
    ∙ ap (λ (x : HeldRow). first_time (format_at input) (row_on rows input).timestamp.value x.field) h
    in
    record {
      id = id;
      start_is = start_is ∙ ap (λ (x : ChunkHeaderFormat). 1 + header_length (type_of x)) f-is;
      long = long;
      format_is = f-is;
      place_is = place_is;
      found = rw place_is at found;
      before_is = r;
      header_is = ap (λ (x : HeldRow). with_time x time) h ∙ ap (λ (n : ℕ). with_time (held_row_of (header_at rows input)) n) t;
      fits = rw h at fits;
    }

-- outside a message, of a stream that has a row, nothing is refused at the basic header; and at the last byte only 13 and 14
not_basic : (f : ChunkHeaderFormat) (own : Bool) → basic_refusal f true true false own ≡ 0
unfolding basic_refusal
not_basic Full own = refl
not_basic TimeDeltaWithoutMessageStreamId own = refl
not_basic TimeDeltaOnly own = refl
not_basic Empty own = refl

not_first : (f : ChunkHeaderFormat) (h : Row) (number room : ℕ) → h.timestamp_field ≢ max_field → h.message_length ≤ room → first_refusal f h number room ≡ 0
unfolding first_refusal
not_first Full h number room p q = rw (le-ltb room h.message_length q)
not_first TimeDeltaWithoutMessageStreamId h number room p q = rw (ne_eqb h.timestamp_field max_field p, le-ltb room h.message_length q)
not_first TimeDeltaOnly h number room p q = rw (ne_eqb h.timestamp_field max_field p, le-ltb room h.message_length q)
not_first Empty h number room p q = rw (ne_eqb h.timestamp_field max_field p, le-ltb room h.message_length q)

module _ (held rows input payload : List ℕ) (bytes : Bytes input) (b : Between held (length input) (length payload)) (s : Seen) (w : Whole s held rows input) where
  abbrev d : Decoder
  d = decode held rows

  abbrev f : ChunkHeaderFormat
  f = format_at input

  abbrev long : ℕ
  long = (header_at rows input).message_length

  abbrev start : ℕ
  start = 1 + header_length (type_of f)

  -- the message, as it was sent
  abbrev pub sent : List ℕ
  sent = take long (drop start input)

  -- the decoder after it
  abbrev pub finished : Decoder
  finished = record {
    setting = setting (get_or held 0 0) (get_or held 1 0);
    closed = get_or held 2 0;
    reader = reader Csid (current f (place_at rows input) (row_on rows input) (timed_at rows input) 0) (unfinished 0 0);
    rows = put_at rows (place_at rows input) (timed_at rows input);
  }

  outside : eqb (get_or held 9 0) 0 ≡ true
  outside = eq-eqb (get_or held 9 0) 0 b.message

  known : Known d input f (place_at rows input)
  known = record {
    stage = is_csid (get_or held 3 0) (get_or held 4 0) (get_or held 5 0) b.stage;
    bytes = bytes;
    format_is = refl;
    id = w.id;
    long = rw w.start_is at w.long;
    place_is = refl;
    found = w.found;
  }

  -- in its payload, before the first byte
  abbrev opened : Reader
  opened = reader MessagePayload (current f (place_at rows input) (row_on rows input) (timed_at rows input) long) (unfinished (get_or held 9 0) 0)

  all_of_it : min (get_or held 1 0) (long - 0) ≡ long
  all_of_it = omega (arith, w.fits.in_chunk)

  opens_so : settled_by (get_or held 1 0) f (place_at rows input) (row_on rows input) (header_at rows input) (reader_from (held_in held)) ≡ go opened
  unfolding opens
  opens_so = rw (outside, ne_eqb long 0 w.fits.some, all_of_it)

  ends_so : landed opened long ≡ ended (paid opened long 0)
  unfolding landed
  ends_so =
      let none : long - long ≡ 0 = omega arith in
      let all : 0 + long ≡ long = omega arith in
      rw (none, all, le-ltb long long (omega arith))

  sent_long : length sent ≡ long
  sent_long = rw (length-take, length-drop) (omega (arith, w.fits.there, w.start_is))

  head_runs : run input d payload 0 ≡ run (drop start input) (holding d opened) payload start
  head_runs =
      let from_none : 0 + start ≡ start = omega arith in
      known_runs d input f (place_at rows input) known (row_on rows input) (header_at rows input) refl refl w.fits.plain
      (rw outside (not_basic f (eqb (get_or held 9 0) (row_on rows input).id)))
      (rw outside (not_first f (header_at rows input) (header_at rows input).timestamp_field (get_or held 0 0) w.fits.plain w.fits.in_room))
      payload
      0
      ∙ (rw (opens_so, from_none))

  pub once_runs : run input d payload 0 ≡ outcome (read finished.reader (start + long)) finished (sets payload 0 sent)
  unfolding after
  once_runs =
      let some = w.fits.some in
      head_runs
      ∙ ap (λ (l : List ℕ). run l (holding d opened) payload start) (sym (take-append-drop long (drop start input)))
      ∙ bulk sent (drop long (drop start input)) (holding d opened) payload start refl (omega (arith, sent_long)) (omega (arith, sent_long)) (omega (arith, w.fits.in_room))
      ∙ ap (λ (n : ℕ). then (holding d opened) (landed opened n) (sets payload 0 sent) (start + n) (drop long (drop start input))) sent_long
      ∙ ap (λ (x : Stepped). then (holding d opened) x (sets payload 0 sent) (start + long) (drop long (drop start input))) ends_so

  -- what is stored stands for it
  module _ (held' rows' payload' : List ℕ) (end : ℕ) where
    pub once_taken : held' ≡ numbers_of (record { room = get_or held 0 0; size = get_or held 1 0; closed = 0; stage = AtCsid; format = s.format; place = s.place; left = 0; id = 0; got = 0; before = s.before; header = s.header })
        → rows' ≡ put_at rows s.place (row_from s.header)
        → payload' ≡ sets payload 0 sent
        → end ≡ start + long
        → Lent (read (reader_from (held_in held')) end) held' rows' payload' (next d input payload)
    once_taken k t p e =
        let numbers : held' ≡ encode finished = k ∙ (rw (w.format_is, w.place_is, w.before_is, w.header_is, b.open_still)) in
        let answer : read (reader_from (held_in held')) end ≡ read finished.reader (start + long) = rw (numbers, e) in
        rw answer
        (stroke (next d input payload) (read finished.reader (start + long)) finished held' rows' payload'
        (next_runs d input payload b.open_still b.room ∙ once_runs ∙ (rw (← p)))
        numbers
        (t ∙ (rw (w.place_is, w.header_is)))
        (omega arith))

    -- .. and so a message is taken, and not none
    pub once_some : held' ≡ numbers_of (record { room = get_or held 0 0; size = get_or held 1 0; closed = 0; stage = AtCsid; format = s.format; place = s.place; left = 0; id = 0; got = 0; before = s.before; header = s.header })
        → rows' ≡ put_at rows s.place (row_from s.header)
        → payload' ≡ sets payload 0 sent
        → end ≡ start + long
        → Once (Some end) held rows input payload held' rows' payload'
    once_some k t p e = record {
      taken = λ n q. let same : end ≡ n = cc in rw (← same) (once_taken k t p e);
      numbers = λ q. absurd cc;
      table = λ q. absurd cc;
      buffer = λ q. absurd cc;
    }
