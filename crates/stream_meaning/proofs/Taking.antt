-- A chunk that is not refused does to a decoder's view what it does to its stream: what a taken chunk leaves, seen through `viewed`.
use Rattle.std.proofs.Common.{◌≡◌, ℕ, ◌≤◌, Bool, true, false, cond, eqb, ◌≢◌, List, [], ◌∷◌, ◌++◌, length, take, sym, refl, ap, ◌∙◌, append-nil, zero-add, arith, ltb-false, eq-eqb, ne_eqb, eqb-true}
use mathlib.Core.Option.{Option, some, map}
use lib.Seq.{length-sets, sets}
use borrow.Author.Tests.{eqb-false}
use Rattle.fields.specs.Cases.{among}
use Rattle.fields.proofs.Lists.{sets_front}
use Rattle.chunk_header.specs.Layout.{Chunk, chunk_bytes}
use Rattle.byte_machine.proofs.Putting.{Lists}
use Rattle.decoding.specs.Decoder.{Decoder}
use Rattle.decoding.specs.Answer.{Listed, message, more}
use Rattle.decoding.specs.Call.{Outcome, after, outcome, run}
use Rattle.decoding.specs.Calls.{Ready, after_call}
use Rattle.decoding.specs.Chunk.{ChunkFits, HeadFits as DecoderFits, basic_refused, got, header, header_refused, stored}
use Rattle.decoding.proofs.Accepts.{refuses_basic, refuses_header}
use Rattle.decoding.proofs.Reached.{made_reaches}
use Rattle.decoding.proofs.ReadsBack.{basic_of, extended_of, head_of}
use Rattle.decoding.proofs.Runs.{next_runs}
use Rattle.decoding.proofs.Taken.{Takes, done, ends_within, goes, goes_on, hands_out, id_some, its_own, leaves, parts, taking}
use Rattle.stream_meaning.specs.Stream.{Fits, Said, Stream, hands, lacks, payload, saying, takes, time}
use Rattle.stream_meaning.specs.Taking.{Answers, NotRefused, OwnStream, Took, fed}
use Rattle.stream_meaning.specs.View.{said_in, viewed}
use Rattle.stream_meaning.proofs.Seeing.{Named, chunk_fits, earlier_is, earlier_length, head_fits, payload_length, said_is, saying_is, stream_fits}

pub streams_same : {a b : Option Said} {x y : Option (List ℕ)} → a ≡ b → x ≡ y → ◌≡◌ {A = Stream} (record { stored = a; come = x }) (record { stored = b; come = y })
streams_same e f = rw (e, f)

-- a call that refuses nothing finds neither header refused
module _ {d : Decoder} {buffer : List ℕ} (c : Chunk) (r : Ready d buffer) (head : DecoderFits d c) (h : NotRefused (fed d buffer c).answer) where
  answer_is : (fed d buffer c).answer ≡ (run (basic_of c ++ (head_of c ++ (extended_of c ++ c.payload))) d buffer 0).answer
  answer_is =
      ap (λ (o : Outcome). o.answer) (next_runs d (chunk_bytes c) buffer r.open_still r.long ∙ ap (λ (l : List ℕ). run l d buffer 0) (parts c))

  basic_taken : basic_refused d c ≡ 0
  basic_taken = by_test (eqb (basic_refused d c) 0) refl
    where
      by_test : (t : Bool) → eqb (basic_refused d c) 0 ≡ t → basic_refused d c ≡ 0
      by_test true e = eqb-true _ _ e
      by_test false e =
          absurd (h _ _ (answer_is ∙ (refuses_basic d c buffer 0 (head_of c ++ (extended_of c ++ c.payload)) r.between_chunks head.form (eqb-false _ _ e)).answer))

  head_taken : header_refused d c ≡ 0
  head_taken = by_test (eqb (header_refused d c) 0) refl
    where
      by_test : (t : Bool) → eqb (header_refused d c) 0 ≡ t → header_refused d c ≡ 0
      by_test true e = eqb-true _ _ e
      by_test false e =
          absurd (h _ _ (answer_is ∙ (refuses_header d c (made_reaches r.by_calls) basic_taken buffer 0 c.payload r.between_chunks head (eqb-false _ _ e)).answer))

  is_named : Named d buffer c
  is_named = record { reached = made_reaches r.by_calls; long = r.long; form = head.form; passes = basic_taken }

-- a chunk that is taken
module _ {d : Decoder} {buffer : List ℕ} {c : Chunk} (r : Ready d buffer) (h : Named d buffer c) (t : Takes d c) where
  abbrev s : Stream
  s = viewed d buffer c.id

  abbrev filled : List ℕ
  filled = sets buffer (got d c) c.payload

  n : c.id ≢ 0
  n = id_some c.form c.id h.form

  lacks_is : lacks s c ≡ goes d c
  lacks_is = rw (payload_length h, saying_is d buffer c)

  -- its payload stands after what came before
  stands : take (done d c) filled ≡ payload s c
  stands =
      sets_front buffer c.payload (got d c) (omega (arith, (ends_within t).0, (ends_within t).1, h.long)) ∙ ap (λ (l : List ℕ). l ++ c.payload) (sym (earlier_is h).0)

  -- what is seen of its own stream
  come_after : (viewed (taking d c) filled c.id).come ≡ (takes s c).come
  come_after = by_rest (goes d c) refl
    where
      by_rest : (u : Bool) → goes d c ≡ u → (viewed (taking d c) filled c.id).come ≡ (takes s c).come
      by_rest true e = rw ((leaves t).message, lacks_is, e, eq-eqb c.id c.id refl, stands)
      by_rest false e = rw ((leaves t).message, lacks_is, e, ne_eqb 0 c.id (λ z. n (sym z)))

  own_after : viewed (taking d c) filled c.id ≡ takes s c
  own_after = streams_same (ap (map said_in) (leaves t).rows.mine ∙ ap some (sym (said_is h))) come_after

  -- and of every other one
  none_before : (id : ℕ) → id ≢ 0 → id ≢ c.id → eqb d.reader.message.id id ≡ false
  none_before id z m = by_message (eqb d.reader.message.id 0) refl
    where
      by_message : (u : Bool) → eqb d.reader.message.id 0 ≡ u → eqb d.reader.message.id id ≡ false
      by_message true e = ne_eqb _ id (λ q. z (sym q ∙ eqb-true _ _ e))
      by_message false e = ne_eqb _ id (λ q. m (sym q ∙ its_own t (eqb-false _ _ e)))

  none_after : (id : ℕ) → id ≢ 0 → id ≢ c.id → eqb (taking d c).reader.message.id id ≡ false
  none_after id z m = by_rest (goes d c) refl
    where
      by_rest : (u : Bool) → goes d c ≡ u → eqb (taking d c).reader.message.id id ≡ false
      by_rest true e = rw ((leaves t).message, e) (ne_eqb c.id id (λ q. m (sym q)))
      by_rest false e = rw ((leaves t).message, e) (ne_eqb 0 id (λ q. z (sym q)))

  others_after : (id : ℕ) → id ≢ 0 → id ≢ c.id → viewed (taking d c) filled id ≡ viewed d buffer id
  others_after id z m = streams_same (ap (map said_in) ((leaves t).rows.others id z m)) (rw (none_before id z m, none_after id z m))

  -- the answer
  runs_over : (o : Outcome) → run (chunk_bytes c ++ []) d buffer 0 ≡ o → fed d buffer c ≡ o
  runs_over o e = next_runs d (chunk_bytes c) buffer r.open_still r.long ∙ ap (λ (l : List ℕ). run l d buffer 0) (sym (append-nil (chunk_bytes c))) ∙ e

  wants_more : goes d c ≡ true → fed d buffer c ≡ outcome (more (length (chunk_bytes c))) (taking d c) filled
  unfolding run
  wants_more e = runs_over _ (goes_on t e buffer 0 [] ∙ rw (zero-add (length (chunk_bytes c))))

  abbrev in_answer : Said → Listed
  in_answer x = message x.type x.stream x.time x.length (length (chunk_bytes c))

  gives : goes d c ≡ false → fed d buffer c ≡ outcome (in_answer (said_in (stored d c))) (taking d c) filled
  gives e = runs_over _ (hands_out t e buffer 0 [] ∙ rw (zero-add (length (chunk_bytes c))))

  whole_length : goes d c ≡ false → length (payload s c) ≡ (saying s c).length
  whole_length e =
      let l : (header d c).message_length ≤ done d c = ltb-false (done d c) (header d c).message_length e in
      let p : done d c ≡ (header d c).message_length = omega (arith, l, (ends_within t).0) in
      payload_length h ∙ p ∙ ap (λ (x : Said). x.length) (sym (saying_is d buffer c))

  gives_said : goes d c ≡ false → (fed d buffer c).answer ≡ message (saying s c).type (saying s c).stream (time s c) (length (payload s c)) (length (chunk_bytes c))
  gives_said e =
      ap (λ (o : Outcome). o.answer) (gives e)
      ∙ ap in_answer (sym (said_is h))
      ∙ ap (λ (l : ℕ). message (saying s c).type (saying s c).stream (time s c) l (length (chunk_bytes c))) (sym (whole_length e))

  -- so the decoder and the buffer are known whatever the answer is
  pub after_it : ((fed d buffer c).deserializer ≡ taking d c) × ((fed d buffer c).payload ≡ filled)
  after_it = by_rest (goes d c) refl
    where
      by_rest : (u : Bool) → goes d c ≡ u → ((fed d buffer c).deserializer ≡ taking d c) × ((fed d buffer c).payload ≡ filled)
      by_rest true e = (ap (λ (o : Outcome). o.deserializer) (wants_more e), ap (λ (o : Outcome). o.payload) (wants_more e))
      by_rest false e = (ap (λ (o : Outcome). o.deserializer) (gives e), ap (λ (o : Outcome). o.payload) (gives e))

  answers_it : Answers (hands s c) (length (chunk_bytes c)) (fed d buffer c)
  answers_it = by_rest (goes d c) refl
    where
      by_rest : (u : Bool) → goes d c ≡ u → Answers (hands s c) (length (chunk_bytes c)) (fed d buffer c)
      by_rest true e = rw (lacks_is, e) (ap (λ (o : Outcome). o.answer) (wants_more e))
      by_rest false e =
          let z : lacks s c ≡ false = lacks_is ∙ e in
          let stands_whole : take (length (payload s c)) filled ≡ payload s c = ap (λ (i : ℕ). take i filled) (payload_length h) ∙ stands in
          rw z (gives_said e, ap (take (length (payload s c))) after_it.1 ∙ stands_whole)

  ready_after : Ready (taking d c) filled
  unfolding after
  ready_after = record {
    by_calls = rw (← after_it.0) (after_call r.by_calls (chunk_bytes c) buffer);
    open_still = (leaves t).closed ∙ r.open_still;
    between_chunks = (leaves t).between;
    long = rw (length-sets buffer (got d c) c.payload) r.long;
  }

  same_after : ((taking d c).setting.room ≡ d.setting.room) × ((taking d c).setting.size ≡ d.setting.size)
  unfolding after
  same_after = (refl, refl)

  took : Took d buffer c (fed d buffer c)
  took = record {
    mine = rw (after_it.0, after_it.1) own_after;
    others = λ id z q. rw (after_it.0, after_it.1) (others_after id z q);
    answers = answers_it;
    writes = after_it.1 ∙ ap (λ (i : ℕ). sets buffer i c.payload) (sym (earlier_length h));
    fits_room = rw (saying_is d buffer c) (ends_within t).1;
    ready = rw (after_it.0, after_it.1) ready_after;
    same_room = rw after_it.0 same_after.0;
    same_size = rw after_it.0 same_after.1;
  }

-- a chunk that fits its stream and that is refused at neither end of its header; the ids stand in the table in the order in which they came
module _ {d : Decoder} {buffer : List ℕ} (c : Chunk) (r : Ready d buffer) (fits : Fits d.setting.size (viewed d buffer c.id) c)
    (basic : basic_refused d c ≡ 0) (head : header_refused d c ≡ 0) where
  named : Named d buffer c
  named = record { reached = made_reaches r.by_calls; long = r.long; form = fits.head.form; passes = basic }

  taken : Takes d c
  taken = record { reached = made_reaches r.by_calls; between = r.between_chunks; fits = chunk_fits named fits; basic = basic; head = head }

  pub passes : Took d buffer c (fed d buffer c)
  passes = took r named taken

  pub lists_passed : (ids : List ℕ) → Lists d.rows ids → Lists (fed d buffer c).deserializer.rows (cond (among c.id ids) ids (ids ++ (c.id ∷ [])))
  lists_passed ids l = rw (after_it r named taken).0 ((leaves taken).rows.lists l)

pub own_stream : OwnStream
own_stream d buffer c r fits h = let head = head_fits d buffer c fits.head in passes c r fits (basic_taken c r head h) (head_taken c r head h)

-- a chunk that fits the decoder and is not refused fits its stream
pub fits_stream : (d : Decoder) (buffer : List ℕ) (c : Chunk) → Ready d buffer → ChunkFits d c → NotRefused (fed d buffer c).answer
    → Fits d.setting.size (viewed d buffer c.id) c
fits_stream d buffer c r fits h = stream_fits (is_named c r fits.head h) fits

pub lists_after : (d : Decoder) (buffer : List ℕ) (c : Chunk) (r : Ready d buffer) → Fits d.setting.size (viewed d buffer c.id) c
    → NotRefused (fed d buffer c).answer
    → {ids : List ℕ}
    → Lists d.rows ids
    → Lists (fed d buffer c).deserializer.rows (cond (among c.id ids) ids (ids ++ (c.id ∷ [])))
lists_after d buffer c r fits h {ids} l = let head = head_fits d buffer c fits.head in lists_passed c r fits (basic_taken c r head h) (head_taken c r head h) ids l
