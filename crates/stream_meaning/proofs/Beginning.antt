-- Bytes after which more is wanted begin a chunk that fits its stream: where its basic header is to be refused, that is not whole yet.
use Rattle.std.proofs.Common.{◌≡◌, ℕ, ◌+◌, ◌-◌, min, Bool, true, false, eqb, ◌≢◌, List, [], ◌∷◌, ◌++◌, length, replicate, sym, refl, ap, ◌∙◌, append_assoc, arith, length-append, eqb-true}
use lib.ListN.{length-replicate}
use borrow.Author.Tests.{eqb-false}
use Rattle.chunk_header.specs.Layout.{Chunk, chunk_bytes}
use Rattle.decoding.specs.Decoder.{Decoder}
use Rattle.decoding.specs.Answer.{more}
use Rattle.decoding.specs.Call.{Outcome, next, run}
use Rattle.decoding.specs.Chunk.{ChunkFits, HeadFits as DecoderFits, basic_refused}
use Rattle.decoding.proofs.Accepts.{refuses_basic}
use Rattle.decoding.proofs.Covers.{Begins, Found, compared, covers, part, whole}
use Rattle.decoding.proofs.Cut.{refused_not_more}
use Rattle.decoding.proofs.Reached.{made_reaches}
use Rattle.decoding.proofs.ReadsBack.{basic_of, extended_of, head_of}
use Rattle.decoding.proofs.Runs.{next_runs}
use Rattle.decoding.proofs.Taken.{chunk_some, id_some, parts}
use Rattle.chunk_header.specs.Limits.{initial_size}
use Rattle.stream_meaning.specs.Connection.{quiet}
use Rattle.stream_meaning.specs.Feeding.{BegunFrom, Sign}
use Rattle.stream_meaning.specs.Stream.{Fits, Message, earlier, saying}
use Rattle.stream_meaning.specs.View.{viewed}
use Rattle.stream_meaning.proofs.Seeing.{head_seen, stream_fits}
use Rattle.stream_meaning.proofs.Whole.{Whole}

module _ {came : List Sign} {messages : List Message} {d : Decoder} {buffer : List ℕ} (w : Whole came messages d buffer) (full : List ℕ) where
  abbrev filled : Chunk → Chunk
  filled c = record {
    form = c.form;
    id = c.id;
    header = c.header;
    extended = c.extended;
    payload = replicate (min d.setting.size ((saying (viewed d buffer c.id) c).length - length (earlier (viewed d buffer c.id) c))) 0;
  }

  begun_by : (c : Chunk) (b : ℕ) (tail : List ℕ) → Fits d.setting.size (viewed d buffer c.id) c → chunk_bytes c ≡ full ++ (b ∷ tail) → BegunFrom initial_size quiet w.items full
  begun_by c b tail fits is = record {
    next_chunk = c;
    fits = rw (w.in_force, w.sees c.id (id_some c.form c.id fits.head.form)) at fits;
    missing = b;
    missing_too = tail;
    is = is;
  }

  begun_early : (c : Chunk) (b : ℕ) (tail : List ℕ) → DecoderFits d c → basic_of c ≡ full ++ (b ∷ tail) → BegunFrom initial_size quiet w.items full
  begun_early c b tail head is =
      begun_by (filled c) b (tail ++ (head_of (filled c) ++ (extended_of (filled c) ++ (filled c).payload)))
      (record { head = record { form = head.form; fields = head.fields; extended = (head_seen d buffer c head).extended }; payload_of = length-replicate _ 0 })
      (parts (filled c) ∙ ap (λ (l : List ℕ). l ++ (head_of (filled c) ++ (extended_of (filled c) ++ (filled c).payload))) is ∙ append_assoc full (b ∷ tail) _)

  pub begun_of : (m : ℕ) → (next d full buffer).answer ≡ more m → (c : Chunk) (b : ℕ) (tail : List ℕ) → ChunkFits d c → chunk_bytes c ≡ full ++ (b ∷ tail) → BegunFrom initial_size quiet w.items full
  begun_of m e c b tail fits is = by_test (eqb (basic_refused d c) 0) refl
    where
      refusal : basic_refused d c ≢ 0 → (rest : List ℕ) → full ≡ basic_of c ++ rest → ⊥
      refusal n rest q =
          let r = (refuses_basic d c buffer 0 rest w.ready.between_chunks fits.head.form n).answer in
          let runs : (next d full buffer).answer ≡ (run (basic_of c ++ rest) d buffer 0).answer =
          ap (λ (o : Outcome). o.answer) (next_runs d full buffer w.ready.open_still w.ready.long ∙ ap (λ (l : List ℕ). run l d buffer 0) q)
          in
          refused_not_more (sym r ∙ sym runs ∙ e)

      by_begins : basic_refused d c ≢ 0 → Begins (basic_of c) full → BegunFrom initial_size quiet w.items full
      by_begins n (whole rest q) = absurd (refusal n rest q)
      by_begins n (part b' tail' q) = begun_early c b' tail' fits.head q

      by_test : (t : Bool) → eqb (basic_refused d c) 0 ≡ t → BegunFrom initial_size quiet w.items full
      by_test true z = begun_by c b tail (stream_fits (record { reached = made_reaches w.ready.by_calls; long = w.ready.long; form = fits.head.form; passes = eqb-true _ _ z }) fits) is
      by_test false z = by_begins (eqb-false _ _ z) (compared (basic_of c) full _ (b ∷ tail) (sym (parts c) ∙ is))

pub begun_nothing : {came : List Sign} {messages : List Message} {d : Decoder} {buffer : List ℕ} (w : Whole came messages d buffer) → BegunFrom initial_size quiet w.items []
unfolding run
begun_nothing {d = d} {buffer = buffer} w = by_begins found.begins
  where
    found : Found d []
    found = covers d [] (λ i. omega arith)

    by_begins : Begins (chunk_bytes found.chunk) [] → BegunFrom initial_size quiet w.items []
    by_begins (part b tail q) =
        begun_of w [] 0 (ap (λ (o : Outcome). o.answer) (next_runs d [] buffer w.ready.open_still w.ready.long)) found.chunk b tail found.fits q
    by_begins (whole rest q) =
        let l : 0 ≡ length (chunk_bytes found.chunk) + length rest = ap length q ∙ length-append (chunk_bytes found.chunk) rest in
        absurd (omega (arith, l, chunk_some found.chunk))
