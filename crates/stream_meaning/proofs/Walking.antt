-- Bytes that come to a decoder between chunks are whole chunks, each of which its stream takes, and then a part of one; a call stops where a message ends.
use Rattle.std.proofs.Common.{◌≡◌, ℕ, zero, suc, ◌+◌, ◌<◌, ◌≤◌, ◌≢◌, List, [], ◌∷◌, ◌++◌, length, take, sym, refl, ap, ◌∙◌, subst, append_assoc, append-nil, arith, length-append}
use mathlib.Core.Option.{Option, none, some}
use lib.Seq.{drop-append_seam, take-append-add, take-append_seam}
use Rattle.fields.specs.Endian.{Bytes}
use Rattle.fields.proofs.Lists.{bytes_drop}
use Rattle.chunk_header.specs.Layout.{Chunk, chunk_bytes}
use Rattle.decoding.specs.Decoder.{Decoder}
use Rattle.decoding.specs.Answer.{Listed, message, more, refused, used}
use Rattle.decoding.specs.Call.{Outcome, next, outcome, run}
use Rattle.decoding.specs.Chunk.{ChunkFits}
use Rattle.decoding.proofs.Covers.{Begins, Found, covers, part, whole}
use Rattle.decoding.proofs.Cut.{feed_answered, feed_append, message_not_more, refused_not_more, shift}
use Rattle.decoding.proofs.Progress.{more_uses_all, run_uses}
use Rattle.decoding.proofs.Runs.{next_runs}
use Rattle.decoding.proofs.Taken.{chunk_some}
use Rattle.chunk_header.specs.Limits.{initial_size}
use Rattle.stream_meaning.specs.Connection.{quiet}
use Rattle.stream_meaning.specs.Feeding.{BegunFrom, Sign, signs}
use Rattle.stream_meaning.specs.Stream.{Fits, Message, hands}
use Rattle.stream_meaning.specs.Taking.{Answers, NotRefused, fed, handed_by}
use Rattle.stream_meaning.specs.View.{viewed}
use Rattle.stream_meaning.proofs.Beginning.{begun_nothing, begun_of}
use Rattle.stream_meaning.proofs.Connecting.{signs_append}
use Rattle.stream_meaning.proofs.Taking.{fits_stream}
use Rattle.stream_meaning.proofs.Whole.{Whole, its_took, whole_then}

-- a decoder to which a part of a chunk has come after items
pub record Amid (came : List Sign) (messages : List Message) (d : Decoder) (buffer : List ℕ) : Type 0 where
  pub before : List Sign
  pub decoder : Decoder
  pub held : List ℕ
  pub at_start_lem : Whole before messages decoder held
  pub part_of : List ℕ
  pub bytes : Bytes part_of
  pub reads : next decoder part_of held ≡ outcome (more (length part_of)) d buffer
  pub came_is : came ≡ before ++ signs part_of
  pub begun : BegunFrom initial_size quiet at_start_lem.items part_of

pub amid_start : {came : List Sign} {messages : List Message} {d : Decoder} {buffer : List ℕ} → Whole came messages d buffer → Amid came messages d buffer
unfolding run
amid_start {came} {messages} {d} {buffer} w = record {
  before = came;
  decoder = d;
  held = buffer;
  at_start_lem = w;
  part_of = [];
  bytes = λ i. omega arith;
  reads = next_runs d [] buffer w.ready.open_still w.ready.long;
  came_is = sym (append-nil came);
  begun = begun_nothing w;
}

-- what a call over bytes leads to
abbrev pub Leads : List Sign → List Message → List ℕ → Outcome → Type 0
Leads came messages full o = Amid (came ++ signs (take (used o.answer) full)) (messages ++ handed_by o.answer o.payload) o.deserializer o.payload

-- a chunk uses its bytes
answers_used : (h : Option Message) (n : ℕ) (o : Outcome) → Answers h n o → used o.answer ≡ n
answers_used none n o e = rw e
answers_used (some m) n o e = rw e.0

-- a count from m on
pub used_shift : (m : ℕ) (o : Outcome) → used (shift m o).answer ≡ m + used o.answer
used_shift m o = by_answer o.answer refl
  where
    by_answer : (l : Listed) → o.answer ≡ l → used (shift m o).answer ≡ m + used o.answer
    by_answer (message type stream time long used) e = rw e
    by_answer (more used) e = rw e
    by_answer (refused number used) e = rw e

pub handed_shift : (m : ℕ) (o : Outcome) → handed_by (shift m o).answer o.payload ≡ handed_by o.answer o.payload
handed_shift m o = by_answer o.answer refl
  where
    by_answer : (l : Listed) → o.answer ≡ l → handed_by (shift m o).answer o.payload ≡ handed_by o.answer o.payload
    by_answer (message type stream time long used) e = rw e
    by_answer (more used) e = rw e
    by_answer (refused number used) e = rw e

not_refused_shift : (m : ℕ) (o : Outcome) → NotRefused (shift m o).answer → NotRefused o.answer
not_refused_shift m o h number n e = h number (m + n) (rw e)

-- a call that leads somewhere, after bytes that wanted more
pub leads_after : (came : List Sign) (messages : List Message) (a b : List ℕ) (o : Outcome) → Leads (came ++ signs a) messages b o
    → Leads came messages (a ++ b) (shift (length a) o)
leads_after came messages a b o l =
    let s : signs (take (length a + used o.answer) (a ++ b)) ≡ signs a ++ signs (take (used o.answer) b) =
    ap signs (take-append-add a b (used o.answer)) ∙ signs_append a (take (used o.answer) b)
    in
    rw (used_shift (length a) o, handed_shift (length a) o, s, ← append_assoc came (signs a) (signs (take (used o.answer) b))) l

-- a chunk that wants more, and one that ends a message, whatever the calls are
leads_more : (came : List Sign) (messages : List Message) (a b : List ℕ) (one_chunk o later : Outcome) → one_chunk.answer ≡ more (length a) → o ≡ shift (length a) later
    → Leads (came ++ signs a) (messages ++ handed_by one_chunk.answer one_chunk.payload) b later
    → Leads came messages (a ++ b) o
leads_more came messages a b one_chunk o later e f l = rw f (leads_after came messages a b later (rw (e, append-nil messages) at l))

leads_message : (came : List Sign) (messages : List Message) (a b : List ℕ) (one_chunk o : Outcome) → used one_chunk.answer ≡ length a → o ≡ one_chunk
    → Amid (came ++ signs a) (messages ++ handed_by one_chunk.answer one_chunk.payload) one_chunk.deserializer one_chunk.payload
    → Leads came messages (a ++ b) o
leads_message came messages a b one_chunk o e f l = rw (f, e, take-append_seam a b) l

bytes_after : (xs ys : List ℕ) → Bytes (xs ++ ys) → Bytes ys
bytes_after xs ys h = rw (drop-append_seam xs ys) at (bytes_drop (length xs) (xs ++ ys) h)

module _ {came : List Sign} {messages : List Message} {d : Decoder} {buffer : List ℕ} (w : Whole came messages d buffer) where
  -- a part of a chunk: more is wanted, as a message ends no earlier than its last chunk
  not_early : (c : Chunk) (full : List ℕ) (b : ℕ) (tail : List ℕ) → ChunkFits d c → chunk_bytes c ≡ full ++ (b ∷ tail) → NotRefused (next d full buffer).answer
      → ((m : ℕ) → (next d full buffer).answer ≢ more m) → ⊥
  not_early c full b tail fits is quiet_call other =
      let same : fed d buffer c ≡ next d full buffer = (rw is) ∙ feed_answered d full (b ∷ tail) buffer other in
      let q : NotRefused (fed d buffer c).answer = rw same quiet_call in
      let t = its_took w c (fits_stream d buffer c w.ready fits q) q in
      let u : used (next d full buffer).answer ≡ length (chunk_bytes c) = rw same at (answers_used (hands (viewed d buffer c.id) c) _ (fed d buffer c) t.answers) in
      let most : used (next d full buffer).answer ≤ 0 + length full = rw (next_runs d full buffer w.ready.open_still w.ready.long) (run_uses full d buffer 0).most in
      let l : length (chunk_bytes c) ≡ length full + suc (length tail) = ap length is ∙ length-append full (b ∷ tail) in
      omega (arith, u, most, l)

  leads_part : (c : Chunk) (full : List ℕ) (b : ℕ) (tail : List ℕ) → Bytes full → ChunkFits d c → chunk_bytes c ≡ full ++ (b ∷ tail) → NotRefused (next d full buffer).answer
      → Leads came messages full (next d full buffer)
  leads_part c full b tail bytes fits is quiet_call = by_answer (next d full buffer).answer refl
    where
      by_answer : (l : Listed) → (next d full buffer).answer ≡ l → Leads came messages full (next d full buffer)
      by_answer (more m) e =
          let all : m ≡ length full = more_uses_all d full buffer m e in
          let e' : (next d full buffer).answer ≡ more (length full) = e ∙ ap more all in
          let t : take (length full) full ≡ full = ap (take (length full)) (sym (append-nil full)) ∙ take-append_seam full [] in
          rw (e', t, append-nil messages)
          (record {
            before = came;
            decoder = d;
            held = buffer;
            at_start_lem = w;
            part_of = full;
            bytes = bytes;
            reads = ap (λ (a : Listed). outcome a (next d full buffer).deserializer (next d full buffer).payload) e';
            came_is = refl;
            begun = begun_of w full m e c b tail fits is;
          })
      by_answer (message type stream time long n) e = absurd (not_early c full b tail fits is quiet_call (λ m z. message_not_more (sym e ∙ z)))
      by_answer (refused number n) e = absurd (quiet_call number n e)

  -- a whole chunk, and what follows it
  module _ (c : Chunk) (rest : List ℕ) (fits : ChunkFits d c) (quiet_call : NotRefused (next d (chunk_bytes c ++ rest) buffer).answer) where
    not_refused : NotRefused (fed d buffer c).answer
    not_refused number n e =
        quiet_call number n (ap (λ (o : Outcome). o.answer) (feed_answered d (chunk_bytes c) rest buffer (λ m z. refused_not_more (sym e ∙ z))) ∙ e)

    fits_it : Fits d.setting.size (viewed d buffer c.id) c
    fits_it = fits_stream d buffer c w.ready fits not_refused

    pub next_whole : Whole (came ++ signs (chunk_bytes c)) (messages ++ handed_by (fed d buffer c).answer (fed d buffer c).payload) (fed d buffer c).deserializer (fed d buffer c).payload
    next_whole = whole_then w c fits_it not_refused

    uses_it : used (fed d buffer c).answer ≡ length (chunk_bytes c)
    uses_it = answers_used (hands (viewed d buffer c.id) c) _ (fed d buffer c) (its_took w c fits_it not_refused).answers

    abbrev afterwards : Outcome
    afterwards = next (fed d buffer c).deserializer rest (fed d buffer c).payload

    goes_more : (m : ℕ) → (fed d buffer c).answer ≡ more m → (fed d buffer c).answer ≡ more (length (chunk_bytes c))
    goes_more m e = e ∙ ap more (more_uses_all d (chunk_bytes c) buffer m e)

    appended : (m : ℕ) → (fed d buffer c).answer ≡ more m → next d (chunk_bytes c ++ rest) buffer ≡ shift (length (chunk_bytes c)) afterwards
    appended m e = feed_append d (chunk_bytes c) rest buffer (length (chunk_bytes c)) (goes_more m e)

    later_quiet : (m : ℕ) → (fed d buffer c).answer ≡ more m → NotRefused afterwards.answer
    later_quiet m e =
        not_refused_shift (length (chunk_bytes c)) afterwards (subst (λ (o : Outcome). NotRefused o.answer) (appended m e) quiet_call)

    leads_whole : (NotRefused afterwards.answer
        → Leads (came ++ signs (chunk_bytes c)) (messages ++ handed_by (fed d buffer c).answer (fed d buffer c).payload) rest afterwards)
        → (l : Listed) → (fed d buffer c).answer ≡ l
        → Leads came messages (chunk_bytes c ++ rest) (next d (chunk_bytes c ++ rest) buffer)
    leads_whole later (more m) e =
        leads_more came messages (chunk_bytes c) rest (fed d buffer c) (next d (chunk_bytes c ++ rest) buffer) afterwards (goes_more m e) (appended m e)
        (later (later_quiet m e))
    leads_whole later (message type stream time long n) e =
        leads_message came messages (chunk_bytes c) rest (fed d buffer c) (next d (chunk_bytes c ++ rest) buffer) uses_it
        (feed_answered d (chunk_bytes c) rest buffer (λ m z. message_not_more (sym e ∙ z)))
        (amid_start next_whole)
    leads_whole later (refused number n) e = absurd (not_refused number n e)

-- so any bytes lead somewhere, as each chunk has a byte
walk_within : (most : ℕ) (full : List ℕ) → length full < most → (came : List Sign) (messages : List Message) (d : Decoder) (buffer : List ℕ)
    → Whole came messages d buffer
    → Bytes full
    → NotRefused (next d full buffer).answer
    → Leads came messages full (next d full buffer)
walk_within zero full short came messages d buffer w bytes quiet_call = absurd (omega arith)
walk_within (suc most) full short came messages d buffer w bytes quiet_call =
    by_begins (covers d full bytes).begins
    (λ c rest is fits q.
    let l : length full ≡ length (chunk_bytes c) + length rest = ap length is ∙ length-append (chunk_bytes c) rest in
    walk_within most rest (omega (arith, l, short, chunk_some c)) (came ++ signs (chunk_bytes c)) (messages ++ handed_by (fed d buffer c).answer (fed d buffer c).payload) (fed d buffer c).deserializer (fed d buffer c).payload (next_whole w c rest fits (rw is at quiet_call)) (bytes_after (chunk_bytes c) rest (rw is at bytes)) q)
  where
    found : Found d full
    found = covers d full bytes

    by_begins : Begins (chunk_bytes found.chunk) full
        → ((c : Chunk) (rest : List ℕ) → full ≡ chunk_bytes c ++ rest → ChunkFits d c → NotRefused (next (fed d buffer c).deserializer rest (fed d buffer c).payload).answer
        → Leads (came ++ signs (chunk_bytes c)) (messages ++ handed_by (fed d buffer c).answer (fed d buffer c).payload) rest (next (fed d buffer c).deserializer rest (fed d buffer c).payload))
        → Leads came messages full (next d full buffer)
    by_begins (part b tail is) later = leads_part w found.chunk full b tail bytes found.fits is quiet_call
    by_begins (whole rest is) later = rw is (leads_whole w found.chunk rest found.fits (rw is at quiet_call) (later found.chunk rest is found.fits) (fed d buffer found.chunk).answer refl)

pub walk : (full : List ℕ) (came : List Sign) (messages : List Message) (d : Decoder) (buffer : List ℕ) → Whole came messages d buffer → Bytes full
    → NotRefused (next d full buffer).answer
    → Leads came messages full (next d full buffer)
walk full = walk_within (suc (length full)) full (omega arith)
