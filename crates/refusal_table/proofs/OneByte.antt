-- One byte more after chunks that came whole and a part of one: it is refused exactly where it settles a chunk, as those bytes begin one chunk and no other.
use Rattle.std.proofs.Common.{◌≡◌, ℕ, zero, suc, ◌+◌, ◌-◌, ◌<◌, min, ◌≢◌, ◌⊎◌, List, [], ◌∷◌, ◌++◌, length, get_or, take, replicate, sym, refl, ap, ◌∙◌, subst, inl, inr, ⊎_elim, append_assoc, append-nil, arith, length-append, take_at}
use lib.ListN.{length-replicate}
use lib.Seq.{take-append_seam}
use Rattle.fields.specs.Endian.{Bytes}
use Rattle.chunk_header.specs.Layout.{Chunk, chunk_bytes, format}
use Rattle.chunk_header.specs.Limits.{initial_size}
use Rattle.decoding.specs.Decoder.{Decoder}
use Rattle.decoding.specs.Answer.{Listed, message, more, refused}
use Rattle.decoding.specs.Call.{Outcome, next, outcome, run}
use Rattle.decoding.proofs.Covers.{Begins, Found, covers, part, whole}
use Rattle.decoding.proofs.Cut.{feed_append, refused_not_more, run_append, shift}
use Rattle.decoding.proofs.Reached.{made_reaches}
use Rattle.decoding.proofs.ReadsBack.{extended_of, head_of}
use Rattle.decoding.proofs.Runs.{next_runs}
use Rattle.decoding.proofs.Standing.{refused_not_message}
use Rattle.decoding.proofs.Taken.{Takes, basic_some, id_some, parts}
use Rattle.stream_meaning.specs.Connection.{Item, quiet, size_from, streams}
use Rattle.stream_meaning.specs.Feeding.{BegunFrom, Sign, byte}
use Rattle.stream_meaning.specs.Stream.{Fits, HeadFits, Message, Stream, earlier, saying}
use Rattle.stream_meaning.specs.View.{viewed}
use Rattle.stream_meaning.proofs.Seeing.{head_fits, head_seen, stream_fits}
use Rattle.stream_meaning.proofs.UniqueLayout.{one_chunk}
use Rattle.stream_meaning.proofs.Walking.{Amid}
use Rattle.stream_meaning.proofs.Whole.{Whole}
use Rattle.refusal_table.specs.Conditions.{basic, head}
use Rattle.refusal_table.proofs.Fates.{Fate, fate, head_first, is_refused, is_taken, not_refused, refused_at}
use Rattle.refusal_table.proofs.Settling.{At, Between}

-- a refusal whose bytes are counted from elsewhere
pub counted : (o : Outcome) (a k n : ℕ) → (shift a o).answer ≡ refused k (a + n) → o.answer ≡ refused k n
counted o a k n = by_answer o.answer refl
  where
    by_answer : (l : Listed) → o.answer ≡ l → (shift a (outcome l o.deserializer o.payload)).answer ≡ refused k (a + n) → o.answer ≡ refused k n
    by_answer (message type stream time long used) e h = refused_not_message (sym h)
    by_answer (more used) e h = refused_not_more (sym h)
    by_answer (refused j used) e h =
        let i : j ≡ k = cc in
        let l : a + used ≡ a + n = cc in
        let u : used ≡ n = omega arith in
        rw (e, i, u)

-- the last element of a list
pub last_same : {A : Type 0} (xs ys : List A) (x y : A) → xs ++ (x ∷ []) ≡ ys ++ (y ∷ []) → (xs ≡ ys) × (x ≡ y)
last_same [] [] x y h = (refl, cc)
last_same [] (b ∷ []) x y h = absurd (let z : ◌≡◌ {A = ℕ} 0 1 = cc in omega arith)
last_same [] (b ∷ c ∷ ys) x y h = absurd (let z : ◌≡◌ {A = ℕ} 0 1 = cc in omega arith)
last_same (a ∷ []) [] x y h = absurd (let z : ◌≡◌ {A = ℕ} 0 1 = cc in omega arith)
last_same (a ∷ c ∷ xs) [] x y h = absurd (let z : ◌≡◌ {A = ℕ} 0 1 = cc in omega arith)
last_same (a ∷ xs) (b ∷ ys) x y h = let t = last_same xs ys x y (cc) in let e : a ≡ b = cc in (rw (e, t.0), t.1)

pub some_last : (l : List ℕ) → 0 < length l → (q : List ℕ) × ((y : ℕ) × (l ≡ q ++ (y ∷ [])))
some_last [] h = absurd (omega arith)
some_last (x ∷ []) h = ([], (x, refl))
some_last (x ∷ y ∷ l) h = let t = some_last (y ∷ l) (omega arith) in (x ∷ t.0, (t.1.0, ap (λ (m : List ℕ). x ∷ m) t.1.1))

-- a decoder to which a part of a chunk has come, and one byte more
module _ {came : List Sign} {messages : List Message} {d : Decoder} {buffer : List ℕ} (a : Amid came messages d buffer) (x : ℕ) where
  abbrev w : Whole a.before messages a.decoder a.held
  w = a.at_start_lem

  abbrev pub full : List ℕ
  full = a.part_of ++ (x ∷ [])

  abbrev pub between : Between
  between = record { decoder = a.decoder; buffer = a.held; came = a.before; messages = messages; whole = a.at_start_lem }

  -- the byte ends a run from where the chunk began
  pub in_one_run : (run full a.decoder a.held 0).answer ≡ (shift (length a.part_of) (next d (x ∷ []) buffer)).answer
  in_one_run =
      let r = w.ready in
      let e : (next a.decoder a.part_of a.held).answer ≡ more (length a.part_of) = ap (λ (o : Outcome). o.answer) a.reads in
      ap (λ (o : Outcome). o.answer)
      (sym (next_runs a.decoder full a.held r.open_still r.long)
      ∙ feed_append a.decoder a.part_of (x ∷ []) a.held (length a.part_of) e
      ∙ ap (λ (o : Outcome). shift (length a.part_of) (next o.deserializer (x ∷ []) o.payload)) a.reads)

  -- the part is no whole chunk that fits, whatever follows
  not_whole : (c : Chunk) (t : List ℕ) → Takes a.decoder c → a.part_of ≡ chunk_bytes c ++ t → ⊥
  not_whole c t taken is =
      let b = a.begun in
      let form = taken.fits.head.form in
      let seen : Fits a.decoder.setting.size (viewed a.decoder a.held c.id) c = stream_fits (record { reached = taken.reached; long = w.ready.long; form = form; passes = taken.basic }) taken.fits in
      let fits : Fits (size_from initial_size w.items) (streams w.items c.id) c = rw (w.in_force, w.sees c.id (id_some c.form c.id form)) at seen in
      let both : chunk_bytes c ++ (t ++ (b.missing ∷ b.missing_too)) ≡ chunk_bytes b.next_chunk ++ [] =
      sym (append_assoc (chunk_bytes c) t (b.missing ∷ b.missing_too)) ∙ ap (λ (l : List ℕ). l ++ (b.missing ∷ b.missing_too)) (sym is) ∙ sym b.is
      ∙ sym (append-nil (chunk_bytes b.next_chunk))
      in
      let e = (one_chunk (size_from initial_size w.items) (streams w.items) c b.next_chunk (t ++ (b.missing ∷ b.missing_too)) [] fits b.fits both).1 in
      omega (arith, ap length e, length-append t (b.missing ∷ b.missing_too))

  -- the byte is refused
  module _ (k : ℕ) (h : (next d (x ∷ []) buffer).answer ≡ refused k 1) (are_bytes : Bytes full) where
    refused_here : (run full a.decoder a.held 0).answer ≡ refused k (length a.part_of + 1)
    refused_here = in_one_run ∙ (rw h)

    stands_on : (z : List ℕ) → (run (full ++ z) a.decoder a.held 0).answer ≡ refused k (length a.part_of + 1)
    stands_on z = ap (λ (o : Outcome). o.answer) (run_append full z a.decoder a.held 0) ∙ (rw refused_here)

    -- by a chunk, at the end of a part of it
    pub record Refusal : Type 0 where
      pub chunk : Chunk
      pub fits : HeadFits (streams w.items chunk.id) chunk
      pub at : At a.decoder chunk k full
      pub some : k ≢ 0

    abbrev found : Found a.decoder full
    found = covers a.decoder full are_bytes

    abbrev its : Chunk
    its = found.chunk

    refusal_at : (j : ℕ) (p r z : List ℕ) → j ≢ 0 → At a.decoder its j p → full ++ z ≡ p ++ r → Refusal
    refusal_at j p r z nz at is =
        let fits = found.fits.head in
        let e : refused k (length a.part_of + 1) ≡ refused j (0 + length p) =
        sym (stands_on z) ∙ ap (λ (l : List ℕ). (run l a.decoder a.held 0).answer) is
        ∙ refused_at (made_reaches w.ready.by_calls) w.ready.between_chunks fits nz at a.held 0 r
        in
        let ek : j ≡ k = cc in
        let el : length a.part_of + 1 ≡ 0 + length p = cc in
        let long : length full ≡ length p = length-append a.part_of (x ∷ []) ∙ omega (arith, el) in
        let same : p ≡ full = sym (take-append_seam p r) ∙ ap (take (length p)) (sym is) ∙ take_at full z (length p) long in
        let sees = w.sees its.id (id_some its.form its.id fits.form) in
        record {
          chunk = its;
          fits = subst (λ (s : Stream). HeadFits s its) sees (head_seen a.decoder a.held its fits);
          at = rw (ek, same) at at;
          some = λ z. nz (ek ∙ z);
        }

    -- a chunk that is taken is not refused, and comes to no earlier end
    taken_not : Takes a.decoder its → Begins (chunk_bytes its) full → ⊥
    taken_not t (part b tail is) = not_refused t a.held 0 k _ (ap (λ (l : List ℕ). (run l a.decoder a.held 0).answer) (append-nil (chunk_bytes its) ∙ is) ∙ stands_on (b ∷ tail))
    taken_not t (whole rest is) = by_rest rest is
      where
        by_rest : (rest : List ℕ) → full ≡ chunk_bytes its ++ rest → ⊥
        by_rest [] is = not_refused t a.held 0 k _ (ap (λ (l : List ℕ). (run l a.decoder a.held 0).answer) (sym is) ∙ refused_here)
        by_rest (y ∷ rest) is =
            let l = some_last (y ∷ rest) (omega arith) in
            let e = is ∙ ap (λ (m : List ℕ). chunk_bytes its ++ m) l.1.1 ∙ sym (append_assoc (chunk_bytes its) l.0 (l.1.0 ∷ [])) in
            not_whole its l.0 t (last_same a.part_of (chunk_bytes its ++ l.0) x l.1.0 e).0

    pub refusal : Refusal
    refusal = by_fate (fate a.decoder its (made_reaches w.ready.by_calls) w.ready.between_chunks found.fits) found.begins
      where
        by_fate : Fate a.decoder its → Begins (chunk_bytes its) full → Refusal
        by_fate (is_refused j p r nz at q) (part b tail is) = refusal_at j p r (b ∷ tail) nz at (sym is ∙ q)
        by_fate (is_refused j p r nz at q) (whole rest is) =
            refusal_at j p (r ++ rest) [] nz at (append-nil full ∙ is ∙ ap (λ (l : List ℕ). l ++ rest) q ∙ append_assoc p r rest)
        by_fate (is_taken t) b = absurd (taken_not t b)

  -- a chunk that is refused at this byte
  pub gives_here : (k : ℕ) (c : Chunk) → k ≢ 0 → HeadFits (streams w.items c.id) c → At a.decoder c k full → (next d (x ∷ []) buffer).answer ≡ refused k 1
  gives_here k c nz fits at =
      let sees = w.sees c.id (id_some c.form c.id fits.form) in
      let head = head_fits a.decoder a.held c (subst (λ (s : Stream). HeadFits s c) (sym sees) fits) in
      let r = refused_at (made_reaches w.ready.by_calls) w.ready.between_chunks head nz at a.held 0 [] in
      let l : 0 + length full ≡ length a.part_of + 1 = rw (length-append a.part_of (x ∷ [])) (omega arith) in
      counted (next d (x ∷ []) buffer) (length a.part_of) k 1
      (sym in_one_run ∙ ap (λ (l : List ℕ). (run l a.decoder a.held 0).answer) (sym (append-nil full)) ∙ r ∙ ap (refused k) l)

-- one byte of an input
pub one_byte : (input : List ℕ) (m : ℕ) → Bytes input → Bytes (get_or input m 0 ∷ [])
one_byte input m h zero = h m
one_byte input m h (suc i) = omega arith

pub byte_same : {x y : ℕ} → byte x ≡ byte y → x ≡ y
byte_same h = cc

-- a part that may settle a chunk is some bytes, and begins one that fits
pub part_some : (p : List ℕ) (c : Chunk) → (p ≡ basic c) ⊎ (p ≡ head c) → 0 < length p
part_some p c (inl e) = rw e (basic_some c.form (format c.header) c.id)
part_some p c (inr e) = rw (e, length-append) (omega (arith, basic_some c.form (format c.header) c.id))

abbrev filled : (size : ℕ) → Stream → Chunk → Chunk
filled size s c = record { form = c.form; id = c.id; header = c.header; extended = c.extended; payload = replicate (min size ((saying s c).length - length (earlier s c))) 0 }

pub begun_part : (items : List Item) (c : Chunk) (p : List ℕ) → (p ≡ basic c) ⊎ (p ≡ head c) → (q : List ℕ) (y : ℕ) → p ≡ q ++ (y ∷ []) → HeadFits (streams items c.id) c
    → BegunFrom initial_size quiet items q
begun_part items c p part_is q y e can =
    let size = size_from initial_size items in
    let c' = filled size (streams items c.id) c in
    let after_basic = head_of c' ++ (extended_of c' ++ c'.payload) in
    let t : (r : List ℕ) × (chunk_bytes c' ≡ p ++ r) =
    ⊎_elim (λ z. (after_basic, parts c' ∙ ap (λ (l : List ℕ). l ++ after_basic) (sym z))) (λ z. (c'.payload, head_first c' ∙ ap (λ (l : List ℕ). l ++ c'.payload) (sym z))) part_is
    in
    record {
      next_chunk = c';
      fits = record { head = record { form = can.form; fields = can.fields; extended = can.extended }; payload_of = length-replicate {A = ℕ} _ 0 };
      missing = y;
      missing_too = t.0;
      is = t.1 ∙ ap (λ (l : List ℕ). l ++ t.0) e ∙ append_assoc q (y ∷ []) t.0;
    }
