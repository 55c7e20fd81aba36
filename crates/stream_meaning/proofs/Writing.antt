-- A call stores its payload bytes in one run: a header byte leaves the place of the next one as it is, and a payload byte moves it one on.
use Rattle.std.proofs.Common.{◌≡◌, ℕ, suc, ◌+◌, ◌-◌, ◌≤◌, Bool, true, false, cond, eqb, ltb, ◌≢◌, List, [], ◌∷◌, ◌++◌, length, set, sym, refl, ap, ◌∙◌, append_assoc, arith, ne_eqb}
use lib.Seq.{sets}
use borrow.Author.Tests.{eqb-false}
use Rattle.byte_machine.specs.Reader.{Event, Go, Chunk, Message, Refuse, Reader, Stepped, come_of, in_payload}
use Rattle.byte_machine.specs.Header.{opens}
use Rattle.byte_machine.specs.Payload.{landed}
use Rattle.byte_machine.proofs.Everywhere.{Amid, header_step}
use Rattle.byte_machine.proofs.Passing.{either}
use Rattle.decoding.specs.Decoder.{Decoder}
use Rattle.decoding.specs.Answer.{more}
use Rattle.decoding.specs.Call.{Outcome, after, end, is_refusal, run, step_of, writes}
use Rattle.stream_meaning.specs.Writing.{OfParts, WritesExactly, due, payload_in, place_in, unless_answered}
use Rattle.decoding.proofs.Cut.{has_run, message_not_more, refused_not_more}
use Rattle.decoding.proofs.Fitting.{paying_pays}
use Rattle.decoding.proofs.Reached.{Reached, made_reaches, step_reached}
use Rattle.decoding.proofs.Runs.{next_runs}
use Rattle.decoding.proofs.Sound.{in_payload_past}
use Rattle.byte_machine.specs.Look.{look}

-- where a byte leaves the reader, unless it is answered
abbrev Stays : ℕ → Event → Reader → Type 0
Stays p Go r = place_in r ≡ p
Stays p Chunk r = place_in r ≡ p
Stays p Message r = Unit {0}
Stays p (Refuse k) r = Unit {0}

abbrev At : ℕ → Stepped → Type 0
At p s = Stays p s.event s.reader

goes_at : (r : Reader) {p : ℕ} → come_of r.message ≡ p → Amid r.stage → place_in r ≡ p
goes_at r e a = rw a.no_payload e

opens_at : (size : ℕ) (r : Reader) (got : ℕ) → At got (opens size r got)
unfolding opens
opens_at size r got = either (At got) (eqb r.chunk.header.message_length 0) tt refl

landed_at : (r : Reader) → in_payload r.stage ≡ true → r.chunk.header.id ≢ 0 → At (r.message.got + 1) (landed r 1)
unfolding landed
landed_at r p n =
    let P = At (r.message.got + 1) in
    let pause : cond (eqb r.chunk.header.id 0) 0 (r.message.got + 1) ≡ r.message.got + 1 = rw (ne_eqb r.chunk.header.id 0 n) in
    let on : cond (in_payload r.stage) (r.message.got + 1) (cond (eqb r.message.id 0) 0 (r.message.got + 1)) ≡ r.message.got + 1 = rw p in
    either P (eqb (r.chunk.left - 1) 0) (either P (ltb (r.message.got + 1) r.chunk.header.message_length) pause tt) on

-- a byte of a decoder that calls can make: what it stores, and where it leaves the reader
module _ (d : Decoder) (b : ℕ) (k : Reached d) where
  payload_step : in_payload d.reader.stage ≡ true → (buffer : List ℕ) → (writes d buffer b ≡ set buffer d.reader.message.got b) × At (d.reader.message.got + 1) (step_of d b)
  unfolding writes step_of
  payload_step e buffer =
      let p = paying_pays d.setting.room _ d.reader (k.fits.paying e) in
      rw (e, p) (refl, landed_at d.reader e (k.sound.owns (in_payload_past d.reader.stage e)).used)

  header_byte : in_payload d.reader.stage ≡ false → (buffer : List ℕ) → (writes d buffer b ≡ buffer) × At (come_of d.reader.message) (step_of d b)
  unfolding writes step_of
  header_byte e buffer =
      let m = d.reader.message in
      rw e (
        refl,
        header_step (At (come_of m)) m d.setting (λ r place q a. goes_at r (ap come_of q) a) (λ r k. tt)
            (λ r got q z. rw z (opens_at d.setting.size r (come_of m))) d.reader.stage (look d.rows) d.reader b refl,
      )

-- a byte, and those after it
then_writes : (e : Event) (r : Reader) (d : Decoder) (buffer : List ℕ) (n p : ℕ) (later : List ℕ) (o : Outcome) → Stays p e r
    → (is_refusal e ≡ false → place_in r ≡ p → o.payload ≡ sets buffer p later)
    → (end e d buffer n o).payload ≡ sets buffer p (unless_answered e later)
then_writes Go r d buffer n p later o s h = h refl s
then_writes Chunk r d buffer n p later o s h = h refl s
then_writes Message r d buffer n p later o s h = refl
then_writes (Refuse k) r d buffer n p later o s h = refl

module _ (x : ℕ) (d : Decoder) (buffer : List ℕ) (n : ℕ) (k : Reached d) (later : List ℕ) (o : Outcome)
    (rest : o.payload ≡ sets (writes d buffer x) (place_in (after d (step_of d x)).reader) later) where
  abbrev s : Stepped
  s = step_of d x

  on_from : (p : ℕ) → At p s → (end s.event (after d s) (writes d buffer x) (n + 1) o).payload ≡ sets (writes d buffer x) p (unless_answered s.event later)
  unfolding after
  on_from p h =
      then_writes s.event s.reader (after d s) (writes d buffer x) (n + 1) p later o h
      (λ quiet e. let q : place_in (after d s).reader ≡ p = rw quiet e in rest ∙ ap (λ (i : ℕ). sets (writes d buffer x) i later) q)

  byte_writes : (end s.event (after d s) (writes d buffer x) (n + 1) o).payload ≡ sets buffer (place_in d.reader) (due d x ++ unless_answered s.event later)
  byte_writes = by_stage (in_payload d.reader.stage) refl
    where
      by_stage : (t : Bool) → in_payload d.reader.stage ≡ t
          → (end s.event (after d s) (writes d buffer x) (n + 1) o).payload ≡ sets buffer (place_in d.reader) (due d x ++ unless_answered s.event later)
      by_stage true e =
          let w = payload_step d x k e buffer in
          let one_on : d.reader.message.got + 1 ≡ suc d.reader.message.got = omega arith in
          on_from (d.reader.message.got + 1) w.1 ∙ (rw (w.0, e, one_on))
      by_stage false e = let w = header_byte d x k e buffer in on_from (come_of d.reader.message) w.1 ∙ (rw (w.0, e))

pub run_writes : (a : List ℕ) (d : Decoder) (buffer : List ℕ) (n : ℕ) → Reached d → (run a d buffer n).payload ≡ sets buffer (place_in d.reader) (payload_in a d)
unfolding run payload_in
run_writes [] d buffer n k = refl
run_writes (x ∷ a) d buffer n k =
    byte_writes x d buffer n k (payload_in a (after d (step_of d x))) _ (run_writes a (after d (step_of d x)) (writes d buffer x) (n + 1) (step_reached d x k))

-- and the run ends within the room
place_within : (d : Decoder) → Reached d → place_in d.reader ≤ d.setting.room
place_within d k = by_stage (in_payload d.reader.stage) refl (eqb d.reader.message.id 0) refl
  where
    by_stage : (t : Bool) → in_payload d.reader.stage ≡ t → (u : Bool) → eqb d.reader.message.id 0 ≡ u → place_in d.reader ≤ d.setting.room
    by_stage true e u q = let p = k.fits.paying e in rw e (omega (arith, p.ends, p.fits))
    by_stage false e true q = rw (e, q) (omega arith)
    by_stage false e false q = let n = eqb-false _ _ q in rw (e, q) (omega (arith, k.fits.got n, k.fits.room_for n))

then_within : (e : Event) (r : Reader) (p room : ℕ) (later : List ℕ) → Stays p e r → p ≤ room → (is_refusal e ≡ false → place_in r + length later ≤ room)
    → p + length (unless_answered e later) ≤ room
then_within Go r p room later s h k = rw (← s) (k refl)
then_within Chunk r p room later s h k = rw (← s) (k refl)
then_within Message r p room later s h k = omega (arith, h)
then_within (Refuse j) r p room later s h k = omega (arith, h)

module _ (x : ℕ) (d : Decoder) (k : Reached d) (later : List ℕ) where
  abbrev first : Stepped
  first = step_of d x

  byte_within : (is_refusal first.event ≡ false → place_in first.reader + length later ≤ d.setting.room)
      → place_in d.reader + length (due d x ++ unless_answered first.event later) ≤ d.setting.room
  byte_within rest = by_stage (in_payload d.reader.stage) refl
    where
      by_stage : (t : Bool) → in_payload d.reader.stage ≡ t → place_in d.reader + length (due d x ++ unless_answered first.event later) ≤ d.setting.room
      by_stage true e =
          let p = k.fits.paying e in
          let w = payload_step d x k e [] in
          let h = then_within first.event first.reader (d.reader.message.got + 1) d.setting.room later w.1 (omega (arith, p.some, p.ends, p.fits)) rest in
          rw e (omega (arith, h))
      by_stage false e =
          let w = header_byte d x k e [] in
          let h : come_of d.reader.message ≤ d.setting.room = rw e at (place_within d k) in
          rw e (then_within first.event first.reader (come_of d.reader.message) d.setting.room later w.1 h rest)

reader_on : (d : Decoder) (s : Stepped) → is_refusal s.event ≡ false → place_in (after d s).reader ≡ place_in s.reader
unfolding after
reader_on d s e = rw e

same_room : (d : Decoder) (s : Stepped) → (after d s).setting.room ≡ d.setting.room
unfolding after
same_room d s = refl

run_within : (a : List ℕ) (d : Decoder) → Reached d → place_in d.reader + length (payload_in a d) ≤ d.setting.room
unfolding payload_in
run_within [] d k = let p = place_within d k in omega (arith, p)
run_within (x ∷ a) d k =
    let s = step_of d x in
    let rest = run_within a (after d s) (step_reached d x k) in
    byte_within x d k (payload_in a (after d s)) (λ e. omega (arith, rest, reader_on d s e, same_room d s))

pub writes_exactly : WritesExactly
writes_exactly d m input buffer o long = record {
  stores = ap (λ (r : Outcome). r.payload) (next_runs d input buffer o long) ∙ run_writes input d buffer 0 (made_reaches m);
  within = run_within input d (made_reaches m);
}

-- bytes cut in two
then_parts : (e : Event) (d : Decoder) (buffer : List ℕ) (n m : ℕ) (o : Outcome) (first both : List ℕ) (result : Decoder → List ℕ)
    → (o.answer ≡ more m → both ≡ first ++ result o.deserializer)
    → (end e d buffer n o).answer ≡ more m
    → unless_answered e both ≡ unless_answered e first ++ result (end e d buffer n o).deserializer
then_parts Go d buffer n m o first both result h e = h e
then_parts Chunk d buffer n m o first both result h e = h e
then_parts Message d buffer n m o first both result h e = message_not_more e
then_parts (Refuse k) d buffer n m o first both result h e = refused_not_more e

run_parts : (a b : List ℕ) (d : Decoder) (buffer : List ℕ) (n m : ℕ) → (run a d buffer n).answer ≡ more m
    → payload_in (a ++ b) d ≡ payload_in a d ++ payload_in b (run a d buffer n).deserializer
unfolding run payload_in
run_parts [] b d buffer n m e = refl
run_parts (x ∷ a) b d buffer n m e =
    let d' = after d (step_of d x) in
    ap (λ (l : List ℕ). due d x ++ l)
    (then_parts (step_of d x).event d' (writes d buffer x) (n + 1) m (run a d' (writes d buffer x) (n + 1)) (payload_in a d') (payload_in (a ++ b) d') (payload_in b)
    (run_parts a b d' (writes d buffer x) (n + 1) m) e)
    ∙ sym (append_assoc (due d x) (unless_answered (step_of d x).event (payload_in a d')) _)

pub of_parts : OfParts
of_parts d a b m buffer e =
    let p = has_run d a buffer m e in
    let r = next_runs d a buffer p.1 p.0 in
    rw r (run_parts a b d buffer 0 m (ap (λ (o : Outcome). o.answer) (sym r) ∙ e))
