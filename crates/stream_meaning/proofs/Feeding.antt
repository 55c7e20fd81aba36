-- However its bytes are cut, a run of calls that refuses nothing hands out what its bytes mean.
use Rattle.std.proofs.Common.{◌≡◌, ℕ, ◌+◌, true, false, List, [], ◌∷◌, ◌++◌, length, take, sym, refl, ap, ◌∙◌, subst, append_assoc, append-nil, arith, take_all}
use lib.Seq.{take-append-add}
use Rattle.fields.specs.Endian.{Bytes}
use Rattle.fields.proofs.Tests.{clash}
use Rattle.chunk_header.specs.Limits.{initial_size}
use Rattle.decoding.specs.Decoder.{Decoder}
use Rattle.decoding.specs.Answer.{Listed, message, more, refused, used}
use Rattle.decoding.specs.Call.{Outcome, next, outcome, run}
use Rattle.decoding.specs.Told.{between, taken as size_taken, told}
use Rattle.decoding.proofs.Covers.{bytes_append}
use Rattle.decoding.proofs.Cut.{feed_append, refused_not_more, shift}
use Rattle.decoding.proofs.Progress.{more_uses_all}
use Rattle.decoding.proofs.Runs.{next_runs}
use Rattle.decoding.proofs.Standing.{refused_not_message, run_stood}
use Rattle.decoding.proofs.Entries.{taken_sized}
use Rattle.decoding.proofs.Reached.{made_reaches}
use Rattle.stream_meaning.specs.Connection.{quiet}
use Rattle.stream_meaning.specs.Feeding.{Feeding, FeedingMeans, Reading, Sign, handed, new_size, opened, signs, sized, wanted}
use Rattle.stream_meaning.specs.Stream.{Message}
use Rattle.stream_meaning.specs.Taking.{NotRefused}
use Rattle.stream_meaning.proofs.Connecting.{signs_append}
use Rattle.stream_meaning.proofs.Walking.{Amid, Leads, amid_start, handed_shift, used_shift, walk}
use Rattle.stream_meaning.proofs.Whole.{Whole, whole_fresh, whole_sized}

-- bytes offered after a part of a chunk are that part and they
leads_back : (before came : List Sign) (messages : List Message) (a b : List ℕ) (o : Outcome) → came ≡ before ++ signs a → Leads before messages (a ++ b) (shift (length a) o)
    → Leads came messages b o
leads_back before came messages a b o e l =
    let s : signs (take (length a + used o.answer) (a ++ b)) ≡ signs a ++ signs (take (used o.answer) b) =
    ap signs (take-append-add a b (used o.answer)) ∙ signs_append a (take (used o.answer) b)
    in
    rw (e, append_assoc before (signs a) (signs (take (used o.answer) b))) (rw (used_shift (length a) o, handed_shift (length a) o, s) at l)

not_refused_by : (m : ℕ) (o : Outcome) → NotRefused o.answer → NotRefused (shift m o).answer
not_refused_by m o h = by_answer o.answer refl
  where
    by_answer : (l : Listed) → o.answer ≡ l → NotRefused (shift m o).answer
    by_answer (message type stream time long n) e = rw e (λ number used z. refused_not_message (sym z))
    by_answer (more n) e = rw e (λ number used z. refused_not_more (sym z))
    by_answer (refused k n) e = absurd (h k n e)

module _ {came : List Sign} {messages : List Message} {d : Decoder} {buffer : List ℕ} (a : Amid came messages d buffer) where
  joined : (input : List ℕ) → next a.decoder (a.part_of ++ input) a.held ≡ shift (length a.part_of) (next d input buffer)
  joined input =
      let e : (next a.decoder a.part_of a.held).answer ≡ more (length a.part_of) = ap (λ (o : Outcome). o.answer) a.reads in
      feed_append a.decoder a.part_of input a.held (length a.part_of) e
      ∙ ap (λ (o : Outcome). shift (length a.part_of) (next o.deserializer input o.payload)) a.reads

  -- a call that refuses nothing
  call_leads : (input : List ℕ) → Bytes input → NotRefused (next d input buffer).answer → Leads came messages input (next d input buffer)
  call_leads input bytes h =
      leads_back a.before came messages a.part_of input (next d input buffer) a.came_is
      (subst (λ (o : Outcome). Leads a.before messages (a.part_of ++ input) o) (joined input)
      (walk (a.part_of ++ input) a.before messages a.decoder a.held a.at_start_lem (bytes_append a.part_of input a.bytes bytes)
      (subst (λ (o : Outcome). NotRefused o.answer) (sym (joined input)) (not_refused_by (length a.part_of) (next d input buffer) h))))

  -- a decoder that takes a size stands between chunks
  pub at_boundary : between d.reader ≡ true → Whole came messages d buffer
  unfolding run
  at_boundary b = by_part a.part_of a.reads a.came_is
    where
      runs : (p : List ℕ) → next a.decoder p a.held ≡ run p a.decoder a.held 0
      runs p = next_runs a.decoder p a.held a.at_start_lem.ready.open_still a.at_start_lem.ready.long

      by_part : (p : List ℕ) → next a.decoder p a.held ≡ outcome (more (length p)) d buffer → came ≡ a.before ++ signs p → Whole came messages d buffer
      by_part [] e c =
          let f : outcome (more 0) a.decoder a.held ≡ outcome (more 0) d buffer = sym (runs []) ∙ e in
          let fd : a.decoder ≡ d = ap (λ (o : Outcome). o.deserializer) f in
          let fb : a.held ≡ buffer = ap (λ (o : Outcome). o.payload) f in
          rw (← fd, ← fb, c, append-nil a.before) a.at_start_lem
      by_part (x ∷ p) e c =
          let r : run (x ∷ p) a.decoder a.held 0 ≡ outcome (more (length (x ∷ p))) d buffer = sym (runs (x ∷ p)) ∙ e in
          let s = run_stood (x ∷ p) a.decoder a.held 0 (made_reaches a.at_start_lem.ready.by_calls) in
          let z : between d.reader ≡ false = subst (λ (o : Outcome). between o.deserializer.reader ≡ false) r (s.wanted (length (x ∷ p)) (ap (λ (o : Outcome). o.answer) r) (λ n. absurd (omega arith))) in
          clash z b

-- each call, whatever it was that answered
leads_wanted : (came : List Sign) (messages : List Message) (input : List ℕ) (o : Outcome) (n : ℕ) → o.answer ≡ more n → n ≡ length input → Leads came messages input o
    → Amid (came ++ signs input) messages o.deserializer o.payload
leads_wanted came messages input o n e all r = let t : take n input ≡ input = take_all n input (omega (arith, all)) in rw (e, t, append-nil messages) at r

leads_handed : (came : List Sign) (messages : List Message) (input : List ℕ) (o : Outcome) (type stream time long n : ℕ) → o.answer ≡ message type stream time long n
    → Leads came messages input o
    → Amid (came ++ signs (take n input)) (messages ++ (record { type = type; stream = stream; time = time; payload = take long o.payload } ∷ [])) o.deserializer o.payload
leads_handed came messages input o type stream time long n e r = rw e at r

amid_wanted : {came : List Sign} {messages : List Message} {d : Decoder} {buffer : List ℕ} → Amid came messages d buffer → (input : List ℕ) → Bytes input → (n : ℕ)
    → (next d input buffer).answer ≡ more n
    → Amid (came ++ signs input) messages (next d input buffer).deserializer (next d input buffer).payload
amid_wanted {came} {messages} {d} {buffer} a input bytes n e =
    leads_wanted came messages input (next d input buffer) n e (more_uses_all d input buffer n e) (call_leads a input bytes (λ k u z. refused_not_more (sym z ∙ e)))

amid_handed : {came : List Sign} {messages : List Message} {d : Decoder} {buffer : List ℕ} → Amid came messages d buffer → (input : List ℕ) → Bytes input
    → (type stream time long n : ℕ)
    → (next d input buffer).answer ≡ message type stream time long n
    → Amid (came ++ signs (take n input)) (messages ++ (record { type = type; stream = stream; time = time; payload = take long (next d input buffer).payload } ∷ []))
    (next d input buffer).deserializer (next d input buffer).payload
amid_handed {came} {messages} {d} {buffer} a input bytes type stream time long n e =
    leads_handed came messages input (next d input buffer) type stream time long n e (call_leads a input bytes (λ k u z. refused_not_message (sym z ∙ e)))

amid_sized : {came : List Sign} {messages : List Message} {d : Decoder} {buffer : List ℕ} → Amid came messages d buffer → (new : ℕ) → (told d new).answer ≡ size_taken
    → Amid (came ++ (new_size new ∷ [])) messages (told d new).deserializer buffer
amid_sized {d = d} a new e = let t = taken_sized d new e in amid_start (whole_sized (at_boundary a t.between_messages) new t.after)

pub feeding_amid : {came : List Sign} {messages : List Message} {d : Decoder} {buffer : List ℕ} → Feeding came messages d buffer → Amid came messages d buffer
feeding_amid (opened room buffer e l) = amid_start (whole_fresh room buffer e l)
feeding_amid (wanted s input bytes n e) = amid_wanted (feeding_amid s) input bytes n e
feeding_amid (handed s input bytes type stream time long n e) = amid_handed (feeding_amid s) input bytes type stream time long n e
feeding_amid (sized s new e) = amid_sized (feeding_amid s) new e

abbrev pub amid_reading : {came : List Sign} {messages : List Message} {d : Decoder} {buffer : List ℕ} → Amid came messages d buffer → Reading initial_size quiet came
amid_reading a = record {
  items = a.at_start_lem.items;
  part = a.part_of;
  is = a.came_is ∙ ap (λ (l : List Sign). l ++ signs a.part_of) a.at_start_lem.is;
  fits = a.at_start_lem.fits;
  begun = a.begun;
}

pub feeding_means : FeedingMeans
feeding_means came messages d buffer s = let a = feeding_amid s in record { reading = amid_reading a; handed_out = a.at_start_lem.handed_out }
