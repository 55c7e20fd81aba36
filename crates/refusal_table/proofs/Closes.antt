-- What a closing refusal leaves: the bytes before the one that settles it go on as ever, and that one changes the closed number and stores nothing.
use Rattle.std.proofs.Common.{◌≡◌, ℕ, suc, ◌+◌, Bool, true, false, cond, List, [], ◌∷◌, take, set, sym, refl, ap, ◌∙◌, add-zero, arith}
use Rattle.decoding.specs.Decoder.{Decoder}
use Rattle.byte_machine.specs.Reader.{Event, Go, Chunk, Message, Refuse, Stepped, in_payload, refuse}
use Rattle.decoding.specs.Answer.{more, refused}
use Rattle.decoding.specs.Call.{Outcome, after, end, outcome, run, step_of, writes}
use Rattle.byte_machine.specs.Payload.{landed, pays}
use Rattle.byte_machine.specs.Step.{stepped}
use Rattle.decoding.proofs.Closing.{refusal_only_closes}
use Rattle.decoding.proofs.Cut.{refused_not_more}
use Rattle.decoding.proofs.Runs.{landed_not_refused}
use Rattle.fields.proofs.Tests.{clash}
use Rattle.refusal_table.specs.History.{closed_with}
use Rattle.decoding.proofs.Standing.{refused_not_message}
use Rattle.byte_machine.specs.Look.{look}

-- payload is not refused, and no other byte is stored
refused_stores_nothing : (d : Decoder) (payload : List ℕ) (x k : ℕ) → (step_of d x).event ≡ Refuse k → writes d payload x ≡ payload
unfolding step_of writes
refused_stores_nothing d payload x k =
    by_cases (in_payload d.reader.stage) (pays d.setting.room d.reader) (stepped d.reader.stage d.setting (look d.rows) d.reader x)
  where
    by_cases : (t u : Bool) (s : Stepped) → (cond t (cond u (landed d.reader 1) (refuse d.reader 255)) s).event ≡ Refuse k
        → cond t (cond u (set payload d.reader.message.got x) payload) payload ≡ payload
    by_cases true true s h = clash (landed_not_refused d.reader 1) (rw h)
    by_cases true false s h = refl
    by_cases false u s h = refl

-- a run that is refused, at the byte after some others: what they leave, closed
abbrev closed_as : ℕ → ℕ → Outcome → Outcome
closed_as k m o = outcome (refused k m) (closed_with k o.deserializer) o.payload

pub record ClosedAt (a : List ℕ) (d : Decoder) (payload : List ℕ) (n k m : ℕ) : Type 0 where
  pub others : ℕ
  pub used : m ≡ n + suc others
  pub wants : (run (take others a) d payload n).answer ≡ more (n + others)
  pub refuses : (run (take (suc others) a) d payload n).answer ≡ refused k m
  pub closes : run a d payload n ≡ closed_as k m (run (take others a) d payload n)

-- by the first byte's event
module _ (x : ℕ) (a : List ℕ) (d : Decoder) (payload : List ℕ) (n k m : ℕ) where
  abbrev d' : Decoder
  d' = after d (step_of d x)

  abbrev payload' : List ℕ
  payload' = writes d payload x

  -- it goes on, and so do the bytes before the one that is refused
  goes_closed : ((b : List ℕ) → run (x ∷ b) d payload n ≡ run b d' payload' (n + 1)) → ClosedAt a d' payload' (n + 1) k m → ClosedAt (x ∷ a) d payload n k m
  goes_closed on c =
      let more_on : n + 1 + c.others ≡ n + suc c.others = omega arith in
      record {
        others = suc c.others;
        used = omega (arith, c.used);
        wants = ap (λ (o : Outcome). o.answer) (on (take c.others a)) ∙ c.wants ∙ ap more more_on;
        refuses = ap (λ (o : Outcome). o.answer) (on (take (suc c.others) a)) ∙ c.refuses;
        closes = on a ∙ c.closes ∙ ap (closed_as k m) (sym (on (take c.others a)));
      }

  by_event : (e : Event) → (step_of d x).event ≡ e → (end e d' payload' (n + 1) (run a d' payload' (n + 1))).answer ≡ refused k m
      → ((run a d' payload' (n + 1)).answer ≡ refused k m → ClosedAt a d' payload' (n + 1) k m)
      → ClosedAt (x ∷ a) d payload n k m
  unfolding run
  by_event Go is h later = goes_closed (λ b. rw is) (later h)
  by_event Chunk is h later = goes_closed (λ b. rw is) (later h)
  by_event Message is h later = refused_not_message (sym h)
  by_event (Refuse j) is h later =
      let ek : j ≡ k = cc in
      let em : n + 1 ≡ m = cc in
      let at_once : (b : List ℕ) → run (x ∷ b) d payload n ≡ outcome (refused j (n + 1)) d' payload' = λ b. rw is in
      record {
        others = 0;
        used = omega (arith, em);
        wants = ap more (sym (add-zero n));
        refuses = ap (λ (o : Outcome). o.answer) (at_once (take 0 a)) ∙ (rw (ek, em));
        closes = at_once a ∙ (rw (refusal_only_closes d x j is, refused_stores_nothing d payload x j is, ek, em));
      }

pub closed_at : (a : List ℕ) (d : Decoder) (payload : List ℕ) (n k m : ℕ) → (run a d payload n).answer ≡ refused k m → ClosedAt a d payload n k m
unfolding run
closed_at [] d payload n k m h = refused_not_more (sym h)
closed_at (x ∷ a) d payload n k m h =
    by_event x a d payload n k m (step_of d x).event refl h (closed_at a (after d (step_of d x)) (writes d payload x) (n + 1) k m)
