-- A step that was stored is a turn of the loop: what is lent then means the decoder after the step.
use Rattle.std.proofs.Common.{drop-drop, take_all}
use Rattle.std.proofs.Common.{ℕ, ◌+◌, ◌-◌, ◌≤◌, ◌<◌, ◌≡◌, sym, ap, ◌∙◌, List, arith, drop, get_or, length, take, length-drop}
use Rattle.byte_machine.specs.Reader.{Stepped}
use Rattle.decoding.specs.Answer.{Listed}
use Rattle.decoding.specs.Call.{Outcome, after, outcome, run}
use Rattle.decoding.specs.Decoder.{Decoder}
use Rattle.decoding.proofs.Runs.{then}
use Rattle.held.specs.Done.{settled_by}
use Rattle.header_in_place.specs.Byte.{Left}
use Rattle.held.specs.Numbers.{again, decode, encode}
use Rattle.held.proofs.Again.{again_means}
use Rattle.in_place.specs.declared.paying.Moved.{Moved}
use Rattle.one_stroke.specs.Lent.{Lent}
use Rattle.in_place.specs.Turn.{Turned, follows}

module _ (m : Moved) (held rows input payload held' rows' payload' : List ℕ) (s : Stepped) where
  abbrev d : Decoder
  d = decode held rows

  pub turned : Left m.event held' rows' d s → decode held' rows' ≡ after d s → 0 < m.used → m.used ≤ length input
      → ((n : ℕ) → run input d payload n ≡ then d s payload' (n + m.used) (drop m.used input))
      → Turned m held rows input payload held' rows' payload'
  unfolding after
  turned left means some within runs = record {
    some = some;
    within = within;
    room = ap (λ (l : List ℕ). get_or l 0 0) left.numbers;
    kept = left.numbers ∙ ap (λ (x : Decoder). encode x) (sym means);
    runs = λ n.
        runs n ∙ (rw (left.event_is, means));
  }

-- an outcome that speaks of what is lent, where the numbers at exit stand for what numbers mean
pub lent : (o : Outcome) (answer : Listed) (held rows payload held' : List ℕ) → o ≡ outcome answer (decode held rows) payload → held' ≡ again held
    → Lent answer held' rows payload o
lent o answer held rows payload held' e k = record {
  answer_is = sym (ap (λ (x : Outcome). x.answer) e);
  numbers = k ∙ sym (ap (λ (x : Outcome). encode x.deserializer) e);
  table = sym (ap (λ (x : Outcome). x.deserializer.rows) e);
  buffer = sym (ap (λ (x : Outcome). x.payload) e);
  means = again_means held held' rows k ∙ sym (ap (λ (x : Outcome). x.deserializer) e);
}

-- a turn over the rest of the input, at a place
module _ (m : Moved) (held rows input : List ℕ) (at : ℕ) (payload held' rows' payload' : List ℕ) (t : Turned m held rows (take (length input - at) (drop at input)) payload held' rows' payload') where
  rest_is : take (length input - at) (drop at input) ≡ drop at input
  rest_is = take_all (length input - at) (drop at input) (rw length-drop (omega arith))

  pub turned_within : at ≤ length input → at + m.used ≤ length input
  turned_within k = omega (arith, k, t.within, ap length rest_is, length-drop at input)

  pub turned_on : run (drop at input) (decode held rows) payload at ≡ follows (settled_by m.event) (decode held' rows') payload' (at + m.used) (drop (at + m.used) input)
  turned_on = (rw (rest_is, drop-drop m.used at input) at (t.runs at))
