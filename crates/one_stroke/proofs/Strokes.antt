-- A path in front of the loop is the call's own answer: what it stores stands for the definition's decoder after it.
use Rattle.std.proofs.Common.{[], get_or, ℕ, ◌<◌, ◌≡◌, refl, sym, ap, ◌∙◌, List, length}
use Rattle.fields.specs.Output.{stored}
use Rattle.decoding.specs.Answer.{Listed, more}
use Rattle.decoding.specs.Call.{Outcome, next, outcome}
use Rattle.decoding.specs.Within.{Lies, nearer}
use Rattle.decoding.specs.Decoder.{Decoder}
use Rattle.decoding.proofs.PieceWithin.{next_within}
use Rattle.held.specs.Numbers.{decode, encode, held_in}
use Rattle.held.proofs.Again.{decode_encode, third, from_small}
use Rattle.one_stroke.specs.Lent.{Lent}

-- an outcome, and what stands for it
pub stroke : (o : Outcome) (answer : Listed) (d : Decoder) (held rows payload : List ℕ) → o ≡ outcome answer d payload → held ≡ encode d → rows ≡ d.rows
    → third d.reader.stage < 256
    → Lent answer held rows payload o
stroke o answer d held rows payload e k t small = record {
  answer_is = sym (ap (λ (x : Outcome). x.answer) e);
  numbers = k ∙ sym (ap (λ (x : Outcome). encode x.deserializer) e);
  table = t ∙ sym (ap (λ (x : Outcome). x.deserializer.rows) e);
  buffer = sym (ap (λ (x : Outcome). x.payload) e);
  means = rw (k, t) (decode_encode d small) ∙ sym (ap (λ (x : Outcome). x.deserializer) e);
}

-- a piece within a payload
pub piece_taken : (held rows input payload held' payload' : List ℕ) → Lies (decode held rows) (length input) (length payload)
    → held' ≡ encode (nearer (decode held []) (length input))
    → payload' ≡ stored payload (held_in held).got input
    → Lent (more (length input)) held' rows payload' (next (decode held rows) input payload)
piece_taken held rows input payload held' payload' w k b =
    stroke (next (decode held rows) input payload) (more (length input)) (nearer (decode held rows) (length input)) held' rows payload'
    (next_within (decode held rows) input payload w ∙ (rw (← b)))
    k
    refl
    (from_small (get_or held 3 0) (get_or held 4 0) (get_or held 5 0))

-- a path that has changed nothing leaves the call to the next
pub after_none : (answer : Listed) (held' rows' payload' held₁ rows₁ payload₁ held rows input payload : List ℕ) → held₁ ≡ held → rows₁ ≡ rows → payload₁ ≡ payload
    → Lent answer held' rows' payload' (next (decode held₁ rows₁) input payload₁)
    → Lent answer held' rows' payload' (next (decode held rows) input payload)
after_none answer held' rows' payload' held₁ rows₁ payload₁ held rows input payload a b c l = rw (a, b, c) at l
