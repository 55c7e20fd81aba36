-- What a call leaves of what is lent, and what it answers, is decided by the definition's outcome, since an answer can be told from
-- its listing.
use Rattle.std.proofs.Common.{ℕ, ◌≡◌, refl, sym, ◌∙◌, List}
use Rattle.fields.specs.Deciding.{Decides}
use Rattle.fields.proofs.Deciding.{told_decides}
use Rattle.decoding.specs.Answer.{Listed, message, more, refused}
use Rattle.decoding.specs.Call.{Outcome}
use Rattle.decoding.specs.Told.{Size, taken, refused as unsized, Outcome as Telling-as-Outcome}
use Rattle.one_stroke.specs.Lent.{Lent}
use Rattle.in_place.specs.declared.answer.Answer.{Answer}
use Rattle.in_place.specs.declared.answer.Answer.TheVariants.{Message, More, Refused}
use Rattle.in_place.specs.declared.refusal.Refusal.{Refusal}
use Rattle.std.proofs.Common.{Result, Ok, Err}
use Rattle.in_place.specs.Answer.{LentSize, answer_of, size_of}

abbrev tell_answer : Listed → Answer
tell_answer (message type stream time length used) = Message (record { type_id = type; stream_id = stream; timestamp = record { value = time }; length = length }) used
tell_answer (more used) = More used
tell_answer (refused number used) = Refused number used

answer_back : (a : Answer) → tell_answer (answer_of a) ≡ a
answer_back (Message m used) = refl
answer_back (More used) = refl
answer_back (Refused number used) = refl

pub answer_decides : Decides answer_of
answer_decides = told_decides answer_of tell_answer answer_back

pub lent_decides : (a b : Answer) (held held' rows rows' payload payload' : List ℕ) (o : Outcome) → Lent (answer_of a) held rows payload o → Lent (answer_of b) held' rows' payload' o
    → (a ≡ b) × (held ≡ held') × (rows ≡ rows') × (payload ≡ payload')
lent_decides a b held held' rows rows' payload payload' o l m = (
  answer_decides a b (l.answer_is ∙ sym m.answer_is),
  l.numbers ∙ sym m.numbers,
  l.table ∙ sym m.table,
  l.buffer ∙ sym m.buffer,
)

-- and so for a decoder that is made or told a size
abbrev tell_size : Size → Result (Unit {0}) Refusal
tell_size taken = Ok tt
tell_size (unsized n) = Err (record { number = n })

size_back : (t : Result (Unit {0}) Refusal) → tell_size (size_of t) ≡ t
size_back (Ok done) = refl
size_back (Err e) = refl

pub size_decides : Decides size_of
size_decides = told_decides size_of tell_size size_back

pub size_lent_decides : (s t : Result (Unit {0}) Refusal) (held held' rows rows' : List ℕ) (o : Telling-as-Outcome) → LentSize (size_of s) held rows o → LentSize (size_of t) held' rows' o
    → (s ≡ t) × (held ≡ held') × (rows ≡ rows')
size_lent_decides s t held held' rows rows' o l m = (
  size_decides s t (l.answer_is ∙ sym m.answer_is),
  l.stands.numbers ∙ sym m.stands.numbers,
  l.stands.table ∙ sym m.stands.table,
)
