-- What a call leaves of a decoder that is lent: the numbers, the table and the payload buffer that the definition says, and numbers
-- that mean the definition's decoder, so that the next call begins where the definition is.
use Rattle.std.specs.Prelude.{ℕ, List, ◌≡◌}
use Rattle.decoding.specs.Answer.{Listed}
use Rattle.decoding.specs.Call.{Outcome}
use Rattle.held.specs.Numbers.{decode, encode}

pub record Lent (answer : Listed) (held rows payload : List ℕ) (o : Outcome) : Type 0 where
  pub answer_is : answer ≡ o.answer
  pub numbers : held ≡ encode o.deserializer
  pub table : rows ≡ o.deserializer.rows
  pub buffer : payload ≡ o.payload
  pub means : decode held rows ≡ o.deserializer
