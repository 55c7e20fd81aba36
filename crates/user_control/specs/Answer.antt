-- Each answer's number and values, as document 01 lists them. Every promise of this crate goes through these.
use Rattle.std.specs.Prelude.{ℕ, List, Result, Ok, Err}
use Rattle.fields.specs.Writing.{Wrote, wrote}
use Rattle.fields.specs.Writing.{refused as not_written}
use Rattle.user_control.specs.declared.error.ReadError.{ReadError}
use Rattle.user_control.specs.declared.error.ReadError.TheVariants.{BodyTooShort, UnknownCode}
use Rattle.user_control.specs.declared.error.WriteError.{WriteError}
use Rattle.user_control.specs.declared.error.WriteError.TheVariants.{OutputTooShort}
use Rattle.user_control.specs.declared.UserControlEvent.{UserControlEvent}
use Rattle.user_control.specs.Body.{code, numbers}

pub data Answer : Type 0 where
  -- a code and its numbers
  event : ℕ → List ℕ → Answer
  refused : ℕ → Answer

abbrev pub read_answer : Result UserControlEvent ReadError → Answer
read_answer (Ok e) = event (code e) (numbers e)
read_answer (Err BodyTooShort) = refused 15
read_answer (Err UnknownCode) = refused 16

abbrev pub write_answer : Result ℕ WriteError → Wrote
write_answer (Ok n) = wrote n
write_answer (Err OutputTooShort) = not_written 5
