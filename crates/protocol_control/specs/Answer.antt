-- Each answer's number and values, as document 02 lists them. Every promise of this crate goes through these.
use Rattle.std.specs.Prelude.{ℕ, List, Result, Ok, Err}
use Rattle.fields.specs.Writing.{Wrote, wrote}
use Rattle.fields.specs.Writing.{refused as not_written}
use Rattle.protocol_control.specs.declared.error.ReadError.{ReadError}
use Rattle.protocol_control.specs.declared.error.ReadError.TheVariants.{BodyTooShort, OutOfLimits}
use Rattle.protocol_control.specs.declared.error.WriteError.{WriteError}
use Rattle.protocol_control.specs.declared.error.WriteError.TheVariants.{OutputTooShort, OutOfLimits as NotHeld}
use Rattle.protocol_control.specs.declared.ProtocolControl.{ProtocolControl}
use Rattle.protocol_control.specs.Body.{kind_of, message_type, numbers}

pub data Answer : Type 0 where
  -- a message type and its body's numbers
  control : (type : ℕ) → (numbers : List ℕ) → Answer
  refused : (number : ℕ) → Answer

abbrev pub listed : ProtocolControl → Answer
listed c = control (message_type (kind_of c)) (numbers c)

abbrev pub read_answer : Result ProtocolControl ReadError → Answer
read_answer (Ok c) = listed c
read_answer (Err BodyTooShort) = refused 15
read_answer (Err OutOfLimits) = refused 16

abbrev pub write_answer : Result ℕ WriteError → Wrote
write_answer (Ok n) = wrote n
write_answer (Err NotHeld) = not_written 16
write_answer (Err OutputTooShort) = not_written 5
