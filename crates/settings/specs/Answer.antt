-- Each answer's number and values, as document 02 lists them. Every promise of this crate goes through these.
use Rattle.std.specs.Prelude.{ℕ, Result, Ok, Err}
use Rattle.fields.specs.Writing.{Wrote, wrote}
use Rattle.fields.specs.Writing.{refused as not_written}
use Rattle.settings.specs.declared.Settings.{Settings}
use Rattle.settings.specs.declared.Stored.{Stored}
use Rattle.settings.specs.declared.error.ReadError.{ReadError}
use Rattle.settings.specs.declared.error.ReadError.TheVariants.{TooShort, UnknownVersion, WrongLength, OutOfLimits}
use Rattle.settings.specs.declared.error.WriteError.{WriteError}
use Rattle.settings.specs.declared.error.WriteError.TheVariants.{OutputTooShort, OutOfLimits as NotHeld}

pub data Answer : Type 0 where
  -- the settings, and how many bytes their record has
  settings : Settings → (used : ℕ) → Answer
  refused : (number : ℕ) → Answer
  -- by name: the version that it met
  refused_version : (number version : ℕ) → Answer

abbrev pub read_answer : Result Stored ReadError → Answer
read_answer (Ok r) = settings r.settings r.used
read_answer (Err TooShort) = refused 25
read_answer (Err (UnknownVersion v)) = refused_version 26 v
read_answer (Err WrongLength) = refused 27
read_answer (Err OutOfLimits) = refused 28

-- a refusal's number; 0 for settings
abbrev pub number_in : Answer → ℕ
number_in (settings s used) = 0
number_in (refused k) = k
number_in (refused_version k v) = k

abbrev pub write_answer : Result ℕ WriteError → Wrote
write_answer (Ok n) = wrote n
write_answer (Err NotHeld) = not_written 28
write_answer (Err OutputTooShort) = not_written 5
