-- Both listings decide their answers, since these can be told from them.
use Rattle.std.proofs.Common.{◌≡◌, ℕ, cond, eqb, Ok, Err, Result, refl}
use Rattle.fields.specs.Deciding.{Decides}
use Rattle.fields.specs.Writing.{Wrote, wrote}
use Rattle.fields.specs.Writing.{refused as not_written}
use Rattle.fields.proofs.Deciding.{told_decides}
use Rattle.settings.specs.declared.Stored.{Stored}
use Rattle.settings.specs.declared.error.ReadError.{ReadError}
use Rattle.settings.specs.declared.error.ReadError.TheVariants.{TooShort, UnknownVersion, WrongLength, OutOfLimits}
use Rattle.settings.specs.declared.error.WriteError.{WriteError}
use Rattle.settings.specs.declared.error.WriteError.TheVariants.{OutputTooShort, OutOfLimits as NotHeld}
use Rattle.settings.specs.Answer.{Answer, settings, refused, refused_version, read_answer, write_answer}

abbrev read : Answer → Result Stored ReadError
read (settings s used) = Ok (record { settings = s; used = used })
read (refused k) = cond (eqb k 25) (Err TooShort) (cond (eqb k 27) (Err WrongLength) (Err OutOfLimits))
read (refused_version k v) = Err (UnknownVersion v)

read_back : (r : Result Stored ReadError) → read (read_answer r) ≡ r
read_back (Ok r) = refl
read_back (Err TooShort) = refl
read_back (Err (UnknownVersion v)) = refl
read_back (Err WrongLength) = refl
read_back (Err OutOfLimits) = refl

pub read_decides : Decides read_answer
read_decides = told_decides read_answer read read_back

abbrev written : Wrote → Result ℕ WriteError
written (wrote n) = Ok n
written (not_written k) = cond (eqb k 28) (Err NotHeld) (Err OutputTooShort)

written_back : (r : Result ℕ WriteError) → written (write_answer r) ≡ r
written_back (Ok n) = refl
written_back (Err NotHeld) = refl
written_back (Err OutputTooShort) = refl

pub write_decides : Decides write_answer
write_decides = told_decides write_answer written written_back
