-- What each refusal is printed as.
use Rattle.std.specs.Prelude.{ℕ, List, codes}
use Rattle.user_control.specs.declared.error.ReadError.{ReadError}
use Rattle.user_control.specs.declared.error.ReadError.TheVariants.{BodyTooShort, UnknownCode}
use Rattle.user_control.specs.declared.error.WriteError.{WriteError}
use Rattle.user_control.specs.declared.error.WriteError.TheVariants.{OutputTooShort}

abbrev pub read_error_text : ReadError → List ℕ
read_error_text BodyTooShort = codes "the body is too short"
read_error_text UnknownCode = codes "no event has the code"

abbrev pub write_error_text : WriteError → List ℕ
write_error_text OutputTooShort = codes "the output is too short"
