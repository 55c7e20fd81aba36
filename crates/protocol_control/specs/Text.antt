-- What each refusal is printed as.
use Rattle.std.specs.Prelude.{ℕ, List, codes}
use Rattle.protocol_control.specs.declared.error.ReadError.{ReadError}
use Rattle.protocol_control.specs.declared.error.ReadError.TheVariants.{BodyTooShort, OutOfLimits}
use Rattle.protocol_control.specs.declared.error.WriteError.{WriteError}
use Rattle.protocol_control.specs.declared.error.WriteError.TheVariants.{OutputTooShort, OutOfLimits as NotHeld}

abbrev pub read_error_text : ReadError → List ℕ
read_error_text BodyTooShort = codes "the body is too short"
read_error_text OutOfLimits = codes "a number of the body is outside its limits"

abbrev pub write_error_text : WriteError → List ℕ
write_error_text OutputTooShort = codes "the output is too short"
write_error_text NotHeld = codes "a number of the body is outside its limits"
