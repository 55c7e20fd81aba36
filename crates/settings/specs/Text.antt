-- What each refusal is printed as; an unknown version with its number.
use Rattle.std.specs.Prelude.{ℕ, List, ◌++◌, codes}
use Rattle.std.specs.Fmt.{decimal}
use Rattle.settings.specs.declared.error.ReadError.{ReadError}
use Rattle.settings.specs.declared.error.ReadError.TheVariants.{TooShort, UnknownVersion, WrongLength, OutOfLimits}
use Rattle.settings.specs.declared.error.WriteError.{WriteError}
use Rattle.settings.specs.declared.error.WriteError.TheVariants.{OutputTooShort, OutOfLimits as NotHeld}

abbrev pub read_error_text : ReadError → List ℕ
read_error_text TooShort = codes "the record is too short"
read_error_text (UnknownVersion v) = codes "version " ++ decimal v ++ codes " is unknown"
read_error_text WrongLength = codes "the length is not the version's"
read_error_text OutOfLimits = codes "a number of the record is outside its limits"

abbrev pub write_error_text : WriteError → List ℕ
write_error_text OutputTooShort = codes "the output is too short"
write_error_text NotHeld = codes "the version cannot hold the settings"
