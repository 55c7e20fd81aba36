-- A sample: what a definition gives, beside what the document prints.
use Rattle.std.specs.Prelude.{ℕ, List, map, ◌≡◌}

infix 70 ◌is◌
pub data Sample : Type 0 where
  ◌is◌ : List ℕ → List ℕ → Sample

abbrev pub given : Sample → List ℕ
given (a is b) = a

abbrev pub printed : Sample → List ℕ
printed (a is b) = b

-- every sample of a table is as printed
abbrev pub AsPrinted : List Sample → Type 0
AsPrinted table = map given table ≡ map printed table
