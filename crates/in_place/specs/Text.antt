-- What a refusal is printed as.
use Rattle.std.specs.Prelude.{List, ℕ, ◌++◌, codes, decimal}
use Rattle.in_place.specs.declared.refusal.Refusal.{Refusal}

abbrev pub text_of : Refusal → List ℕ
text_of e = codes "refused " ++ decimal e.number
