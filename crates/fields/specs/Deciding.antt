-- When a promise decides its answer: a promise says what the answer's listing is, so the listing must come from one answer alone.
use Rattle.std.specs.Prelude.{◌≡◌}

abbrev pub Decides : {A B : Type 0} → (A → B) → Type 0
Decides {A} {B} list = (a b : A) → list a ≡ list b → a ≡ b
