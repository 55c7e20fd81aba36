-- An answer that can be told from its listing is decided by it, and so any two answers that a promise allows are equal.
use Rattle.std.proofs.Common.{◌≡◌, sym, ap, ◌∙◌}
use Rattle.fields.specs.Deciding.{Decides}

-- a listing from which the answer can be told
pub told_decides : {A B : Type 0} (list : A → B) (tell : B → A) → ((a : A) → tell (list a) ≡ a) → Decides list
told_decides list tell back a b e = sym (back a) ∙ ap tell e ∙ back b

-- two answers of which the same is promised
pub any_two_equal : {A B : Type 0} (list : A → B) → Decides list → (promised : B) (a b : A) → list a ≡ promised → list b ≡ promised → a ≡ b
any_two_equal list decides promised a b p q = decides a b (p ∙ sym q)
