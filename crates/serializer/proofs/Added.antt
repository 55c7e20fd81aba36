-- Bytes added at a cursor, one run straight after the other.
use Rattle.std.proofs.Common.{◌≡◌, ℕ, ◌≤◌, ◌+◌, List, [], ◌++◌, length, refl, ◌∙◌}
use Rattle.fields.proofs.Lists.{adds_none, adds_same, adds_then}
use Rattle.serializer.specs.declared.cursor.Cursor.{Cursor}
use Rattle.serializer.specs.Cursor.{Added}

pub added_none : (c : Cursor) → Added c [] c
added_none c = record { same = refl; whole = refl; adds = adds_none c.output.now c.at }

pub added_same : {c c' : Cursor} {xs ys : List ℕ} → xs ≡ ys → Added c xs c' → Added c ys c'
added_same {c} {c'} {xs} {ys} e a = record { same = a.same; whole = a.whole; adds = adds_same e a.adds }

pub added_then : {c c' c'' : Cursor} (xs ys : List ℕ) → Added c xs c' → Added c' ys c'' → c'.at + length ys ≤ length c.output.now → Added c (xs ++ ys) c''
added_then {c} {c'} {c''} xs ys a b h = record { same = b.same ∙ a.same; whole = b.whole ∙ a.whole; adds = adds_then c.output.now xs ys a.adds b.adds h }
