-- The first bytes, and the others straight after them, are the payload.
use Rattle.std.proofs.Common.{◌≡◌, ℕ, ◌+◌, ◌-◌, ◌%◌, ◌≤◌, List, length, take, drop, ap, ◌∙◌, arith, length-take, length-drop, take-append-drop, take_all}
use Rattle.fields.specs.Output.{stored}
use Rattle.fields.proofs.Lists.{stored_append}
use Rattle.serializer.proofs.cursor.put_payload.Goals as goal

-- a payload cut at a place, and stored in two parts
in_two : (out p : List ℕ) (at k : ℕ) → k ≤ length p → at + length p ≤ length out
    → stored (stored out at (take k p)) (at + k) (take (length p - k) (drop k p)) ≡ stored out at p
in_two out p at k less fits =
    let whole : take (length p - k) (drop k p) ≡ drop k p = take_all (length p - k) (drop k p) (rw length-drop (omega arith)) in
    let first : length (take k p) ≡ k = rw length-take (omega arith) in
    rw whole
    (stored_append out (take k p) (drop k p) at (at + k) (rw first) (rw length-drop (omega arith)) ∙ ap (stored out at) (take-append-drop k p))

-- what is stored at a place, where that place is the one after the first part
put_after : {out' : List ℕ} (out rest : List ℕ) (place next : ℕ) → out' ≡ stored out place rest → place ≡ next → out' ≡ stored out next rest
put_after out rest place next put same = put ∙ ap (λ n. stored out n rest) same

pub returns-else-payload-lt512 : goal.returns-else-payload-lt512
returns-else-payload-lt512 c =
    let a = c.args in
    let k = 16 - a.at % 16 in
    let rest = take (length a.payload.now - k) (drop k a.payload.now) in
    let less : k ≤ length a.payload.now = omega (arith, c.if-payload-lt512.false) in
    put_after _ rest _ (a.at + k) c.put_bytes-else-payload-lt512-2.ensures (omega arith)
    ∙ ap (λ (o : List ℕ). stored o (a.at + k) rest) c.put_bytes-else-payload-lt512.ensures
    ∙ in_two a.output.now a.payload.now a.at k less c.requires
