-- Parts of bytes, for the test tools; document 01 says nothing of them.
use Rattle.std.specs.Prelude.{ℕ, ◌-◌, cond, List, [], ltb, length, take, drop}

-- the bytes from a place up to another; none where they are not all there
unfoldable pub part_of : List ℕ → ℕ → ℕ → List ℕ
part_of bytes from to = cond (ltb to from) [] (cond (ltb (length bytes) to) [] (take (to - from) (drop from bytes)))
