-- What a body means, and when it is refused (document 01, refusals 15 and 16). Bytes after the body are ignored.
use Rattle.std.specs.Prelude.{ℕ, zero, suc, ◌+◌, ◌*◌, Bool, not, cond, ◌&&◌, ◌||◌, List, [], ◌∷◌, ltb, eqb, length, take, drop}
use Rattle.fields.specs.Endian.{number}
use Rattle.fields.specs.Cases.{◌when◌, among, first}
use Rattle.user_control.specs.Answer.{Answer, event, refused}

-- the first two bytes
abbrev pub code_in : List ℕ → ℕ
code_in bytes = number (take 2 bytes)

-- n numbers of four bytes
abbrev pub numbers_in : (n : ℕ) → (bytes : List ℕ) → List ℕ
numbers_in zero bytes = []
numbers_in (suc n) bytes = number (take 4 bytes) ∷ numbers_in n (drop 4 bytes)

-- the codes that an event has
unfoldable pub known : (code : ℕ) → Bool
known c = among c (0 ∷ 1 ∷ 2 ∷ 3 ∷ 4 ∷ 6 ∷ 7 ∷ 31 ∷ 32 ∷ [])

-- how many numbers follow a known code: stream id and buffer length after 3, else one
unfoldable pub count : (code : ℕ) → ℕ
count c = cond (eqb c 3) 2 1

-- "so 6 bytes, or 10 for code 3"
abbrev pub body_length : (code : ℕ) → ℕ
body_length c = 2 + 4 * count c

-- under 2 bytes, or a known code with fewer bytes than it needs
abbrev pub short : List ℕ → Bool
short bytes = ltb (length bytes) 2 || (known (code_in bytes) && ltb (length bytes) (body_length (code_in bytes)))

unfoldable pub reading : List ℕ → Answer
reading bytes =
    first (refused 15 when short bytes ∷ refused 16 when not (known (code_in bytes)) ∷ [])
    (event (code_in bytes) (numbers_in (count (code_in bytes)) (drop 2 bytes)))
