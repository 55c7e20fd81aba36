-- Numbers as bytes (Adobe 4: most significant first, "unless said otherwise").
use Rattle.std.specs.Prelude.{ℕ, zero, suc, ◌+◌, ◌*◌, ◌/◌, ◌%◌, ◌^◌, ◌<◌, List, [], ◌∷◌, get_or}

-- the last n bytes of x, most significant first
unfoldable pub big_endian : (n x : ℕ) → List ℕ
big_endian zero x = []
big_endian (suc n) x = x / 256 ^ n % 256 ∷ big_endian n x

-- the last n bytes of x, least significant first
unfoldable pub little_endian : (n x : ℕ) → List ℕ
little_endian zero x = []
little_endian (suc n) x = x % 256 ∷ little_endian n (x / 256)

-- the number that bytes mean, most significant first, after what was gathered before them
unfoldable pub gather : (before : ℕ) → (bytes : List ℕ) → ℕ
gather before [] = before
gather before (b ∷ bs) = gather (before * 256 + b) bs

abbrev pub number : List ℕ → ℕ
number bs = gather 0 bs

-- the number of the same four bytes in the other order
abbrev pub swapped : (n : ℕ) → ℕ
swapped n = number (little_endian 4 n)

-- every element is a byte
abbrev pub Bytes : List ℕ → Type 0
Bytes bs = (i : ℕ) → get_or bs i 0 < 256
