-- A chunk on the wire (Adobe 5.3.1): basic header, message header, extended timestamp, data.
use Rattle.std.specs.Prelude.{ℕ, ◌+◌, ◌-◌, ◌*◌, ◌^◌, ◌≤◌, ◌<◌, List, [], ◌∷◌, ◌++◌}
use Rattle.fields.specs.Endian.{big_endian, little_endian}

-- the three basic header forms (5.3.1.1): ids 2 to 63, 64 to 319, and 64 to 65599
pub data Form : Type 0 where
  one : Form
  two : Form
  three : Form

-- the message header of each chunk type (5.3.1.2); a time or a delta is its 24-bit field
pub data Header : Type 0 where
  type0 : (time length type stream : ℕ) → Header
  type1 : (delta length type : ℕ) → Header
  type2 : (delta : ℕ) → Header
  type3 : Header

-- the extended timestamp (5.3.1.3)
pub data Extended : Type 0 where
  absent : Extended
  present : ℕ → Extended

pub record Chunk : Type 0 where
  pub form : Form
  pub id : ℕ
  pub header : Header
  pub extended : Extended
  pub payload : List ℕ

-- the ids that each basic header form can say (Adobe 5.3.1.1)
abbrev pub FormFits : Form → ℕ → Type 0
FormFits one id = (2 ≤ id) × (id ≤ 63)
FormFits two id = (64 ≤ id) × (id ≤ 319)
FormFits three id = (64 ≤ id) × (id ≤ 65599)

-- each number of a header fits its field
abbrev pub HeaderFits : Header → Type 0
HeaderFits (type0 time length type stream) = (time < 2 ^ 24) × (length < 2 ^ 24) × (type < 2 ^ 8) × (stream < 2 ^ 32)
HeaderFits (type1 delta length type) = (delta < 2 ^ 24) × (length < 2 ^ 24) × (type < 2 ^ 8)
HeaderFits (type2 delta) = delta < 2 ^ 24
HeaderFits type3 = Unit {0}

-- the two high bits of the first byte
abbrev pub format : Header → ℕ
format (type0 time length type stream) = 0
format (type1 delta length type) = 1
format (type2 delta) = 2
format type3 = 3

-- the low six bits are the id, or 0 or 1 for the longer forms
abbrev pub basic_bytes : Form → (fmt id : ℕ) → List ℕ
basic_bytes one fmt id = (64 * fmt + id) ∷ []
basic_bytes two fmt id = (64 * fmt + 0) ∷ (id - 64) ∷ []
basic_bytes three fmt id = (64 * fmt + 1) ∷ little_endian 2 (id - 64)

abbrev pub header_bytes : Header → List ℕ
header_bytes (type0 time length type stream) = big_endian 3 time ++ big_endian 3 length ++ big_endian 1 type ++ little_endian 4 stream
header_bytes (type1 delta length type) = big_endian 3 delta ++ big_endian 3 length ++ big_endian 1 type
header_bytes (type2 delta) = big_endian 3 delta
header_bytes type3 = []

abbrev pub extended_bytes : Extended → List ℕ
extended_bytes absent = []
extended_bytes (present time) = big_endian 4 time

unfoldable pub chunk_bytes : Chunk → List ℕ
chunk_bytes c = basic_bytes c.form (format c.header) c.id ++ header_bytes c.header ++ extended_bytes c.extended ++ c.payload
