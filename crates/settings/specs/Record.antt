-- A record of settings (document 02, Thirteen): "a two-byte big-endian length of what follows, one version byte, then fields".
use Rattle.std.specs.Prelude.{ℕ, ◌+◌, List, [], ◌∷◌, ◌++◌, get_or}
use Rattle.fields.specs.Endian.{big_endian}
use Rattle.settings.specs.declared.Settings.{Settings}
use Rattle.settings.specs.declared.Version.{Version}
use Rattle.settings.specs.declared.Version.TheVariants.{One, Two}

abbrev pub version_of : Version → ℕ
version_of One = 1
version_of Two = 2

-- "chunk size (4 bytes) and room (4 bytes)"; version 2 "adds the camera kind (1 byte)", for which version 1 has none
abbrev pub kind_width : (version : ℕ) → ℕ
kind_width v = get_or (0 ∷ 0 ∷ 1 ∷ []) v 0

abbrev pub widths : (version : ℕ) → List ℕ
widths v = 4 ∷ 4 ∷ kind_width v ∷ []

-- the settings in that order
abbrev pub numbers : Settings → List ℕ
numbers s = s.max_chunk_size ∷ s.room ∷ s.camera_kind ∷ []

abbrev pub total : List ℕ → ℕ
total [] = 0
total (n ∷ ns) = n + total ns

-- "the length of what follows": the version byte and the fields, so 9 and 10
abbrev pub body_length : (version : ℕ) → ℕ
body_length v = 1 + total (widths v)

-- each number in so many bytes, one after the other
abbrev pub laid : (widths numbers : List ℕ) → List ℕ
laid [] ns = []
laid (w ∷ ws) [] = []
laid (w ∷ ws) (n ∷ ns) = big_endian w n ++ laid ws ns

unfoldable pub record_of : (version : ℕ) → Settings → List ℕ
record_of v s = big_endian 2 (body_length v) ++ (v ∷ laid (widths v) (numbers s))
