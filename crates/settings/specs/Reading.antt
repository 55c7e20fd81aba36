-- What a record means, and when it is refused (document 02, Thirteen: 25 to 28 in this order). Bytes after it are unread.
use Rattle.std.specs.Prelude.{◌≡◌, ℕ, ◌+◌, Bool, false, not, ◌&&◌, ◌||◌, List, [], ◌∷◌, ltb, leb, eqb, length, take, drop, get_or, Result, Ok, Err}
use Rattle.fields.specs.Cases.{◌when◌, first}
use Rattle.fields.specs.Endian.{number}
use Rattle.settings.specs.declared.Settings.{Settings}
use Rattle.settings.specs.declared.Version.{Version}
use Rattle.settings.specs.declared.error.ReadError.{ReadError}
use Rattle.settings.specs.declared.error.ReadError.TheVariants.{UnknownVersion}
use Rattle.settings.specs.Answer.{Answer, settings, refused, refused_version}
use Rattle.settings.specs.Limits.{outside}
use Rattle.settings.specs.Record.{body_length, version_of, widths}

-- the first two bytes, and the third
abbrev pub length_in : List ℕ → ℕ
length_in bytes = number (take 2 bytes)

abbrev pub version_in : List ℕ → ℕ
version_in bytes = get_or bytes 2 0

-- the numbers of so many bytes each
abbrev pub numbers_in : (widths bytes : List ℕ) → List ℕ
numbers_in [] bytes = []
numbers_in (w ∷ ws) bytes = number (take w bytes) ∷ numbers_in ws (drop w bytes)

abbrev pub settings_of : (numbers : List ℕ) → Settings
settings_of ns = record { max_chunk_size = get_or ns 0 0; room = get_or ns 1 0; camera_kind = get_or ns 2 0 }

-- what stands behind the version byte; a kind of no bytes is 0
unfoldable pub settings_in : (version : ℕ) → (bytes : List ℕ) → Settings
settings_in v bytes = settings_of (numbers_in (widths v) (drop 3 bytes))

-- "under 3 bytes, length 0 or under the length plus 2"
abbrev pub short : List ℕ → Bool
short bytes = ltb (length bytes) 3 || (eqb (length_in bytes) 0 || ltb (length bytes) (length_in bytes + 2))

-- 1 to the newest version that a reader knows
abbrev pub known : (newest version : ℕ) → Bool
known newest v = not (eqb v 0) && leb v newest

-- what a number names: the version that has it, where there is one
abbrev pub Names : (number : ℕ) → Result Version ReadError → Type 0
Names n (Ok v) = version_of v ≡ n
Names n (Err e) = (e ≡ UnknownVersion n) × (known 2 n ≡ false)

unfoldable pub reading : (newest : ℕ) → (bytes : List ℕ) → Answer
reading newest bytes =
    first (refused 25 when short bytes
    ∷ refused_version 26 (version_in bytes) when not (known newest (version_in bytes))
    ∷ refused 27 when not (eqb (length_in bytes) (body_length (version_in bytes)))
    ∷ refused 28 when outside (settings_in (version_in bytes) bytes)
    ∷ []) (settings (settings_in (version_in bytes) bytes) (length_in bytes + 2))
