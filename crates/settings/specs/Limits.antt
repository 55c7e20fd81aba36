-- What settings may be: document 01's limits of a chunk size and a room, and a kind of 0 or 1.
use Rattle.std.specs.Prelude.{ℕ, ◌^◌, Bool, true, not, ◌&&◌, ◌||◌, List, [], ◌∷◌, ltb, eqb}
use Rattle.chunk_header.specs.Limits.{max_length, max_size}
use Rattle.settings.specs.declared.Settings.{Settings}
use Rattle.settings.specs.Record.{numbers, widths}

-- a chunk size of 0 or over 2147483647, a room of 0 or over the longest message, a kind over 1
unfoldable pub outside : Settings → Bool
outside s =
    eqb s.max_chunk_size 0 || (ltb max_size s.max_chunk_size
    || (eqb s.room 0 || (ltb max_length s.room || ltb 1 s.camera_kind)))

-- each number can be said in so many bytes: in none only 0
abbrev pub fit : (widths numbers : List ℕ) → Bool
fit [] ns = true
fit (w ∷ ws) [] = true
fit (w ∷ ws) (n ∷ ns) = ltb n (256 ^ w) && fit ws ns

-- the version can hold the settings
unfoldable pub holds : (version : ℕ) → Settings → Bool
holds v s = not (outside s) && fit (widths v) (numbers s)
