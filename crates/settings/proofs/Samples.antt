-- The definitions at small records, computed: each refusal at its edge, and what each reader makes of each version.
use Rattle.std.proofs.Common.{◌≡◌, ℕ, List, [], ◌∷◌, ◌++◌, refl}
use Rattle.fields.specs.Endian.{big_endian, gather}
use Rattle.fields.specs.Writing.{refuse, writing}
use Rattle.settings.specs.declared.Settings.{Settings}
use Rattle.settings.specs.Answer.{settings, refused, refused_version}
use Rattle.settings.specs.Limits.{holds, outside}
use Rattle.settings.specs.Reading.{reading, settings_in}
use Rattle.settings.specs.Record.{record_of}
use Rattle.settings.specs.Storing.{storing}

abbrev bank : (size room kind : ℕ) → Settings
bank size room kind = record { max_chunk_size = size; room = room; camera_kind = kind }

-- a chunk size of 4096 and a room of 65536, in both versions
abbrev one : List ℕ
one = 0 ∷ 9 ∷ 1 ∷ 0 ∷ 0 ∷ 16 ∷ 0 ∷ 0 ∷ 1 ∷ 0 ∷ 0 ∷ []

abbrev two : (kind : ℕ) → List ℕ
two kind = 0 ∷ 10 ∷ 2 ∷ 0 ∷ 0 ∷ 16 ∷ 0 ∷ 0 ∷ 1 ∷ 0 ∷ 0 ∷ kind ∷ []

pub written : (record_of 1 (bank 4096 65536 0) ∷ record_of 2 (bank 4096 65536 0) ∷ record_of 2 (bank 4096 65536 1) ∷ []) ≡ (one ∷ two 0 ∷ two 1 ∷ [])
unfolding record_of big_endian
written = refl

pub both_readers :
    (reading 1 one ∷ reading 2 (one ++ (7 ∷ [])) ∷ reading 2 (two 1) ∷ reading 1 (two 1) ∷ reading 2 (two 2) ∷ [])
    ≡ (settings (bank 4096 65536 0) 11
    ∷ settings (bank 4096 65536 0) 11
    ∷ settings (bank 4096 65536 1) 12
    ∷ refused_version 26 2
    ∷ refused 28
    ∷ [])
unfolding reading settings_in outside gather
both_readers = refl

-- a version byte alone is whole, and no record; the length does not count itself; a version is judged before its length
pub edges :
    (reading 2 (0 ∷ 1 ∷ []) ∷ reading 2 (0 ∷ 0 ∷ 1 ∷ []) ∷ reading 2 (0 ∷ 2 ∷ 1 ∷ []) ∷ reading 2 (0 ∷ 1 ∷ 1 ∷ []) ∷ reading 2 (0 ∷ 1 ∷ 3 ∷ []) ∷ reading 1 (0 ∷ 1 ∷ 0 ∷ []) ∷ [])
    ≡ (refused 25 ∷ refused 25 ∷ refused 25 ∷ refused 27 ∷ refused_version 26 3 ∷ refused_version 26 0 ∷ [])
unfolding reading settings_in outside gather
edges = refl

-- 28 before 5, and a kind that version 1 has no place for
pub stored :
    (storing 1 (bank 4096 65536 1) [] ∷ storing 1 (bank 0 65536 0) [] ∷ storing 1 (bank 4096 65536 0) [] ∷ [])
    ≡ (refuse 28 [] ∷ refuse 28 [] ∷ refuse 5 [] ∷ [])
unfolding storing holds outside writing record_of big_endian
stored = refl
