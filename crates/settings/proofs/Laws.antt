-- What readers of two versions make of the same bytes: the version byte alone tells them apart.
use Rattle.std.proofs.Common.{◌≡◌, ℕ, ◌<◌, ◌≤◌, false, not, eqb, leb, List, ◌++◌, arith, ne_eqb, le-leb, leb-true}
use mathlib.Core.Bool.{and-eq-true_iff}
use borrow.Author.Tests.{eqb-false, lt-leb, not-true}
use Rattle.fields.specs.Endian.{Bytes}
use Rattle.settings.specs.declared.Settings.{Settings}
use Rattle.settings.specs.Answer.{settings, refused_version}
use Rattle.settings.specs.Reading.{known, reading, short, version_in}
use Rattle.settings.specs.Record.{record_of}
use Rattle.settings.proofs.Inside.{no_kind}
use Rattle.settings.proofs.RoundTrip.{version_written, whole_written, written_read}
use Rattle.settings.proofs.Ways.{reads_unknown}

-- a newer reader answers every version of an older one as that does, its refusals too
pub newer_reads_older : (older newer : ℕ) (bytes : List ℕ) → version_in bytes ≤ older → older ≤ newer → reading newer bytes ≡ reading older bytes
unfolding reading
newer_reads_older older newer bytes h k = rw (le-leb (version_in bytes) older h, le-leb (version_in bytes) newer (omega arith))

-- .. so a reader of version 2 reads version 1 as a reader of version 1 does ..
pub two_reads_one : (bytes : List ℕ) → version_in bytes ≡ 1 → reading 2 bytes ≡ reading 1 bytes
two_reads_one bytes e = newer_reads_older 1 2 bytes (omega arith) (omega arith)

-- .. with kind 0
pub one_has_kind_0 : (newest : ℕ) (bytes : List ℕ) (s : Settings) (used : ℕ) → Bytes bytes → reading newest bytes ≡ settings s used
    → version_in bytes ≡ 1 → s.camera_kind ≡ 0
one_has_kind_0 newest bytes s used B h e = no_kind s (rw e at (written_read newest bytes s used B h).held)

-- a version that is none of a reader's
not_known : (newest version : ℕ) → newest < version → known newest version ≡ false
not_known newest version h = rw (ne_eqb version 0 (omega arith), lt-leb version newest h)

-- an older reader refuses a newer version by name, whatever its length and its numbers
pub refused_by_name : (newest : ℕ) (bytes : List ℕ) → short bytes ≡ false → newest < version_in bytes
    → reading newest bytes ≡ refused_version 26 (version_in bytes)
refused_by_name newest bytes whole h = reads_unknown newest bytes whole (not_known newest (version_in bytes) h)

-- .. so a reader of version 1 each record of version 2
pub one_refuses_two : (s : Settings) (rest : List ℕ) → reading 1 (record_of 2 s ++ rest) ≡ refused_version 26 2
one_refuses_two s rest =
    let version = version_written 2 s rest in
    rw version at (refused_by_name 1 (record_of 2 s ++ rest) (whole_written 2 s rest) (omega arith))

-- and never shows a setting of it
pub never_wrong : (bytes : List ℕ) (s : Settings) (used : ℕ) → Bytes bytes → reading 1 bytes ≡ settings s used → version_in bytes ≡ 1
never_wrong bytes s used B h =
    let v = version_in bytes in
    let both = (and-eq-true_iff (not (eqb v 0)) (leb v 1)).0 (written_read 1 bytes s used B h).knows in
    let least = eqb-false v 0 (not-true (eqb v 0) both.0) in
    let most = leb-true v 1 both.1 in
    omega arith
