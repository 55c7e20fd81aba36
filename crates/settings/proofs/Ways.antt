-- How whole records are answered: an unknown version before all else, and settings after every test.
use Rattle.std.proofs.Common.{◌≡◌, ℕ, ◌+◌, true, false, List, eq-eqb}
use Rattle.settings.specs.Answer.{settings, refused_version}
use Rattle.settings.specs.Limits.{outside}
use Rattle.settings.specs.Reading.{known, length_in, reading, settings_in, short, version_in}
use Rattle.settings.specs.Record.{body_length}

module _ (newest : ℕ) (bytes : List ℕ) (whole : short bytes ≡ false) where
  pub reads_unknown : known newest (version_in bytes) ≡ false → reading newest bytes ≡ refused_version 26 (version_in bytes)
  unfolding reading
  reads_unknown h = rw (whole, h)

  pub reads_settings : known newest (version_in bytes) ≡ true → length_in bytes ≡ body_length (version_in bytes)
      → outside (settings_in (version_in bytes) bytes) ≡ false → reading newest bytes ≡ settings (settings_in (version_in bytes) bytes) (length_in bytes + 2)
  unfolding reading
  reads_settings knows exact h = rw (whole, knows, eq-eqb (length_in bytes) (body_length (version_in bytes)) exact, h)
