-- How bodies are answered: 15 comes first, and a body that is long enough with its numbers inside their limits is read.
use Rattle.std.proofs.Common.{◌≡◌, ℕ, ◌≤◌, ◌<◌, false, List, length, le-ltb, lt-ltb}
use Rattle.protocol_control.specs.declared.Kind.{Kind}
use Rattle.protocol_control.specs.Answer.{listed, refused}
use Rattle.protocol_control.specs.Body.{body_length}
use Rattle.protocol_control.specs.Limits.{outside}
use Rattle.protocol_control.specs.Reading.{control_in, reading}

-- a short body is, whatever its numbers would be
pub reads_short : (k : Kind) (bytes : List ℕ) → length bytes < body_length k → reading k bytes ≡ refused 15
unfolding reading
reads_short k bytes h = rw (lt-ltb (length bytes) (body_length k) h)

pub reads_control : (k : Kind) (bytes : List ℕ) → body_length k ≤ length bytes → outside (control_in k bytes) ≡ false
    → reading k bytes ≡ listed (control_in k bytes)
unfolding reading
reads_control k bytes enough h = rw (le-ltb (length bytes) (body_length k) enough, h)
