-- The two ways bytes are written: the output is too short and stays as it is, or takes them at its start.
use Rattle.std.proofs.Common.{◌≡◌, ℕ, ◌<◌, ◌≤◌, List, length, le-ltb, lt-ltb}
use Rattle.fields.specs.Output.{over}
use Rattle.fields.specs.Writing.{outcome, refuse, writing, wrote}

module _ (bytes out : List ℕ) where
  pub writes_none : length out < length bytes → refuse 5 out ≡ writing bytes out
  unfolding writing
  writes_none h = rw (lt-ltb (length out) (length bytes) h)

  pub writes_all : {n : ℕ} {out' : List ℕ} → length bytes ≤ length out → n ≡ length bytes → out' ≡ over bytes out
      → outcome (wrote n) out' ≡ writing bytes out
  unfolding writing
  writes_all h n o = rw (le-ltb (length out) (length bytes) h, n, o)
