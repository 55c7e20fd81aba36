-- A message goes on one of the chunk streams 2 to 6.
use Rattle.std.proofs.Common.{ℕ, ◌≤◌, Bool, true, false, ◌&&◌, ◌||◌, cond, leb, eqb, lit≤}
use Rattle.serializer.specs.Message.{chunk_stream}

pub stream_range : (type : ℕ) → (2 ≤ chunk_stream type) × (chunk_stream type ≤ 6)
unfolding chunk_stream
stream_range type = go (leb 1 type && leb type 6) (eqb type 18 || eqb type 19) (eqb type 9) (eqb type 8)
  where
    go : (a b c d : Bool) → (2 ≤ cond a 2 (cond b 3 (cond c 4 (cond d 5 6)))) × (cond a 2 (cond b 3 (cond c 4 (cond d 5 6))) ≤ 6)
    go true b c d = (lit≤ tt, lit≤ tt)
    go false true c d = (lit≤ tt, lit≤ tt)
    go false false true d = (lit≤ tt, lit≤ tt)
    go false false false true = (lit≤ tt, lit≤ tt)
    go false false false false = (lit≤ tt, lit≤ tt)
