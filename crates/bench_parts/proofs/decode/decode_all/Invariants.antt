-- What is unread of the piece is unread of the input, and each call leaves less of that: there are no more calls than bytes that
-- are read, and one at least where any is.
use Rattle.std.proofs.Common.{◌≤◌, ◌<◌, ◌+◌, length}
use Rattle.bench_parts.proofs.decode.decode_all.Given as goal

abbrev pub invariant-loop-unread : goal.invariant-loop-unread
invariant-loop-unread g l = goal.F-IsAlwaysCallable g l.next_message × (l.left ≤ length l.unread) × (l.tally.calls + length l.unread ≤ length l.fn.input) × (length l.unread < length l.fn.input → 0 < l.tally.calls)

abbrev pub decreases-loop-unread : goal.decreases-loop-unread
decreases-loop-unread g l = length l.unread
