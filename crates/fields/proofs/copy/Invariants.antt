-- The invariant: the first i bytes are copied, and the others are as they were.
use Rattle.std.proofs.Common.{◌≡◌, ◌≤◌, ◌++◌, length, take, drop}
use Rattle.fields.proofs.copy.Given as goal

abbrev pub invariant-loop-i : goal.invariant-loop-i
invariant-loop-i l = (l.i ≤ length l.bytes) × (l.output ≡ take l.i l.bytes ++ drop l.i l.initial.output) × (length l.output ≡ length l.initial.output)
