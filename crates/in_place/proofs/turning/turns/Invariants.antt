-- The invariant says nothing of the past: the rest of the run is the whole run; and after a turn the numbers are those that
-- stand for what they mean.
use Rattle.std.proofs.Common.{◌-◌, ◌≤◌, ◌≡◌, ◌≢◌, drop, get_or, length}
use Rattle.decoding.specs.Call.{run}
use Rattle.held.specs.Numbers.{again, decode}
use Rattle.in_place.proofs.turning.turns.Given as goal

abbrev pub invariant-loop-at : goal.invariant-loop-at
invariant-loop-at l =
    (l.at ≤ length l.input)
    × (length l.payload ≡ length l.initial.payload)
    × (get_or l.held 0 0 ≤ length l.initial.payload)
    × (l.at ≢ 0 → l.held ≡ again l.held)
    × (run l.input (decode l.initial.held l.initial.rows) l.initial.payload 0 ≡ run (drop l.at l.input) (decode l.held l.rows) l.payload l.at)

abbrev pub decreases-loop-at : goal.decreases-loop-at
decreases-loop-at l = length l.input - l.at
