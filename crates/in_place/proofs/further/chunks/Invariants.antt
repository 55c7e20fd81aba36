-- The invariant says nothing of the past: the chunks so far are taken, and the rest of the run is the whole run.
use Rattle.std.proofs.Common.{◌-◌, ◌≡◌, length}
use Rattle.in_place.specs.Follow.{Goes}
use Rattle.in_place.proofs.further.chunks.Given as goal

abbrev pub invariant-loop-at : goal.invariant-loop-at
invariant-loop-at l =
    Goes (record { got = l.got; at = l.at }) l.size l.id l.length l.come l.input l.start l.initial.payload l.payload
    × (length l.payload ≡ length l.initial.payload)

abbrev pub decreases-loop-at : goal.decreases-loop-at
decreases-loop-at l = length l.input - l.at
