-- The invariant: the search from the start is the search from `start`, and `left` is what the rest adds up to there.
use Rattle.std.proofs.Common.{◌-◌, ◌≡◌}
use Rattle.drop_plan.specs.Plan.{rest, until}
use Rattle.drop_plan.specs.Queue.{size, total}
use Rattle.drop_plan.proofs.queue.Queue.first_to_stay.Given as goal

abbrev pub invariant-loop-start : goal.invariant-loop-start
invariant-loop-start l =
    let q = l.self in
    (l.left ≡ total q.lengths (rest q l.start)) × (until (size q) q l.limit 0 ≡ until (size q - l.start) q l.limit l.start)
