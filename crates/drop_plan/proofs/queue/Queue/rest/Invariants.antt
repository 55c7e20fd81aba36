-- The invariant: the first of the array are those of the places before `place` that stay, and 0 stands behind them.
use Rattle.std.proofs.Common.{◌≡◌, ◌≤◌, take}
use Rattle.drop_plan.specs.Places.{Filled}
use Rattle.drop_plan.specs.Plan.{staying}
use Rattle.drop_plan.specs.Queue.{places_from, those}
use Rattle.drop_plan.proofs.queue.Queue.rest.Given as goal

abbrev pub invariant-loop-place : goal.invariant-loop-place
invariant-loop-place l = record {
  few : l.count ≤ l.place;
  filled : Filled l.count l.array;
  kept : take l.count l.array ≡ those (staying l.self.marks l.start) (places_from 0 l.place);
}
