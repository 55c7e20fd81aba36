-- The walk goes forward through the input that it has.
use Rattle.std.proofs.Common.{◌≡◌, ◌≤◌}
use Rattle.test_calls.proofs.walk.Walk.next_message.Given as goal

abbrev pub invariant-loop : goal.invariant-loop
invariant-loop l = (l.fn.self.used ≤ l.self.used) × (l.self.input.now ≡ l.fn.self.input.now)
