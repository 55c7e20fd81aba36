-- The invariant: the code and the numbers passed so far stand at the start of the output, and the rest is as it was.
use Rattle.std.proofs.Common.{◌≡◌, take}
use Rattle.fields.specs.Output.{over}
use Rattle.user_control.specs.Body.{body_of}
use Rattle.user_control.specs.Code.{number_of}
use Rattle.user_control.proofs.write.write_numbers.Given as goal

abbrev pub invariant-loop-i : goal.invariant-loop-i
invariant-loop-i l = l.output ≡ over (body_of (number_of l.fn.code) (take l.i l.numbers)) l.fn.output
