-- The group's laws are arithmetic modulo 2 ^ 32, and the distance is negated as its plain difference is.
use Rattle.std.proofs.Common.{arith}
use Rattle.time.specs.Group.{ClockLaws}
use Rattle.time.proofs.DistanceLaws.{distance_swapped}
use Rattle.time.proofs.Laws.{sum_assoc, sum_zero}

pub clock_laws : ClockLaws
clock_laws =
    record {
      group =
          record {
            closed = λ a b h k. omega arith;
            associative = λ a b c h k l. sum_assoc a b c;
            neutral_member = omega arith;
            neutral_left = λ a h. omega arith;
            neutral_right = sum_zero;
            inverse_member = λ a h. omega arith;
            inverse_left = λ a h. omega arith;
            inverse_right = λ a h. omega arith;
          };
      swapped = λ a b h k. distance_swapped a b;
    }
