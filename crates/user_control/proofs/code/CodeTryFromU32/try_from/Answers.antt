-- A number that is none of the nine names no code.
use Rattle.std.proofs.Common.{refl, arith}
use Rattle.user_control.proofs.Codes.{unknown_other}
use Rattle.user_control.proofs.code.CodeTryFromU32.try_from.Goals as goal

pub returns-in_default : goal.returns-in_default
returns-in_default c =
    (refl, unknown_other c.args.number (omega arith) (omega arith) (omega arith) (omega arith) (omega arith) (omega arith) (omega arith) (omega arith) (omega arith))
