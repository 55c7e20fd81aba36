-- Past the end there is no byte; else it is the bytes that are asked for, or those that are left.
use Rattle.std.proofs.Common.{ℕ, ◌≤◌, length, ⊎_elim, arith, drop_of_length-le}
use lib.Seq.{take-nil}
use Rattle.fields.specs.Endian.{gather}
use Rattle.fields.proofs.number_at.Goals as goal

pub returns-in_default : goal.returns-in_default
unfolding gather
returns-in_default c =
    let a = c.args in
    let past : length a.bytes.now ≤ a.at = ⊎_elim (λ h. omega (arith, h)) (λ h. omega (arith, h)) c.in_default.ensures.lookup.0 in
    rw (drop_of_length-le a.bytes.now {i = a.at} past, take-nil {A = ℕ} a.width)
