-- A refusal keeps the reader and the table; any other step is stored as it is.
use Rattle.std.proofs.Common.{ap, ◌∙◌, ℕ, []}
use Rattle.decoding.specs.Decoder.{Decoder}
use Rattle.held.specs.Done.{shut_with}
use Rattle.held.specs.Numbers.{encode, meant}
use Rattle.header_in_place.specs.Byte.{step_in}
use Rattle.header_in_place.proofs.Keeping.{kept_lent, refused_lent}
use Rattle.header_in_place.proofs.taking.take_byte.Goals as goal

pub returns-in-Ok : goal.returns-in-Ok
returns-in-Ok c =
    let a = c.args in
    let h = c.held_in-h in
    rw (c.numbers_of.ensures, c.put_at.ensures)
    (kept_lent a.held.now a.rows.now h.result h.ensures (λ (d : Decoder). step_in d a.byte) c.in-Ok.done c.in-Ok.ensures)

pub returns-in-Err : goal.returns-in-Err
returns-in-Err c =
    let a = c.args in
    let h = c.held_in-h in
    let numbers = c.numbers_of-in-Err.ensures ∙ ap (λ (d : Decoder). encode d) c.shut.ensures ∙ ap (λ (n : ℕ). encode (shut_with (meant h.result []) n)) c.number.ensures in
    rw numbers (refused_lent a.held.now a.rows.now h.result h.ensures (λ (d : Decoder). step_in d a.byte) c.in-Err.refusal c.in-Err.ensures)
