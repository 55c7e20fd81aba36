-- Both listings decide their answers, since these can be told from them.
use Rattle.std.proofs.Common.{◌≡◌, ℕ, cond, eqb, List, get_or, Ok, Err, Result, refl}
use Rattle.fields.specs.Deciding.{Decides}
use Rattle.fields.specs.Writing.{Wrote, wrote}
use Rattle.fields.specs.Writing.{refused as not_written}
use Rattle.fields.proofs.Deciding.{told_decides}
use Rattle.user_control.specs.declared.UserControlEvent.{UserControlEvent}
use Rattle.user_control.specs.declared.UserControlEvent.TheVariants.{StreamBegin, StreamEof, StreamDry, SetBufferLength, StreamIsRecorded, PingRequest, PingResponse, BufferEmpty, BufferReady}
use Rattle.user_control.specs.declared.error.ReadError.{ReadError}
use Rattle.user_control.specs.declared.error.ReadError.TheVariants.{BodyTooShort, UnknownCode}
use Rattle.user_control.specs.declared.error.WriteError.{WriteError}
use Rattle.user_control.specs.declared.error.WriteError.TheVariants.{OutputTooShort}
use Rattle.user_control.specs.Answer.{Answer, event, refused, read_answer, write_answer}

-- the event of a code and its numbers
abbrev told : ℕ → List ℕ → UserControlEvent
told c ns =
    let n = get_or ns 0 0 in
    cond (eqb c 0) (StreamBegin n)
    (cond (eqb c 1) (StreamEof n)
    (cond (eqb c 2) (StreamDry n)
    (cond (eqb c 3) (SetBufferLength n (get_or ns 1 0))
    (cond (eqb c 4) (StreamIsRecorded n)
    (cond (eqb c 6) (PingRequest (record { value = n }))
    (cond (eqb c 7) (PingResponse (record { value = n }))
    (cond (eqb c 31) (BufferEmpty n)
    (BufferReady n))))))))

abbrev read : Answer → Result UserControlEvent ReadError
read (event c ns) = Ok (told c ns)
read (refused k) = cond (eqb k 15) (Err BodyTooShort) (Err UnknownCode)

told_read : (e : UserControlEvent) → read (read_answer (Ok e)) ≡ Ok e
told_read (StreamBegin s) = refl
told_read (StreamEof s) = refl
told_read (StreamDry s) = refl
told_read (SetBufferLength s l) = refl
told_read (StreamIsRecorded s) = refl
told_read (PingRequest t) = refl
told_read (PingResponse t) = refl
told_read (BufferEmpty s) = refl
told_read (BufferReady s) = refl

read_back : (r : Result UserControlEvent ReadError) → read (read_answer r) ≡ r
read_back (Ok e) = told_read e
read_back (Err BodyTooShort) = refl
read_back (Err UnknownCode) = refl

pub read_decides : Decides read_answer
read_decides = told_decides read_answer read read_back

-- what was written
abbrev written : Wrote → Result ℕ WriteError
written (wrote n) = Ok n
written (not_written k) = Err OutputTooShort

written_back : (r : Result ℕ WriteError) → written (write_answer r) ≡ r
written_back (Ok n) = refl
written_back (Err OutputTooShort) = refl

pub write_decides : Decides write_answer
write_decides = told_decides write_answer written written_back
