-- The listings decide their answers, since these can be told from them.
use Rattle.std.proofs.Common.{◌≡◌, ℕ, cond, eqb, List, get_or, Ok, Err, Result, refl}
use Rattle.fields.specs.Deciding.{Decides}
use Rattle.fields.specs.Writing.{Wrote, wrote}
use Rattle.fields.specs.Writing.{refused as not_written}
use Rattle.fields.proofs.Deciding.{told_decides}
use Rattle.protocol_control.specs.declared.error.ReadError.{ReadError}
use Rattle.protocol_control.specs.declared.error.ReadError.TheVariants.{BodyTooShort, OutOfLimits}
use Rattle.protocol_control.specs.declared.error.WriteError.{WriteError}
use Rattle.protocol_control.specs.declared.error.WriteError.TheVariants.{OutputTooShort, OutOfLimits as NotHeld}
use Rattle.protocol_control.specs.declared.ProtocolControl.{ProtocolControl}
use Rattle.protocol_control.specs.declared.ProtocolControl.TheVariants.{SetChunkSize, Abort, Acknowledgement, WindowAcknowledgement, SetPeerBandwidth}
use Rattle.protocol_control.specs.Answer.{Answer, control, refused, listed, read_answer, write_answer}

-- the body of a message type and its numbers
abbrev told : ℕ → List ℕ → ProtocolControl
told t ns =
    let n = get_or ns 0 0 in
    cond (eqb t 1) (SetChunkSize n)
    (cond (eqb t 2) (Abort n)
    (cond (eqb t 3) (Acknowledgement n)
    (cond (eqb t 5) (WindowAcknowledgement n)
    (SetPeerBandwidth n (get_or ns 1 0)))))

abbrev said : Answer → ProtocolControl
said (control t ns) = told t ns
said (refused k) = SetChunkSize 0

said_back : (c : ProtocolControl) → said (listed c) ≡ c
said_back (SetChunkSize size) = refl
said_back (Abort stream) = refl
said_back (Acknowledgement sequence) = refl
said_back (WindowAcknowledgement size) = refl
said_back (SetPeerBandwidth size limit) = refl

pub listed_decides : Decides listed
listed_decides = told_decides listed said said_back

abbrev read : Answer → Result ProtocolControl ReadError
read (control t ns) = Ok (told t ns)
read (refused k) = cond (eqb k 15) (Err BodyTooShort) (Err OutOfLimits)

told_read : (c : ProtocolControl) → read (read_answer (Ok c)) ≡ Ok c
told_read (SetChunkSize size) = refl
told_read (Abort stream) = refl
told_read (Acknowledgement sequence) = refl
told_read (WindowAcknowledgement size) = refl
told_read (SetPeerBandwidth size limit) = refl

read_back : (r : Result ProtocolControl ReadError) → read (read_answer r) ≡ r
read_back (Ok c) = told_read c
read_back (Err BodyTooShort) = refl
read_back (Err OutOfLimits) = refl

pub read_decides : Decides read_answer
read_decides = told_decides read_answer read read_back

abbrev written : Wrote → Result ℕ WriteError
written (wrote n) = Ok n
written (not_written k) = cond (eqb k 16) (Err NotHeld) (Err OutputTooShort)

written_back : (r : Result ℕ WriteError) → written (write_answer r) ≡ r
written_back (Ok n) = refl
written_back (Err NotHeld) = refl
written_back (Err OutputTooShort) = refl

pub write_decides : Decides write_answer
write_decides = told_decides write_answer written written_back
