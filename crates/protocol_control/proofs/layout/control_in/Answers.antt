-- Each number is of four bytes at most, so nothing of it is lost.
use Rattle.std.proofs.Common.{◌≡◌, ℕ, ◌%◌, ◌^◌, List, take, drop, ◌∙◌, arith}
use Rattle.fields.specs.Endian.{number, Bytes}
use Rattle.fields.proofs.Lists.{part_fits}
use Rattle.protocol_control.specs.Reading.{four}
use Rattle.protocol_control.proofs.layout.control_in.Goals as goal

-- the number of the first four bytes, as it is read
read : (bytes : List ℕ) → Bytes bytes → (n : ℕ) → n ≡ number (take 4 (drop 0 bytes)) % 2 ^ 32 → n ≡ four bytes
read bytes B n e = e ∙ part_fits bytes B 0 4 (omega arith)

pub returns-in-SetChunkSize : goal.returns-in-SetChunkSize
returns-in-SetChunkSize c = rw (c.in-SetChunkSize.is, read c.args.bytes.now (λ i. omega (arith, c.type_inv.bytes i)) _ c.number_at-number.ensures)

pub returns-in-Abort : goal.returns-in-Abort
returns-in-Abort c = rw (c.in-Abort.is, read c.args.bytes.now (λ i. omega (arith, c.type_inv.bytes i)) _ c.number_at-number.ensures)

pub returns-in-Acknowledgement : goal.returns-in-Acknowledgement
returns-in-Acknowledgement c = rw (c.in-Acknowledgement.is, read c.args.bytes.now (λ i. omega (arith, c.type_inv.bytes i)) _ c.number_at-number.ensures)

pub returns-in-WindowAcknowledgement : goal.returns-in-WindowAcknowledgement
returns-in-WindowAcknowledgement c = rw (c.in-WindowAcknowledgement.is, read c.args.bytes.now (λ i. omega (arith, c.type_inv.bytes i)) _ c.number_at-number.ensures)

pub returns-in-SetPeerBandwidth : goal.returns-in-SetPeerBandwidth
returns-in-SetPeerBandwidth c =
    let bytes = c.args.bytes.now in
    let B : Bytes bytes = λ i. omega (arith, c.type_inv.bytes i) in
    rw (c.in-SetPeerBandwidth.is, read bytes B _ c.number_at-number.ensures, c.number_at.ensures, part_fits bytes B 4 1 (omega arith))
