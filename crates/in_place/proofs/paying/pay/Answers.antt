-- The bytes that the input and the chunk have are stored, and what they settle is the definition's by one law.
use Rattle.std.proofs.Common.{ℕ, ◌-◌, min, ◌≡◌, ap, ◌∙◌, length, take, Ok, arith}
use Rattle.fields.specs.Output.{stored}
use Rattle.byte_machine.specs.Payload.{landed}
use Rattle.byte_machine.specs.Reader.{Stepped}
use Rattle.decoding.specs.Decoder.{Decoder}
use Rattle.held.specs.declared.numbers.Held.{Held}
use Rattle.header_in_place.specs.Byte.{Left}
use Rattle.header_in_place.proofs.Keeping.{kept_lent}
use Rattle.held.specs.Numbers.{decode, held_in, reader_from}
use Rattle.in_place.proofs.Landing.{landed_means, stretched}
use Rattle.in_place.proofs.Stepping.{turned}
use Rattle.in_place.proofs.paying.pay.Goals as goal

pub returns : goal.returns
returns c =
    let a = c.args in
    let held = a.held.now in
    let i = c.held_in-h in
    let n = c.min-n in
    let done = c.landed-done in
    let numbers = c.numbers_of in
    let table = c.put_at in
    let bytes = c.put_bytes in
    let step : Stepped = landed (reader_from (held_in held)) n.result in
    let count : n.result ≡ min (length a.input.now) (held_in held).left = n.ensures ∙ ap (λ (x : Held). min (length a.input.now) x.left) i.ensures in
    let all : n.result - 0 ≡ n.result = omega arith in
    let left : Left (Ok done.result.event) numbers.result table.new.rows (decode held a.rows.now) step =
    rw (numbers.ensures, table.ensures) (kept_lent held a.rows.now i.result i.ensures (λ (d : Decoder). landed d.reader n.result) done.result done.ensures)
    in
    let buffer : bytes.new.output ≡ stored a.payload.now (held_in held).got (take n.result a.input.now) =
    bytes.ensures
    ∙ ap (λ (x : Held). stored a.payload.now x.got (take (n.result - 0) a.input.now)) i.ensures
    ∙ ap (λ (k : ℕ). stored a.payload.now (held_in held).got (take k a.input.now)) all
    in
    let pre = c.requires in
    let some = pre.some in
    let lacks = pre.lacks in
    turned (record { event = Ok done.result.event; used = n.result }) held a.rows.now a.input.now a.payload.now numbers.result table.new.rows bytes.new.output step left
    (landed_means (Ok done.result.event) held a.rows.now numbers.result table.new.rows n.result left)
    (omega (arith, count))
    (omega (arith, count))
    (λ k. stretched held a.rows.now a.input.now a.payload.now pre n.result count k ∙ (rw (← buffer)))
