-- A stretch of payload where one may come, and the step of one byte where not.
use Rattle.std.proofs.Common.{ℕ, sym, ap, ◌∙◌, List, arith, drop, get_or}
use Rattle.decoding.specs.Call.{run}
use Rattle.decoding.proofs.Runs.{byte_at}
use Rattle.header_in_place.specs.Byte.{step_in}
use Rattle.held.specs.Numbers.{decode}
use Rattle.header_in_place.proofs.Small.{left_means}
use Rattle.in_place.proofs.Landing.{byte_runs, ready}
use Rattle.in_place.proofs.Stepping.{turned}
use Rattle.in_place.proofs.turning.once.Goals as goal

pub pay-requires : goal.pay-requires
pay-requires c =
    ready c.args.held.now c.args.input.now c.args.payload.now
    (sym c.may_pay.ensures ∙ c.if-may_pay.true)
    c.requires.0
    c.requires.1

pub returns : goal.returns
returns c =
    let held = c.args.held.now in
    let rows = c.args.rows.now in
    let input = c.args.input.now in
    let payload = c.args.payload.now in
    let taken = c.take_byte in
    let not-paid = sym c.may_pay.ensures ∙ c.if-may_pay.false in
    turned (record { event = taken.result; used = 1 }) held rows input payload taken.new.held taken.new.rows payload (step_in (decode held rows) (get_or input 0 0)) taken.ensures
    (left_means taken.result held rows taken.new.held taken.new.rows (get_or input 0 0) (omega (arith, c.type_inv.input 0)) taken.ensures)
    (omega arith)
    c.requires.0
    (λ n. ap (λ (l : List ℕ). run l (decode held rows) payload n) (byte_at input 0 c.requires.0) ∙ byte_runs held rows (get_or input 0 0) (drop 1 input) payload n not-paid)
