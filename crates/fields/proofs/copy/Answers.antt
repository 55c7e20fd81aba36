-- A byte put at i is the next of the bytes, and stands before what the output still has.
use Rattle.std.proofs.Common.{◌≡◌, ◌≤◌, ◌<◌, ◌+◌, length, refl, ◌∙◌, arith, length-set}
use mathlib.Core.List.{append-nil}
use native.Mathlib.Nat.{zero-add}
use native.Mathlib.Numerals.{add-one}
use lib.ListN.{drop_of_length-le}
use lib.Seq.{paste-suc, take-length}
use Rattle.fields.proofs.copy.Goals as goal

pub loop-i-init : goal.loop-i-init
loop-i-init c = (omega arith, refl, refl)

pub loop-i-preserved : goal.loop-i-preserved
loop-i-preserved c =
    let i = c.loop-i.i in
    let bytes = c.args.bytes.now in
    let output = c.args.output.now in
    let hb : i < length bytes = omega arith in
    let ho : 0 + i < length output = omega arith in
    (omega arith, rw (c.loop-i.invariant.1, add-one) (simp zero-add at (paste-suc output 0 bytes i 0 ho hb)), simp length-set c.loop-i.invariant.2)

pub returns : goal.returns
returns c =
    let bytes = c.args.bytes.now in
    let output = c.args.output.now in
    let e : c.loop-i.i ≡ length bytes = omega arith in
    let all : length output ≤ length bytes = omega arith in
    c.loop-i.invariant.1 ∙ rw (e, take-length, drop_of_length-le output) (append-nil bytes)
