-- The body is the code and four bytes a number, and each number is put straight after the one before.
use Rattle.std.proofs.Common.{◌≡◌, ℕ, ◌+◌, ◌*◌, List, [], ◌++◌, length, take, get_or, length-take-le, take_all, append-nil, refl, ap, ◌∙◌, arith}
use Rattle.fields.specs.Endian.{big_endian}
use Rattle.fields.specs.Output.{stored}
use Rattle.fields.proofs.Endian.{length_big}
use Rattle.fields.proofs.Lists.{stored_next}
use Rattle.fields.proofs.Writing.{writes_none, writes_all}
use Rattle.user_control.specs.Body.{body_of}
use Rattle.user_control.specs.Code.{number_of}
use Rattle.user_control.proofs.Fours.{body_more, length_body}
use Rattle.user_control.proofs.write.write_numbers.Goals as goal

-- what putting a number leaves, where its width is 4
put_four : {out' : List ℕ} (out : List ℕ) (place width n : ℕ) → out' ≡ stored out place (big_endian width n) → width ≡ 4 → out' ≡ stored out place (big_endian 4 n)
put_four out place width n put four = put ∙ ap (λ w. stored out place (big_endian w n)) four

pub returns-then-output-needed : goal.returns-then-output-needed
returns-then-output-needed c =
    let a = c.args in
    writes_none (body_of (number_of a.code) a.numbers.now) a.output.now (omega (arith, length_body (number_of a.code) a.numbers.now))

pub loop-i-init : goal.loop-i-init
loop-i-init c =
    let a = c.args in
    let head = big_endian 2 c.number.result in
    rw (← c.number.ensures, append-nil head) (stored_next [] head a.output.now 0 c.put_number.ensures refl refl (omega (arith, length_big 2 c.number.result)))

pub loop-i-preserved : goal.loop-i-preserved
loop-i-preserved c =
    let a = c.args in
    let i = c.loop-i.i in
    let ns = a.numbers.now in
    let n = get_or ns i 0 in
    let so_far : length (take i ns) ≡ i = length-take-le i ns (omega arith) in
    let size : length (body_of (number_of a.code) (take i ns)) ≡ 2 + 4 * i = length_body (number_of a.code) (take i ns) ∙ rw so_far in
    let more : body_of (number_of a.code) (take i ns) ++ big_endian 4 n ≡ body_of (number_of a.code) (take (i + 1) ns) = body_more (number_of a.code) ns i (omega arith) in
    rw (← more) (stored_next (body_of (number_of a.code) (take i ns)) (big_endian 4 n) a.output.now (2 + 4 * i) (put_four _ _ _ _ c.put_number-in-loop-i.ensures (omega arith)) c.loop-i.invariant size (omega (arith, length_big 4 n)))

pub returns : goal.returns
returns c =
    let a = c.args in
    let size = length_body (number_of a.code) a.numbers.now in
    let end : c.loop-i.i ≡ length a.numbers.now = omega arith in
    writes_all (body_of (number_of a.code) a.numbers.now) a.output.now (omega (arith, size)) (omega (arith, size)) (c.loop-i.invariant ∙ rw (end, take_all (length a.numbers.now) a.numbers.now (omega arith)))
