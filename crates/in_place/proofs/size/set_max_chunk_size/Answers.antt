-- The lines of the table in their order, to a decoder of any table.
use Rattle.std.proofs.Common.{sym, ◌∙◌, get_or}
use Rattle.held.specs.Numbers.{decode}
use Rattle.in_place.specs.Answer.{size_of}
use Rattle.in_place.proofs.Sizes.{says_closed, says_inside, says_large, says_none, says_taken, told_refused, told_taken}
use Rattle.in_place.proofs.size.set_max_chunk_size.Goals as goal

pub returns-then-closed-ne0 : goal.returns-then-closed-ne0
returns-then-closed-ne0 c =
    let a = c.args in
    let held = a.held.now in
    told_refused held a.new_size c.refused.new.held (get_or held 2 0) (size_of c.refused.result) c.refused.ensures.0 c.refused.ensures.1
    (λ rows. says_closed (decode held rows) a.new_size c.if-closed-ne0.true)

pub returns-then-new_size-eq0 : goal.returns-then-new_size-eq0
returns-then-new_size-eq0 c =
    let a = c.args in
    let held = a.held.now in
    told_refused held a.new_size c.refused-then-new_size-eq0.new.held 3 (size_of c.refused-then-new_size-eq0.result) c.refused-then-new_size-eq0.ensures.0 c.refused-then-new_size-eq0.ensures.1
    (λ rows. says_none (decode held rows) a.new_size c.if-closed-ne0.false c.if-new_size-eq0.true)

pub returns-then-new_size-gt-LARGEST_CHUNK_SIZE : goal.returns-then-new_size-gt-LARGEST_CHUNK_SIZE
returns-then-new_size-gt-LARGEST_CHUNK_SIZE c =
    let a = c.args in
    let held = a.held.now in
    told_refused held a.new_size c.refused-then-new_size-gt-LARGEST_CHUNK_SIZE.new.held 4 (size_of c.refused-then-new_size-gt-LARGEST_CHUNK_SIZE.result) c.refused-then-new_size-gt-LARGEST_CHUNK_SIZE.ensures.0 c.refused-then-new_size-gt-LARGEST_CHUNK_SIZE.ensures.1
    (λ rows. says_large (decode held rows) a.new_size c.if-closed-ne0.false c.if-new_size-eq0.false c.if-new_size-gt-LARGEST_CHUNK_SIZE.true)

pub returns-then-between : goal.returns-then-between
returns-then-between c =
    let a = c.args in
    let held = a.held.now in
    told_taken held a.new_size c.resize.new.held c.resize.ensures
    (λ rows. says_taken (decode held rows) a.new_size c.if-closed-ne0.false c.if-new_size-eq0.false c.if-new_size-gt-LARGEST_CHUNK_SIZE.false (sym c.between.ensures ∙ c.if-between.true))

pub returns : goal.returns
returns c =
    let a = c.args in
    let held = a.held.now in
    told_refused held a.new_size c.refused-2.new.held 8 (size_of c.refused-2.result) c.refused-2.ensures.0 c.refused-2.ensures.1
    (λ rows. says_inside (decode held rows) a.new_size c.if-closed-ne0.false c.if-new_size-eq0.false c.if-new_size-gt-LARGEST_CHUNK_SIZE.false (sym c.between.ensures ∙ c.if-between.false))
