-- A row passed over leaves the search to those before it, and one of the id ends it.
use Rattle.std.proofs.Common.{◌≡◌, ℕ, suc, ◌-◌, sym, ap, ◌∙◌, arith}
use Rattle.fields.specs.Search.{seek_last}
use Rattle.fields.proofs.Search.{last_passes, last_stops}
use Rattle.byte_machine.specs.Rows.{find, id_at, row_count}
use Rattle.held.proofs.table.find.Goals as goal

pub loop-i-init : goal.loop-i-init
unfolding find
loop-i-init c = let rows = c.args.rows.now in ap (λ (n : ℕ). seek_last n (id_at rows) c.args.id row_count) (sym c.used-i.ensures)

pub returns-then-rows-i-clause-found : goal.returns-then-rows-i-clause-found
returns-then-rows-i-clause-found c =
    let a = c.args in
    let i = c.loop-i.i - 1 in
    let e : c.loop-i.i ≡ suc i = omega arith in
    sym (c.loop-i.invariant ∙ ap (λ (n : ℕ). seek_last n (id_at a.rows.now) a.id row_count) e ∙ last_stops i (id_at a.rows.now) a.id row_count c.if-rows-i.true)

pub loop-i-preserved : goal.loop-i-preserved
loop-i-preserved c =
    let a = c.args in
    let i = c.loop-i.i - 1 in
    let e : c.loop-i.i ≡ suc i = omega arith in
    c.loop-i.invariant ∙ ap (λ (n : ℕ). seek_last n (id_at a.rows.now) a.id row_count) e ∙ last_passes i (id_at a.rows.now) a.id row_count c.if-rows-i.false

pub returns-clause-found : goal.returns-clause-found
unfolding seek_last
returns-clause-found c = let e : c.loop-i.i ≡ 0 = omega arith in sym (rw e at c.loop-i.invariant)
