-- A number of three bytes needs no wrapping.
use Rattle.std.proofs.Common.{arith, ◌∙◌}
use Rattle.fields.proofs.Lists.{part_fits}
use Rattle.one_stroke.proofs.message.length_in.Goals as goal

pub returns : goal.returns
returns c = c.number_at.ensures ∙ part_fits c.args.input.now (λ i. omega (arith, c.type_inv.input i)) 4 3 (omega arith)
