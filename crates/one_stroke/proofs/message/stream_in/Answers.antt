-- A number of four bytes needs no wrapping.
use Rattle.std.proofs.Common.{arith, ap, ◌∙◌}
use Rattle.fields.specs.Endian.{swapped}
use Rattle.fields.proofs.Lists.{part_fits}
use Rattle.one_stroke.proofs.message.stream_in.Goals as goal

pub returns : goal.returns
returns c = c.swap_bytes.ensures ∙ ap swapped (c.number_at.ensures ∙ part_fits c.args.input.now (λ i. omega (arith, c.type_inv.input i)) 8 4 (omega arith))
