use Rattle.std.proofs.Common.{arith}
use Rattle.fields.specs.Endian.{gather, little_endian}
use Rattle.fields.proofs.swap_bytes.Goals as goal

pub returns : goal.returns
unfolding gather little_endian
returns c = omega (arith, c.swap_bytes.ensures)
