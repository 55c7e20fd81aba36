-- One byte is its own number.
use Rattle.std.proofs.Common.{sym}
use Rattle.decoding.proofs.Heading.{one_number}
use Rattle.one_stroke.proofs.message.type_in.Goals as goal

pub returns : goal.returns
returns c = sym (one_number c.args.input.now 7 c.requires)
