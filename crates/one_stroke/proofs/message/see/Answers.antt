-- Where every test is passed, what is seen is the chunk that the input begins with.
use Rattle.std.proofs.Common.{arith}
use Rattle.chunk_header.proofs.Table.{header_most}
use Rattle.one_stroke.proofs.message.see.Goals as goal

pub overflow_add-start : goal.overflow_add-start
overflow_add-start c = omega (arith, c.header_length-start.ensures, header_most c.get_format-format.result)
