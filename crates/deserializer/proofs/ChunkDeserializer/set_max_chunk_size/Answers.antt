-- What a size told in place leaves, beside the rows that stand with it.
use Rattle.deserializer.proofs.ChunkDeserializer.set_max_chunk_size.Goals as goal

pub returns : goal.returns
returns c = c.set_max_chunk_size-telling.ensures.beside c.args.self.rows
