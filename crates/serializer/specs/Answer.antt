-- Each answer's number and values, as document 01 lists them. Every promise of this crate goes through these.
use Rattle.std.specs.Prelude.{ℕ, Result, Ok, Err}
use Rattle.serializer.specs.declared.error.PacketError.{PacketError}
use Rattle.serializer.specs.declared.error.PacketError.TheVariants.{NoPayload, MessageTooLong, ChunkSizeZero, InvalidMaxChunkSize, OutputTooShort}

pub data Answer : Type 0 where
  -- so many bytes
  wrote : ℕ → Answer
  refused : ℕ → Answer

abbrev pub number_of : PacketError → ℕ
number_of NoPayload = 1
number_of MessageTooLong = 2
number_of ChunkSizeZero = 3
number_of InvalidMaxChunkSize = 4
number_of OutputTooShort = 5

abbrev pub answer_of : Result ℕ PacketError → Answer
answer_of (Ok n) = wrote n
answer_of (Err e) = refused (number_of e)
