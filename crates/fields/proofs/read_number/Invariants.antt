-- The invariant: the value is what the bytes passed so far mean. One more byte multiplies it by 256 and is added.
use Rattle.std.proofs.Common.{◌≡◌, ◌%◌, ◌^◌, take}
use Rattle.fields.specs.Endian.{number}
use Rattle.fields.proofs.read_number.Given as goal

abbrev pub invariant-loop-byte : goal.invariant-loop-byte
invariant-loop-byte l = l.value ≡ number (take l.byte-index l.bytes) % 2 ^ 32
