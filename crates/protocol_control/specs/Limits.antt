-- What the numbers of a body may be (document 02, Three): "size 1 to 2147483647, bandwidth limit 0, 1 or 2".
use Rattle.std.specs.Prelude.{ℕ, Bool, false, ◌||◌, ltb, eqb}
use Rattle.chunk_header.specs.Limits.{max_size}
use Rattle.protocol_control.specs.declared.ProtocolControl.{ProtocolControl}
use Rattle.protocol_control.specs.declared.ProtocolControl.TheVariants.{
  SetChunkSize,
  Abort,
  Acknowledgement,
  WindowAcknowledgement,
  SetPeerBandwidth,
}

abbrev pub no_size : (size : ℕ) → Bool
no_size size = eqb size 0 || ltb max_size size

-- any number of 32 bits is a chunk stream to abort, a sequence number, a window and a bandwidth
unfoldable pub outside : ProtocolControl → Bool
outside (SetChunkSize size) = no_size size
outside (Abort stream) = false
outside (Acknowledgement sequence) = false
outside (WindowAcknowledgement size) = false
outside (SetPeerBandwidth size limit) = ltb 2 limit
