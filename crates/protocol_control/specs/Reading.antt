-- What a body means, and when it is refused (document 02, Three): 15 where it is short, then 16. Bytes after it are ignored.
use Rattle.std.specs.Prelude.{ℕ, Bool, List, [], ◌∷◌, ltb, length, take, drop}
use Rattle.fields.specs.Cases.{◌when◌, first}
use Rattle.fields.specs.Endian.{number}
use Rattle.protocol_control.specs.declared.Kind.{Kind}
use Rattle.protocol_control.specs.declared.Kind.TheVariants.{
  SetChunkSize as set_chunk_size,
  Abort as abort,
  Acknowledgement as acknowledgement,
  WindowAcknowledgement as window_acknowledgement,
  SetPeerBandwidth as set_peer_bandwidth,
}
use Rattle.protocol_control.specs.declared.ProtocolControl.{ProtocolControl}
use Rattle.protocol_control.specs.declared.ProtocolControl.TheVariants.{
  SetChunkSize,
  Abort,
  Acknowledgement,
  WindowAcknowledgement,
  SetPeerBandwidth,
}
use Rattle.protocol_control.specs.Answer.{Answer, listed, refused}
use Rattle.protocol_control.specs.Body.{body_length}
use Rattle.protocol_control.specs.Limits.{outside}

-- the first four bytes
abbrev pub four : List ℕ → ℕ
four bytes = number (take 4 bytes)

-- what the bytes say
abbrev pub control_in : Kind → (bytes : List ℕ) → ProtocolControl
control_in set_chunk_size bytes = SetChunkSize (four bytes)
control_in abort bytes = Abort (four bytes)
control_in acknowledgement bytes = Acknowledgement (four bytes)
control_in window_acknowledgement bytes = WindowAcknowledgement (four bytes)
control_in set_peer_bandwidth bytes = SetPeerBandwidth (four bytes) (number (take 1 (drop 4 bytes)))

abbrev pub short : Kind → (bytes : List ℕ) → Bool
short k bytes = ltb (length bytes) (body_length k)

unfoldable pub reading : Kind → (bytes : List ℕ) → Answer
reading k bytes = first (refused 15 when short k bytes ∷ refused 16 when outside (control_in k bytes) ∷ []) (listed (control_in k bytes))
