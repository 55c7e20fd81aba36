-- Protocol control bodies (document 02, Three; Adobe 5.4.1 to 5.4.5): big-endian numbers, one after the other.
use Rattle.std.specs.Prelude.{ℕ, List, [], ◌∷◌, ◌++◌}
use Rattle.fields.specs.Endian.{big_endian}
use Rattle.protocol_control.specs.declared.Kind.{Kind}
use Rattle.protocol_control.specs.declared.Kind.TheVariants.{
  SetChunkSize as set_chunk_size,
  Abort as abort,
  Acknowledgement as acknowledgement,
  WindowAcknowledgement as window_acknowledgement,
  SetPeerBandwidth as set_peer_bandwidth,
}
use Rattle.protocol_control.specs.declared.ProtocolControl.{ProtocolControl}
use Rattle.protocol_control.specs.declared.ProtocolControl.TheVariants.{
  SetChunkSize,
  Abort,
  Acknowledgement,
  WindowAcknowledgement,
  SetPeerBandwidth,
}

abbrev pub kind_of : ProtocolControl → Kind
kind_of (SetChunkSize size) = set_chunk_size
kind_of (Abort stream) = abort
kind_of (Acknowledgement sequence) = acknowledgement
kind_of (WindowAcknowledgement size) = window_acknowledgement
kind_of (SetPeerBandwidth size limit) = set_peer_bandwidth

-- each body's message type ..
abbrev pub message_type : Kind → ℕ
message_type set_chunk_size = 1
message_type abort = 2
message_type acknowledgement = 3
message_type window_acknowledgement = 5
message_type set_peer_bandwidth = 6

-- .. its length, "4 bytes" and after a bandwidth "1 byte" ..
abbrev pub body_length : Kind → ℕ
body_length set_chunk_size = 4
body_length abort = 4
body_length acknowledgement = 4
body_length window_acknowledgement = 4
body_length set_peer_bandwidth = 5

-- .. its numbers, in their order on the wire ..
abbrev pub numbers : ProtocolControl → List ℕ
numbers (SetChunkSize size) = size ∷ []
numbers (Abort stream) = stream ∷ []
numbers (Acknowledgement sequence) = sequence ∷ []
numbers (WindowAcknowledgement size) = size ∷ []
numbers (SetPeerBandwidth size limit) = size ∷ limit ∷ []

-- .. and its bytes
abbrev pub body : ProtocolControl → List ℕ
body (SetChunkSize size) = big_endian 4 size
body (Abort stream) = big_endian 4 stream
body (Acknowledgement sequence) = big_endian 4 sequence
body (WindowAcknowledgement size) = big_endian 4 size
body (SetPeerBandwidth size limit) = big_endian 4 size ++ big_endian 1 limit
