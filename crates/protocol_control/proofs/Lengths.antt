-- How long bodies are, by kind: each of the five is computed.
use Rattle.std.proofs.Common.{◌≡◌, length, refl}
use Rattle.fields.specs.Endian.{big_endian}
use Rattle.protocol_control.specs.declared.ProtocolControl.{ProtocolControl}
use Rattle.protocol_control.specs.declared.ProtocolControl.TheVariants.{SetChunkSize, Abort, Acknowledgement, WindowAcknowledgement, SetPeerBandwidth}
use Rattle.protocol_control.specs.Body.{body, body_length, kind_of}

-- a body has as many bytes as its kind's length says
pub length_body : (c : ProtocolControl) → body_length (kind_of c) ≡ length (body c)
unfolding big_endian
length_body (SetChunkSize size) = refl
length_body (Abort stream) = refl
length_body (Acknowledgement sequence) = refl
length_body (WindowAcknowledgement size) = refl
length_body (SetPeerBandwidth size limit) = refl
