-- The definitions at small bodies, computed: each body, each refusal at its edge, and their order.
use Rattle.std.proofs.Common.{◌≡◌, [], ◌∷◌, refl}
use Rattle.fields.specs.Endian.{big_endian, gather}
use Rattle.fields.specs.Writing.{outcome, refuse, writing, wrote}
use Rattle.protocol_control.specs.declared.Kind.TheVariants.{SetChunkSize as set_chunk_size, Abort as abort, Acknowledgement as acknowledgement, WindowAcknowledgement as window_acknowledgement, SetPeerBandwidth as set_peer_bandwidth}
use Rattle.protocol_control.specs.declared.ProtocolControl.TheVariants.{SetChunkSize, Abort, Acknowledgement, WindowAcknowledgement, SetPeerBandwidth}
use Rattle.protocol_control.specs.Answer.{control, refused}
use Rattle.protocol_control.specs.Body.{body}
use Rattle.protocol_control.specs.Limits.{outside}
use Rattle.protocol_control.specs.Putting.{putting}
use Rattle.protocol_control.specs.Reading.{reading}

pub written :
    (body (SetChunkSize 4096) ∷ body (Abort 3) ∷ body (Acknowledgement 4294967295) ∷ body (WindowAcknowledgement 2500000) ∷ body (SetPeerBandwidth 2500000 2) ∷ [])
    ≡ ((0 ∷ 0 ∷ 16 ∷ 0 ∷ []) ∷ (0 ∷ 0 ∷ 0 ∷ 3 ∷ []) ∷ (255 ∷ 255 ∷ 255 ∷ 255 ∷ []) ∷ (0 ∷ 38 ∷ 37 ∷ 160 ∷ []) ∷ (0 ∷ 38 ∷ 37 ∷ 160 ∷ 2 ∷ []) ∷ [])
unfolding big_endian
written = refl

-- bytes after a body are ignored
pub read :
    (reading set_chunk_size (127 ∷ 255 ∷ 255 ∷ 255 ∷ 9 ∷ []) ∷ reading abort (0 ∷ 0 ∷ 0 ∷ 0 ∷ []) ∷ reading acknowledgement (1 ∷ 2 ∷ 3 ∷ 4 ∷ []) ∷ reading window_acknowledgement (0 ∷ 0 ∷ 0 ∷ 0 ∷ []) ∷ reading set_peer_bandwidth (1 ∷ 2 ∷ 3 ∷ 4 ∷ 0 ∷ []) ∷ [])
    ≡ (control 1 (2147483647 ∷ []) ∷ control 2 (0 ∷ []) ∷ control 3 (16909060 ∷ []) ∷ control 5 (0 ∷ []) ∷ control 6 (16909060 ∷ 0 ∷ []) ∷ [])
unfolding reading outside gather
read = refl

-- one under and one over each limit, and 15 before 16
pub edges :
    (reading set_chunk_size (0 ∷ 0 ∷ 0 ∷ 0 ∷ []) ∷ reading set_chunk_size (128 ∷ 0 ∷ 0 ∷ 0 ∷ []) ∷ reading set_peer_bandwidth (0 ∷ 0 ∷ 0 ∷ 1 ∷ 3 ∷ []) ∷ reading set_chunk_size (0 ∷ 0 ∷ 0 ∷ []) ∷ reading set_peer_bandwidth (0 ∷ 0 ∷ 0 ∷ 1 ∷ []) ∷ [])
    ≡ (refused 16 ∷ refused 16 ∷ refused 16 ∷ refused 15 ∷ refused 15 ∷ [])
unfolding reading outside gather
edges = refl

-- 16 before 5, and an output that is exact
pub put :
    (putting (SetChunkSize 0) [] ∷ putting (SetPeerBandwidth 1 3) [] ∷ putting (Abort 0) (7 ∷ 7 ∷ 7 ∷ []) ∷ putting (SetPeerBandwidth 1 2) (7 ∷ 7 ∷ 7 ∷ 7 ∷ 7 ∷ 7 ∷ []) ∷ [])
    ≡ (refuse 16 [] ∷ refuse 16 [] ∷ refuse 5 (7 ∷ 7 ∷ 7 ∷ []) ∷ outcome (wrote 5) (0 ∷ 0 ∷ 0 ∷ 1 ∷ 2 ∷ 7 ∷ []) ∷ [])
unfolding putting outside writing big_endian
put = refl
