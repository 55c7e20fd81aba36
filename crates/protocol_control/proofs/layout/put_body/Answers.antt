-- Each body is one of Put's two: four bytes, or four and one.
use Rattle.std.proofs.Common.{◌≡◌, ap, ⊎_elim}
use Rattle.fields.specs.Endian.{big_endian}
use Rattle.protocol_control.specs.Body.{body}
use Rattle.protocol_control.proofs.Put.{put_four, put_five}
use Rattle.protocol_control.proofs.layout.put_body.Goals as goal

pub returns-in-SetChunkSize : goal.returns-in-SetChunkSize
returns-in-SetChunkSize c =
    let four : body c.args.control ≡ big_endian 4 c.in-SetChunkSize.number =
    ⊎_elim (ap body) (⊎_elim (ap body) (⊎_elim (ap body) (ap body))) c.in-SetChunkSize.is
    in
    put_four (body c.args.control) c.args.output.now c.requires _ four c.put_number-in-SetChunkSize.ensures

pub returns-in-SetPeerBandwidth : goal.returns-in-SetPeerBandwidth
returns-in-SetPeerBandwidth c = put_five (body c.args.control) c.args.output.now c.requires _ _ (ap body c.in-SetPeerBandwidth.is) c.put_number.ensures c.put_number-in-SetPeerBandwidth.ensures
