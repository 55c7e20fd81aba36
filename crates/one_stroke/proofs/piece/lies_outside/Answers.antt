-- Where every test is passed, the piece is one.
use Rattle.std.proofs.Common.{get_or, leb-false, arith}
use Rattle.held.proofs.Stages.{is_payload_lem}
use Rattle.one_stroke.proofs.piece.lies_outside.Goals as goal

pub returns : goal.returns
returns c =
    λ e.
    let a = c.args in
    let held = a.held.now in
    let short = leb-false (get_or held 8 0) a.length e in
    record {
      stage = c.if-held-lt8.false;
      lies = λ rows. record {
        open_still = c.if-held-ne0.false;
        room = c.if-lent-room.false;
        stage = rw (is_payload_lem (get_or held 3 0) (get_or held 4 0) (get_or held 5 0) c.if-held-lt8.false);
        ends = omega (arith, c.if-room-left-2.false, c.if-room-left.false);
        some = omega (arith, c.if-length-eq0.false);
        short = short;
      };
    }
