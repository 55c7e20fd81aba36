-- Each part of the record is put straight after the one before, and the output reaches to the end of the last.
use Rattle.std.proofs.Common.{◌≡◌, ◌∙◌, ◌/◌, ◌%◌, ◌^◌, [], ◌∷◌, ◌++◌, refl, append-nil, arith}
use Rattle.fields.specs.Endian.{big_endian}
use Rattle.fields.proofs.Endian.{length_big}
use Rattle.fields.proofs.Lists.{stored_next}
use Rattle.settings.specs.Record.{body_length, kind_width, record_of, version_of}
use Rattle.settings.proofs.layout.put_record.Goals as goal

pub returns : goal.returns
unfolding big_endian record_of
returns c =
    let a = c.args in
    let out = a.output.now in
    let v = version_of a.version in
    let s = a.settings in
    let k = kind_width v in
    let body = big_endian 2 (body_length v) in
    let size = big_endian 4 s.max_chunk_size in
    let room = big_endian 4 s.room in
    let width = length_big k s.camera_kind in
    let one : c.from.result ≡ v = c.from.ensures ∙ c.number.ensures in
    let digit : v / 256 ^ 0 % 256 ≡ v = omega (arith, c.number.ensures) in
    let o2 = stored_next [] body out 0 (rw c.body_length.ensures at c.put_number.ensures) refl refl (omega arith) in
    let o3 = stored_next body (v ∷ []) out 2 (rw (one, digit) at c.put_number-2.ensures) o2 refl (omega arith) in
    let o7 = stored_next (body ++ (v ∷ [])) size out 3 c.put_number-3.ensures o3 refl (omega arith) in
    let o11 = stored_next (body ++ (v ∷ []) ++ size) room out 7 c.put_number-4.ensures o7 refl (omega arith) in
    let last = big_endian k s.camera_kind in
    stored_next (body ++ (v ∷ []) ++ size ++ room) (last ++ []) out 11 (rw (c.kind_width.ensures, ← append-nil last) at c.put_number-5.ensures) o11 refl (rw append-nil (omega arith))
