-- First byte, message header, extended time and payload, one straight after the other.
use Rattle.std.proofs.Common.{◌≡◌, ℕ, ◌+◌, ◌*◌, List, [], ◌∷◌, ◌++◌, length, sym, ap, ◌∙◌, arith, length-append}
use Rattle.chunk_header.specs.Layout.{header_bytes, extended_bytes}
use Rattle.chunk_header.specs.Table.{type_of}
use Rattle.chunk_header.proofs.Table.{type_lt}
use Rattle.fields.specs.Endian.{big_endian}
use Rattle.serializer.specs.Cursor.{Added}
use Rattle.serializer.specs.Packet.{message_header, extended}
use Rattle.serializer.proofs.Added.{added_same, added_then}
use Rattle.serializer.proofs.Chunk.{basic_field, chunk_split, head_bytes, length_header, length_head}
use Rattle.serializer.proofs.PacketLength.{length_chunk}
use Rattle.serializer.proofs.cursor.Cursor.chunk.Goals as goal

pub returns : goal.returns
returns c =
    let a = c.args in
    let h = a.header in
    let xs : List ℕ = (64 * type_of a.format + h.chunk_stream_id) ∷ [] in
    let ys = header_bytes (message_header a.format h) in
    let zs = extended_bytes (extended h.timestamp_field) in
    let pre = c.requires in
    let all = length_chunk a.format h a.payload.now in
    let head = length_head a.format h in
    let ly = length_header a.format h in
    let lxy : length (xs ++ ys) ≡ length xs + length ys = length-append xs ys in
    let lxyz : length (xs ++ ys ++ zs) ≡ length (xs ++ ys) + length zs = length-append (xs ++ ys) zs in
    let first : Added a.self.now xs c.number.new.self =
    added_same (ap (big_endian 1) c.first_byte.ensures ∙ basic_field (type_of a.format) h.chunk_stream_id (type_lt a.format) pre.0) c.number.ensures
    in
    let second : Added a.self.now (xs ++ ys) c.message_header.new.self =
    added_then xs ys first c.message_header.ensures (omega (arith, first.adds.place, ly, all, head, pre.1))
    in
    let third : Added a.self.now (xs ++ ys ++ zs) c.extended_timestamp.new.self =
    added_then (xs ++ ys) zs second c.extended_timestamp.ensures (omega (arith, second.adds.place, lxy, ly, all, head, pre.1))
    in
    added_same (ap (λ (l : List ℕ). l ++ a.payload.now) (head_bytes a.format h) ∙ sym (chunk_split a.format h a.payload.now))
    (added_then (xs ++ ys ++ zs) a.payload.now third c.payload.ensures (omega (arith, third.adds.place, lxyz, lxy, ly, all, head, pre.1)))
