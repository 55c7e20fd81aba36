-- What a byte of a header does, by the field that it belongs to (document 01, "Decoder").
use Rattle.std.specs.Prelude.{ℕ, ◌+◌, ◌-◌, ◌*◌, ◌%◌, ◌^◌, cond, not, List, [], ◌∷◌, ltb, leb, eqb, get_or, Option, Some, None}
use Rattle.fields.specs.Endian.{swapped}
use Rattle.chunk_header.specs.declared.ChunkHeaderFormat.{ChunkHeaderFormat}
use Rattle.chunk_header.specs.Basic.{csid}
use Rattle.chunk_header.specs.Table.{format_of}
use Rattle.chunk_meaning.specs.Stored.{Row, claimed, fielded, lengthed, streamed, typed}
use Rattle.chunk_meaning.specs.Meaning.{basic_refusal}
use Rattle.byte_machine.specs.Reader.{Go, Reader, Stage, Csid, CsidSecond, CsidThird, InitialTimestamp, MessageLength, MessageTypeId, MessageStreamId, ExtendedTimestamp, MessagePayload, Stepped, at, go, guard, headed, reading, refuse}
use Rattle.byte_machine.specs.Header.{extended_next, length_next, stream_next, timestamp_next, type_next, whole}
use Rattle.byte_machine.specs.Look.{Look}
use Rattle.byte_machine.specs.Rows.{row_count}
use Rattle.byte_machine.specs.Setting.{Setting}

-- a chunk of a stream that has a row, and one that claims a free row: a type 0, whose first field is the time of three bytes
abbrev pub known : Setting → Reader → ChunkHeaderFormat → Row → (place : ℕ) → Stepped
known setting r format row place = timestamp_next setting (reading r format place row row)

abbrev pub claims : Reader → ChunkHeaderFormat → (id place : ℕ) → Stepped
claims r format id place = record { reader = at (reading r format place (claimed id) (claimed id)) (InitialTimestamp 0 3); event = Go; place = place }

-- the last byte of a basic header, by what the table says of the id
unfoldable pub named : Setting → Look → Reader → ChunkHeaderFormat → (id : ℕ) → Stepped
named setting said r format id =
    let k = basic_refusal format (ltb said.place row_count) (ltb said.unused row_count) (not (eqb r.message.id 0)) (eqb r.message.id id) in
    cond (eqb k 0)
    (cond (ltb said.place row_count) (known setting r format said.row said.place) (claims r format id said.unused))
    (refuse r k)

-- a basic header so far: an id, of which the table is asked, or kept until more of it has come
abbrev pub basic_by : Option ℕ → Setting → (ask : ℕ → Look) → Reader → ChunkHeaderFormat → (kept : Stage) → Stepped
basic_by (Some id) setting ask r format kept = named setting (ask id) r format id
basic_by None setting ask r format kept = go (at r kept)

abbrev pub basic : Setting → (ask : ℕ → Look) → Reader → (bytes : List ℕ) → (kept : Stage) → Stepped
basic setting ask r bytes kept = basic_by (csid bytes) setting ask r (format_of (get_or bytes 0 0)) kept

-- one byte more of a number of four bytes at most
abbrev pub gathered : (before byte : ℕ) → ℕ
gathered before byte = before % 2 ^ 24 * 256 + byte

-- a byte of a field of several: the number is whole with it, or kept with one byte fewer to come
abbrev pub field_byte : (before lacks byte : ℕ) → (ℕ → Stepped) → (ℕ → ℕ → Reader) → Stepped
field_byte before lacks byte whole kept =
    let number = gathered before byte in
    cond (leb lacks 1) (whole number) (go (kept number (lacks - 1)))

unfoldable pub timestamp_field_step : Setting → Reader → (before lacks byte : ℕ) → Stepped
timestamp_field_step setting r before lacks b =
    field_byte before lacks b (λ n. length_next setting (headed r (fielded r.chunk.header n))) (λ n left. at r (InitialTimestamp n left))

unfoldable pub length_field_step : Setting → Reader → (before lacks byte : ℕ) → Stepped
length_field_step setting r before lacks b =
    field_byte before lacks b (λ n. type_next setting (headed r (lengthed r.chunk.header n))) (λ n left. at r (MessageLength n left))

unfoldable pub type_field_step : Setting → Reader → (byte : ℕ) → Stepped
type_field_step setting r b = stream_next setting (headed r (typed r.chunk.header b))

-- the one field that is little-endian
unfoldable pub stream_field_step : Setting → Reader → (before lacks byte : ℕ) → Stepped
stream_field_step setting r before lacks b =
    field_byte before lacks b (λ n. extended_next setting (headed r (streamed r.chunk.header (swapped n)))) (λ n left. at r (MessageStreamId n left))

unfoldable pub extended_field_step : Setting → Reader → (before lacks byte : ℕ) → Stepped
extended_field_step setting r before lacks b = field_byte before lacks b (λ n. whole setting r n) (λ n left. at r (ExtendedTimestamp n left))

-- a byte of a header, by the field that it belongs to; a byte of a payload never comes here
abbrev pub stepped : Stage → Setting → (ask : ℕ → Look) → Reader → (byte : ℕ) → Stepped
stepped Csid setting ask r b = basic setting ask r (b ∷ []) (CsidSecond b)
stepped (CsidSecond a) setting ask r b = basic setting ask r (a ∷ b ∷ []) (CsidThird a b)
stepped (CsidThird a c) setting ask r b = basic setting ask r (a ∷ c ∷ b ∷ []) (CsidThird a c)
stepped (InitialTimestamp before lacks) setting ask r b = timestamp_field_step setting r before lacks b
stepped (MessageLength before lacks) setting ask r b = length_field_step setting r before lacks b
stepped MessageTypeId setting ask r b = type_field_step setting r b
stepped (MessageStreamId before lacks) setting ask r b = stream_field_step setting r before lacks b
stepped (ExtendedTimestamp before lacks) setting ask r b = extended_field_step setting r before lacks b
stepped MessagePayload setting ask r b = refuse r guard
