-- The fields of a header in their order, and what is settled when it is whole (document 01, "Decoder").
use Rattle.std.specs.Prelude.{ℕ, ◌-◌, min, cond, eqb}
use Rattle.chunk_header.specs.declared.HeaderField.{HeaderField}
use Rattle.chunk_header.specs.declared.HeaderField.TheVariants.{Timestamp, MessageLength as Length, MessageTypeId as TypeId, MessageStreamId as StreamId}
use Rattle.chunk_header.specs.Limits.{max_field}
use Rattle.chunk_header.specs.Table.{type_of, index_of, field_length}
use Rattle.chunk_meaning.specs.Meaning.{first_time, later_refusal, first_refusal}
use Rattle.chunk_meaning.specs.Stored.{timed}
use Rattle.byte_machine.specs.Reader.{Reader, Stage, InitialTimestamp, MessageLength, MessageTypeId, MessageStreamId, ExtendedTimestamp, MessagePayload, Stepped, at, current, ended, go, headed, reader, refuse, unfinished}
use Rattle.byte_machine.specs.Setting.{Setting}

-- the payload of a chunk: "the smaller of the chunk size and what the message still lacks". A message of no bytes ends here
unfoldable pub opens : (size : ℕ) → Reader → (got : ℕ) → Stepped
opens size r got =
    let c = r.chunk in
    cond (eqb c.header.message_length 0) (ended r)
    (go (reader MessagePayload (current c.format c.place c.before c.header (min size (c.header.message_length - got))) (unfinished r.message.id got)))

-- a header that is whole, extended time included, with the number that it says of the time
unfoldable pub whole : Setting → Reader → (time : ℕ) → Stepped
whole setting r time =
    let c = r.chunk in
    let k = first_refusal c.format c.header time setting.room in
    let j = later_refusal c.format c.before c.header time in
    cond (eqb r.message.id 0)
    (cond (eqb k 0) (opens setting.size (headed r (timed c.header (first_time c.format c.before.timestamp.value time))) 0) (refuse r k))
    (cond (eqb j 0) (opens setting.size (headed r (timed c.header c.before.timestamp.value)) r.message.got) (refuse r j))

-- how many bytes a field has in the chunk at hand
abbrev pub lacks : Reader → HeaderField → ℕ
lacks r field = field_length (type_of r.chunk.format) (index_of field)

-- the stage that gathers a field of so many bytes
abbrev pub stage_of : HeaderField → (lacks : ℕ) → Stage
stage_of Timestamp n = InitialTimestamp 0 n
stage_of Length n = MessageLength 0 n
stage_of TypeId n = MessageTypeId
stage_of StreamId n = MessageStreamId 0 n

-- a field comes next, or is passed over where the format does not have it
abbrev pub field_next : Reader → HeaderField → Stepped → Stepped
field_next r field after = cond (eqb (lacks r field) 0) after (go (at r (stage_of field (lacks r field))))

-- the extended time, "a time field of 16777215 means that a 4-byte extended time follows the header"
unfoldable pub extended_next : Setting → Reader → Stepped
extended_next setting r =
    cond (eqb r.chunk.header.timestamp_field max_field) (go (at r (ExtendedTimestamp 0 4))) (whole setting r r.chunk.header.timestamp_field)

unfoldable pub stream_next : Setting → Reader → Stepped
stream_next setting r = field_next r StreamId (extended_next setting r)

unfoldable pub type_next : Setting → Reader → Stepped
type_next setting r = field_next r TypeId (stream_next setting r)

unfoldable pub length_next : Setting → Reader → Stepped
length_next setting r = field_next r Length (type_next setting r)

unfoldable pub timestamp_next : Setting → Reader → Stepped
timestamp_next setting r = field_next r Timestamp (length_next setting r)
