-- What a chunk means (document 01, "Decoder"; Adobe 5.3.1.2): what may start, what may go on, what the time is.
use Rattle.std.specs.Prelude.{ℕ, Bool, cond, not, ◌&&◌, [], ◌∷◌, ltb, eqb}
use Rattle.fields.specs.Cases.{◌when◌, first}
use Rattle.time.specs.Clock.{sum}
use Rattle.chunk_header.specs.declared.ChunkHeaderFormat.{ChunkHeaderFormat}
use Rattle.chunk_header.specs.Limits.{max_field}
use Rattle.chunk_header.specs.Table.{is_empty, is_full}
use Rattle.chunk_meaning.specs.Stored.{Row}

-- "type 0 sets the time. Other types add the delta once, at the first chunk of a message"
abbrev pub first_time : ChunkHeaderFormat → (before number : ℕ) → ℕ
first_time format before number = cond (is_full format) number (sum before number)

-- what is refused at the last byte of a basic header. `has_row`: the stream has a row; `free`: a row is free;
-- `inside`: a message is unfinished, and `own`: on this stream. 0: nothing is refused.
unfoldable pub basic_refusal : ChunkHeaderFormat → (has_row free inside own : Bool) → ℕ
basic_refusal format has_row free inside own =
    first (9 when (not inside && (not (is_full format) && not has_row))
    ∷ 10 when (is_full format && (not has_row && not free))
    ∷ 11 when (inside && not own)
    ∷ 12 when (inside && (not (is_full format) && not (is_empty format)))
    ∷ []) 0

-- the header of a chunk repeats the header of the message
abbrev pub repeats : (message header : Row) → (time : ℕ) → Bool
repeats message header time =
    eqb header.message_length message.message_length
    && (eqb header.message_type_id message.message_type_id
    && (eqb header.message_stream_id message.message_stream_id
    && eqb time message.timestamp.value))

-- what is refused at the last byte of a header, extended time included: inside a message ..
unfoldable pub later_refusal : ChunkHeaderFormat → (message header : Row) → (number : ℕ) → ℕ
later_refusal format message header number = first (12 when (is_full format && not (repeats message header number)) ∷ []) 0

-- .. and at a first chunk
unfoldable pub first_refusal : ChunkHeaderFormat → (header : Row) → (number room : ℕ) → ℕ
first_refusal format header number room =
    first (13 when (not (is_full format) && (eqb header.timestamp_field max_field && ltb number max_field))
    ∷ 14 when ltb room header.message_length
    ∷ []) 0
