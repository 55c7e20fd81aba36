-- What is stored of a chunk stream: its id, and the last time, time field, length, type and message stream.
use Rattle.std.specs.Prelude.{ℕ}
use Rattle.time.specs.declared.RtmpTimestamp.{RtmpTimestamp}

pub record Row : Type 0 where
  pub id : ℕ
  pub timestamp : RtmpTimestamp
  pub timestamp_field : ℕ
  pub message_length : ℕ
  pub message_type_id : ℕ
  pub message_stream_id : ℕ

abbrev pub row : (id time field length type stream : ℕ) → Row
row id time field length type stream = record {
  id = id;
  timestamp = record { value = time };
  timestamp_field = field;
  message_length = length;
  message_type_id = type;
  message_stream_id = stream;
}

-- a row that has just been claimed
abbrev pub claimed : ℕ → Row
claimed id = row id 0 0 0 0 0

-- a row with one of its numbers replaced
abbrev pub timed : Row → ℕ → Row
timed h x = row h.id x h.timestamp_field h.message_length h.message_type_id h.message_stream_id

abbrev pub fielded : Row → ℕ → Row
fielded h x = row h.id h.timestamp.value x h.message_length h.message_type_id h.message_stream_id

abbrev pub lengthed : Row → ℕ → Row
lengthed h x = row h.id h.timestamp.value h.timestamp_field x h.message_type_id h.message_stream_id

abbrev pub typed : Row → ℕ → Row
typed h x = row h.id h.timestamp.value h.timestamp_field h.message_length x h.message_stream_id

abbrev pub streamed : Row → ℕ → Row
streamed h x = row h.id h.timestamp.value h.timestamp_field h.message_length h.message_type_id x
