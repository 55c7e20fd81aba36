-- The one statement about the whole table, by one computation of the definitions; and that Adobe's chunks fit.
use Rattle.std.proofs.Common.{refl, arith}
use Rattle.fields.specs.Endian.{big_endian, little_endian, gather}
use Rattle.chunk_header.specs.Basic.{csid}
use Rattle.chunk_header.specs.Layout.{chunk_bytes}
use Rattle.chunk_header.specs.Worked.{audio, video}
use Rattle.user_control.specs.Reading.{known, count, reading}
use Rattle.serializer.specs.Header.{delta, format}
use Rattle.serializer.specs.Message.{chunk_stream}
use Rattle.serializer.specs.Packet.{pieces, packet}
use Rattle.serializer.specs.Serialize.{sent, serialized, size_changed}
use Rattle.chunk_header.specs.Table.{field_length, format_of}
use Rattle.decoding.specs.Call.{after, next, run, step_of, writes}
use Rattle.byte_machine.specs.Payload.{pays, landed}
use Rattle.byte_machine.specs.Step.{named, timestamp_field_step, length_field_step, type_field_step, stream_field_step, extended_field_step}
use Rattle.byte_machine.specs.Header.{opens, whole, extended_next, stream_next, type_next, length_next, timestamp_next}
use Rattle.chunk_meaning.specs.Meaning.{basic_refusal, later_refusal, first_refusal}
use Rattle.byte_machine.specs.Rows.{find, free, put_row}
use Rattle.decoding.specs.Told.{made}
use Rattle.stream_meaning.specs.Connection.{AllFit}
use Rattle.time.specs.Distance.{wrapped}
use Rattle.samples.specs.Sample.{AsPrinted}
use Rattle.samples.specs.Worked.{items}
use Rattle.samples.specs.Table.{table}

pub samples_hold : AsPrinted table
unfolding field_length format_of after next run step_of writes opens whole extended_next stream_next type_next length_next timestamp_next named timestamp_field_step length_field_step type_field_step stream_field_step extended_field_step pays landed basic_refusal later_refusal first_refusal put_row find free made big_endian little_endian gather csid chunk_bytes known count reading delta format chunk_stream pieces packet sent serialized size_changed wrapped
samples_hold = refl

-- each of Adobe's chunks fits the chunk size of 128 and its stream
pub audio_fits : AllFit (items audio)
audio_fits = (
  record { head = record { form = (omega arith, omega arith); fields = (omega arith, omega arith, omega arith, omega arith); extended = λ e. omega arith }; payload_of = refl },
  (
    record { head = record { form = (omega arith, omega arith); fields = omega arith; extended = λ e. omega arith }; payload_of = refl },
    (
      record { head = record { form = (omega arith, omega arith); fields = tt; extended = λ e. omega arith }; payload_of = refl },
      (record { head = record { form = (omega arith, omega arith); fields = tt; extended = λ e. omega arith }; payload_of = refl }, tt),
    ),
  ),
)

pub video_fits : AllFit (items video)
video_fits = (
  record { head = record { form = (omega arith, omega arith); fields = (omega arith, omega arith, omega arith, omega arith); extended = λ e. omega arith }; payload_of = refl },
  (
    record { head = record { form = (omega arith, omega arith); fields = tt; extended = λ e. omega arith }; payload_of = refl },
    (record { head = record { form = (omega arith, omega arith); fields = tt; extended = λ e. omega arith }; payload_of = refl }, tt),
  ),
)
