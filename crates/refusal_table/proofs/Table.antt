-- Document 01's table, in its order: each row is proved in the file of its entry point.
use Rattle.std.proofs.Common.{inl, inr, ⊎_elim, arith}
use Rattle.decoding.proofs.Runs.{next_closed}
use Rattle.refusal_table.specs.Table.{ClosedStays, NoOther, RefusalTable}
use Rattle.refusal_table.proofs.Bodies.{body_15, body_16, body_no_other, write_5, write_no_other}
use Rattle.refusal_table.proofs.Calls.{call_7, call_at, call_refused}
use Rattle.refusal_table.proofs.ControlBodies.{control_15, control_16, control_no_other, put_5, put_16, put_no_other}
use Rattle.refusal_table.proofs.Encoder.{length_1, length_2, length_no_other, message_rows, size_rows}
use Rattle.refusal_table.proofs.Histories.{open_or_closed}
use Rattle.refusal_table.proofs.Settling.{settles_9, settles_10, settles_11, settles_12, settles_13, settles_14}
use Rattle.refusal_table.proofs.Sizes.{new_6, new_no_other, told_closed, told_rows}

pub table : RefusalTable
table = record {
  serialize_1 = λ s m payload output. (message_rows s m payload output).first;
  packet_length_1 = length_1;
  serialize_2 = λ s m payload output. (message_rows s m payload output).second;
  packet_length_2 = length_2;
  change_size_3 = λ s size time output. (size_rows s size time output).first;
  tell_size_3 = λ came d o size. (told_rows came d o size).first;
  change_size_4 = λ s size time output. (size_rows s size time output).second;
  tell_size_4 = λ came d o size. (told_rows came d o size).second;
  serialize_5 = λ s m payload output. (message_rows s m payload output).third;
  change_size_5 = λ s size time output. (size_rows s size time output).third;
  write_body_5 = write_5;
  write_control_5 = put_5;
  new_6 = new_6;
  call_7 = call_7;
  tell_size_8 = λ came d o size. (told_rows came d o size).third;
  call_9 = call_at _ 9 _ (omega arith) (omega arith) settles_9;
  call_10 = call_at _ 10 _ (omega arith) (omega arith) settles_10;
  call_11 = call_at _ 11 _ (omega arith) (omega arith) settles_11;
  call_12 = call_at _ 12 _ (omega arith) (omega arith) settles_12;
  call_13 = call_at _ 13 _ (omega arith) (omega arith) settles_13;
  call_14 = call_at _ 14 _ (omega arith) (omega arith) settles_14;
  read_body_15 = body_15;
  read_control_15 = control_15;
  read_body_16 = body_16;
  read_control_16 = control_16;
  write_control_16 = put_16;
}

pub closed_stays : ClosedStays
closed_stays = record { call = λ d n input payload. next_closed d input payload n; tell_size = told_closed }

pub no_other : NoOther
no_other = record {
  serialize = λ s m payload output. (message_rows s m payload output).no_other;
  packet_length = length_no_other;
  change_size = λ s size time output. (size_rows s size time output).no_other;
  write_body = write_no_other;
  read_body = body_no_other;
  write_control = put_no_other;
  read_control = control_no_other;
  new = new_no_other;
  tell_size = λ came d o size. (told_rows came d o size).no_other;
  call = λ came d o input payload b k n h. ⊎_elim inl (λ c. inr c.0) (call_refused came d o input payload b k n h);
  open_or_closed = open_or_closed;
}
