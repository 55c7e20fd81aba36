-- Each format adds its own fields.
use Rattle.serializer.proofs.MessageHeader.{empty_added, no_stream_added, full_added, time_added}
use Rattle.serializer.proofs.cursor.Cursor.message_header.Goals as goal

pub returns-in-Full : goal.returns-in-Full
returns-in-Full c =
    full_added c.args.self.now c.args.format c.args.header c.requires c.in-Full.is c.initial_timestamp.ensures c.message_length_and_type_id.ensures c.message_stream_id.ensures

pub returns-in-TimeDeltaWithoutMessageStreamId : goal.returns-in-TimeDeltaWithoutMessageStreamId
returns-in-TimeDeltaWithoutMessageStreamId c =
    no_stream_added c.args.self.now c.args.format c.args.header c.requires c.in-TimeDeltaWithoutMessageStreamId.is c.initial_timestamp-in-TimeDeltaWithoutMessageStreamId.ensures c.message_length_and_type_id-in-TimeDeltaWithoutMessageStreamId.ensures

pub returns-in-TimeDeltaOnly : goal.returns-in-TimeDeltaOnly
returns-in-TimeDeltaOnly c = time_added c.args.self.now c.args.format c.args.header c.requires c.in-TimeDeltaOnly.is c.initial_timestamp-in-TimeDeltaOnly.ensures

pub returns-in-Empty : goal.returns-in-Empty
returns-in-Empty c = empty_added c.args.self.now c.args.format c.args.header c.requires c.in-Empty.is
