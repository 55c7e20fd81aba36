-- The session gives what is expected, by computing the definitions.
use Rattle.std.proofs.Common.{[], ◌∷◌, map, ◌≡◌, refl}
use Rattle.fields.specs.Endian.{big_endian, little_endian, gather}
use Rattle.chunk_header.specs.Basic.{csid}
use Rattle.chunk_header.specs.Layout.{chunk_bytes}
use Rattle.chunk_header.specs.Table.{field_length, format_of}
use Rattle.serializer.specs.Header.{delta, format}
use Rattle.serializer.specs.Message.{chunk_stream}
use Rattle.serializer.specs.Packet.{packet, pieces}
use Rattle.serializer.specs.Remembered.{fresh}
use Rattle.serializer.specs.Serialize.{sent, serialized, size_changed}
use Rattle.drop_plan.specs.Check.{among, every, includes, judged, rising, within}
use Rattle.drop_plan.specs.Plan.{plan, until}
use Rattle.drop_plan.specs.Queue.{places_from, those, total}
use Rattle.round_trip.specs.Demand3.{Packet}
use Rattle.plan_keeps.specs.Runs.{first, first_calls, first_queue, second, second_calls, second_queue, session, session_messages}
use Rattle.plan_keeps.specs.Session.{Accepted, Gives, after_calls, planned, queue_of, queued}
use Rattle.plan_keeps.proofs.Keeps.{plan_keeps}

pub first_queued : queue_of (queued fresh first_calls) ≡ first_queue
unfolding big_endian little_endian gather csid chunk_bytes field_length format_of delta format chunk_stream pieces packet sent serialized size_changed
first_queued = refl

pub second_queued : queue_of (queued (after_calls fresh first_calls) second_calls) ≡ second_queue
unfolding big_endian little_endian gather csid chunk_bytes field_length format_of delta format chunk_stream pieces packet sent serialized size_changed
second_queued = refl

-- the places are the planner's
pub as_planned : plan first_queue 28 ∷ plan second_queue 16 ∷ [] ≡ first.places ∷ second.places ∷ []
unfolding until those total places_from
as_planned = refl

session_accepted : Accepted fresh session
unfolding big_endian little_endian gather csid chunk_bytes field_length format_of delta format chunk_stream pieces packet sent serialized size_changed judged rising within includes every among total places_from
session_accepted = (refl, (refl, tt))

pub session_gives : Gives session
session_gives = plan_keeps session session_accepted

pub session_hands_out : map (λ (p : Packet). p.message) (planned fresh session) ≡ session_messages
unfolding big_endian little_endian gather csid chunk_bytes field_length format_of delta format chunk_stream pieces packet sent serialized size_changed
session_hands_out = refl
