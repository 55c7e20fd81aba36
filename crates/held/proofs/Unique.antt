-- What a byte did is decided by its listing: each part can be told back from what it means.
use Rattle.std.proofs.Common.{ℕ, ◌≡◌, refl, [], ◌∷◌, eqb, Result, Ok, Err}
use Rattle.fields.specs.Cases.{◌when◌, first}
use Rattle.fields.specs.Deciding.{Decides}
use Rattle.fields.proofs.Deciding.{told_decides}
use Rattle.byte_machine.specs.Reader.{Event, Go, Chunk, Message, Refuse, Stage, Csid, CsidSecond, CsidThird, InitialTimestamp, MessageLength, MessageTypeId, MessageStreamId, ExtendedTimestamp, MessagePayload}
use Rattle.held.specs.declared.done.ChunkRefusal.{ChunkRefusal}
use Rattle.held.specs.declared.done.ChunkRefusal.TheVariants.{UnknownStream, TooManyStreams, OtherStream, OtherHeader, SmallExtendedDelta, LengthOverRoom, Guard}
use Rattle.held.specs.declared.done.Done.{Done}
use Rattle.held.specs.declared.done.Event.{Event as HeldEvent}
use Rattle.held.specs.declared.done.Event.TheVariants.{Go as Goes, Chunk as EndsChunk, Message as EndsMessage}
use Rattle.held.specs.declared.stage.Stage.{Stage as HeldStage}
use Rattle.held.specs.declared.stage.Stage.TheVariants.{Csid as AtCsid, CsidSecond as AtSecond, CsidThird as AtThird, InitialTimestamp as AtTimestamp, MessageLength as AtLength, MessageTypeId as AtTypeId, MessageStreamId as AtStreamId, ExtendedTimestamp as AtExtended, MessagePayload as AtPayload}
use Rattle.held.specs.Done.{Beside, event_of, refusal_number, settled_by, told}
use Rattle.held.specs.Numbers.{held_row_of}
use Rattle.held.specs.Stages.{stage_of}

abbrev stage_from : Stage → HeldStage
stage_from Csid = AtCsid
stage_from (CsidSecond a) = AtSecond a
stage_from (CsidThird a b) = AtThird a b
stage_from (InitialTimestamp n lacks) = AtTimestamp n lacks
stage_from (MessageLength n lacks) = AtLength n lacks
stage_from MessageTypeId = AtTypeId
stage_from (MessageStreamId n lacks) = AtStreamId n lacks
stage_from (ExtendedTimestamp n lacks) = AtExtended n lacks
stage_from MessagePayload = AtPayload

stage_back : (s : HeldStage) → stage_from (stage_of s) ≡ s
stage_back AtCsid = refl
stage_back (AtSecond a) = refl
stage_back (AtThird a b) = refl
stage_back (AtTimestamp n lacks) = refl
stage_back (AtLength n lacks) = refl
stage_back AtTypeId = refl
stage_back (AtStreamId n lacks) = refl
stage_back (AtExtended n lacks) = refl
stage_back AtPayload = refl

abbrev event_from : Event → HeldEvent
event_from Go = Goes
event_from Chunk = EndsChunk
event_from Message = EndsMessage
event_from (Refuse k) = Goes

event_back : (e : HeldEvent) → event_from (event_of e) ≡ e
event_back Goes = refl
event_back EndsChunk = refl
event_back EndsMessage = refl

abbrev refusal_from : ℕ → ChunkRefusal
refusal_from k =
    first (UnknownStream when eqb k 9
    ∷ TooManyStreams when eqb k 10
    ∷ OtherStream when eqb k 11
    ∷ OtherHeader when eqb k 12
    ∷ SmallExtendedDelta when eqb k 13
    ∷ LengthOverRoom when eqb k 14
    ∷ []) Guard

refusal_back : (e : ChunkRefusal) → refusal_from (refusal_number e) ≡ e
refusal_back UnknownStream = refl
refusal_back TooManyStreams = refl
refusal_back OtherStream = refl
refusal_back OtherHeader = refl
refusal_back SmallExtendedDelta = refl
refusal_back LengthOverRoom = refl
refusal_back Guard = refl

abbrev done_from : Beside → Done
done_from b =
    let c = b.step.reader.chunk in
    record {
      held = record {
        room = b.setting.room;
        size = b.setting.size;
        closed = b.closed;
        stage = stage_from b.step.reader.stage;
        format = c.format;
        place = c.place;
        left = c.left;
        id = b.step.reader.message.id;
        got = b.step.reader.message.got;
        before = held_row_of c.before;
        header = held_row_of c.header;
      };
      event = event_from b.step.event;
      place = b.step.place;
    }

abbrev tell : Result Beside ℕ → Result Done ChunkRefusal
tell (Ok b) = Ok (done_from b)
tell (Err k) = Err (refusal_from k)

tell_back : (r : Result Done ChunkRefusal) → tell (told r) ≡ r
tell_back (Ok d) = rw (stage_back d.held.stage, event_back d.event) refl
tell_back (Err e) = rw (refusal_back e) refl

pub done_decides : Decides told
done_decides = told_decides told tell tell_back

-- and so is what a byte settled
abbrev settled_from : Event → Result HeldEvent ChunkRefusal
settled_from Go = Ok Goes
settled_from Chunk = Ok EndsChunk
settled_from Message = Ok EndsMessage
settled_from (Refuse k) = Err (refusal_from k)

settled_back : (r : Result HeldEvent ChunkRefusal) → settled_from (settled_by r) ≡ r
settled_back (Ok Goes) = refl
settled_back (Ok EndsChunk) = refl
settled_back (Ok EndsMessage) = refl
settled_back (Err e) = rw (refusal_back e) refl

pub settled_decides : Decides settled_by
settled_decides = told_decides settled_by settled_from settled_back
