-- The stages of a chunk: what one that is held stands for in the machine, and by which numbers it is lent.
use Rattle.std.specs.Prelude.{ℕ, ◌%◌, [], ◌∷◌, eqb}
use Rattle.fields.specs.Cases.{◌when◌, first}
use Rattle.byte_machine.specs.Reader.{Stage, Csid, CsidSecond, CsidThird, InitialTimestamp, MessageLength, MessageTypeId, MessageStreamId, ExtendedTimestamp, MessagePayload}
use Rattle.held.specs.declared.stage.Stage.{Stage as HeldStage}
use Rattle.held.specs.declared.stage.Stage.TheVariants.{Csid as AtCsid, CsidSecond as AtSecond, CsidThird as AtThird, InitialTimestamp as AtTimestamp, MessageLength as AtLength, MessageTypeId as AtTypeId, MessageStreamId as AtStreamId, ExtendedTimestamp as AtExtended, MessagePayload as AtPayload}

abbrev pub stage_of : HeldStage → Stage
stage_of AtCsid = Csid
stage_of (AtSecond a) = CsidSecond a
stage_of (AtThird a b) = CsidThird a b
stage_of (AtTimestamp n lacks) = InitialTimestamp n lacks
stage_of (AtLength n lacks) = MessageLength n lacks
stage_of AtTypeId = MessageTypeId
stage_of (AtStreamId n lacks) = MessageStreamId n lacks
stage_of (AtExtended n lacks) = ExtendedTimestamp n lacks
stage_of AtPayload = MessagePayload

-- the field that the next byte belongs to, by its number, with what was gathered of it and what it lacks; a number over 8 means 8
unfoldable pub stage_in : (stage number lacks : ℕ) → HeldStage
stage_in stage n lacks =
    first (AtCsid when eqb stage 0
    ∷ AtSecond n when eqb stage 1
    ∷ AtThird n (lacks % 256) when eqb stage 2
    ∷ AtTimestamp n lacks when eqb stage 3
    ∷ AtLength n lacks when eqb stage 4
    ∷ AtTypeId when eqb stage 5
    ∷ AtStreamId n lacks when eqb stage 6
    ∷ AtExtended n lacks when eqb stage 7
    ∷ []) AtPayload

abbrev pub stage_from : (stage number lacks : ℕ) → Stage
stage_from stage n lacks = stage_of (stage_in stage n lacks)

-- the way back: its number, what was gathered, and what it lacks
abbrev pub code_of : Stage → ℕ
code_of Csid = 0
code_of (CsidSecond a) = 1
code_of (CsidThird a b) = 2
code_of (InitialTimestamp n lacks) = 3
code_of (MessageLength n lacks) = 4
code_of MessageTypeId = 5
code_of (MessageStreamId n lacks) = 6
code_of (ExtendedTimestamp n lacks) = 7
code_of MessagePayload = 8

abbrev pub number_of : Stage → ℕ
number_of Csid = 0
number_of (CsidSecond a) = a
number_of (CsidThird a b) = a
number_of (InitialTimestamp n lacks) = n
number_of (MessageLength n lacks) = n
number_of MessageTypeId = 0
number_of (MessageStreamId n lacks) = n
number_of (ExtendedTimestamp n lacks) = n
number_of MessagePayload = 0

abbrev pub lacks_of : Stage → ℕ
lacks_of Csid = 0
lacks_of (CsidSecond a) = 0
lacks_of (CsidThird a b) = b
lacks_of (InitialTimestamp n lacks) = lacks
lacks_of (MessageLength n lacks) = lacks
lacks_of MessageTypeId = 0
lacks_of (MessageStreamId n lacks) = lacks
lacks_of (ExtendedTimestamp n lacks) = lacks
lacks_of MessagePayload = 0
