-- There and back: what was stored means the decoder that it stands for, so that the next call begins where the definition is.
use Rattle.std.proofs.Common.{◌≡◌, refl, ℕ, ◌%◌, ◌<◌, Bool, true, false, cond, List, eqb, get_or, arith}
use Rattle.chunk_header.specs.declared.ChunkHeaderFormat.{ChunkHeaderFormat}
use Rattle.chunk_header.specs.declared.ChunkHeaderFormat.TheVariants.{Full, TimeDeltaWithoutMessageStreamId, TimeDeltaOnly, Empty}
use Rattle.chunk_header.specs.Table.{type_of}
use Rattle.byte_machine.specs.Reader.{Stage, Csid, CsidSecond, CsidThird, InitialTimestamp, MessageLength, MessageTypeId, MessageStreamId, ExtendedTimestamp, MessagePayload}
use Rattle.decoding.specs.Decoder.{Decoder}
use Rattle.held.specs.Numbers.{again, decode, encode, format_from}
use Rattle.held.specs.declared.stage.Stage.TheVariants.{Csid as AtCsid, CsidSecond as AtSecond, CsidThird as AtThird, InitialTimestamp as AtTimestamp, MessageLength as AtLength, MessageTypeId as AtTypeId, MessageStreamId as AtStreamId, ExtendedTimestamp as AtExtended, MessagePayload as AtPayload}
use Rattle.held.specs.Stages.{code_of, lacks_of, number_of, stage_from, stage_in, stage_of}

-- the second byte of a basic header of three is a byte
abbrev pub third : Stage → ℕ
third Csid = 0
third (CsidSecond a) = 0
third (CsidThird a b) = b
third (InitialTimestamp n lacks) = 0
third (MessageLength n lacks) = 0
third MessageTypeId = 0
third (MessageStreamId n lacks) = 0
third (ExtendedTimestamp n lacks) = 0
third MessagePayload = 0

pub stage_again : (st : Stage) → third st < 256 → stage_from (code_of st) (number_of st) (lacks_of st) ≡ st
unfolding stage_in
stage_again Csid h = refl
stage_again (CsidSecond a) h = refl
stage_again (CsidThird a b) h = let e : b % 256 ≡ b = omega (arith, h) in rw e
stage_again (InitialTimestamp n lacks) h = refl
stage_again (MessageLength n lacks) h = refl
stage_again MessageTypeId h = refl
stage_again (MessageStreamId n lacks) h = refl
stage_again (ExtendedTimestamp n lacks) h = refl
stage_again MessagePayload h = refl

-- a format stands for itself
pub from_again : (f : ChunkHeaderFormat) → format_from (type_of f) ≡ f
unfolding format_from
from_again Full = refl
from_again TimeDeltaWithoutMessageStreamId = refl
from_again TimeDeltaOnly = refl
from_again Empty = refl

pub decode_encode : (d : Decoder) → third d.reader.stage < 256 → decode (encode d) d.rows ≡ d
decode_encode d h = rw (stage_again d.reader.stage h, from_again d.reader.chunk.format)

-- what numbers mean is small, whatever they are
pub from_small : (s n l : ℕ) → third (stage_from s n l) < 256
unfolding stage_in
from_small s n l = by_cases (eqb s 0) (eqb s 1) (eqb s 2) (eqb s 3) (eqb s 4) (eqb s 5) (eqb s 6) (eqb s 7)
  where
    by_cases : (t0 t1 t2 t3 t4 t5 t6 t7 : Bool) → third (stage_of (cond t0 AtCsid (cond t1 (AtSecond n) (cond t2 (AtThird n (l % 256)) (cond t3 (AtTimestamp n l) (cond t4 (AtLength n l) (cond t5 AtTypeId (cond t6 (AtStreamId n l) (cond t7 (AtExtended n l) AtPayload))))))))) < 256
    by_cases true t1 t2 t3 t4 t5 t6 t7 = omega arith
    by_cases false true t2 t3 t4 t5 t6 t7 = omega arith
    by_cases false false true t3 t4 t5 t6 t7 = omega arith
    by_cases false false false true t4 t5 t6 t7 = omega arith
    by_cases false false false false true t5 t6 t7 = omega arith
    by_cases false false false false false true t6 t7 = omega arith
    by_cases false false false false false false true t7 = omega arith
    by_cases false false false false false false false true = omega arith
    by_cases false false false false false false false false = omega arith

-- so numbers that were renewed mean what they meant
pub again_means : (held held' rows : List ℕ) → held' ≡ again held → decode held' rows ≡ decode held rows
again_means held held' rows k = rw k (decode_encode (decode held rows) (from_small (get_or held 3 0) (get_or held 4 0) (get_or held 5 0)))
