-- What numbers mean and which stand for a decoder, on samples: each side computes to the other.
use Rattle.std.proofs.Common.{◌≡◌, refl, ℕ, List, [], ◌∷◌}
use Rattle.chunk_header.specs.declared.ChunkHeaderFormat.TheVariants.{TimeDeltaOnly, Empty}
use Rattle.byte_machine.specs.Reader.{CsidThird, InitialTimestamp, MessagePayload, current, reader, unfinished}
use Rattle.chunk_meaning.specs.Stored.{row}
use Rattle.decoding.specs.Told.{fresh}
use Rattle.decoding.specs.Decoder.{Decoder}
use Rattle.held.specs.Numbers.{again, decode, encode, format_from}
use Rattle.held.specs.Stages.{stage_from, stage_in}
use Rattle.byte_machine.specs.Setting.{setting}

-- a decoder to which nothing has come, of 4096 bytes of room
fresh_numbers : encode (fresh 4096 0)
    ≡ 4096 ∷ 128 ∷ 0 ∷ 0 ∷ 0 ∷ 0 ∷ 0 ∷ 64 ∷ 0 ∷ 0 ∷ 0 ∷ 0 ∷ 0 ∷ 0 ∷ 0 ∷ 0 ∷ 0 ∷ 0 ∷ 0 ∷ 0 ∷ 0 ∷ 0 ∷ 0 ∷ 0 ∷ []
fresh_numbers = refl

-- two bytes of a time have come, 1 and 2, of a chunk of type 2 of stream 5, whose row is the third and has 40 ms, 7 bytes, type 9
abbrev begun : Decoder
begun = record {
  setting = setting 4096 128;
  closed = 0;
  reader = reader (InitialTimestamp 258 1) (current TimeDeltaOnly 2 (row 5 40 40 7 9 1) (row 5 40 40 7 9 1) 0) (unfinished 0 0);
  rows = [];
}

abbrev numbers : List ℕ
numbers = 4096 ∷ 128 ∷ 0 ∷ 3 ∷ 258 ∷ 1 ∷ 2 ∷ 2 ∷ 0 ∷ 0 ∷ 0 ∷ 5 ∷ 40 ∷ 40 ∷ 7 ∷ 9 ∷ 1 ∷ 5 ∷ 40 ∷ 40 ∷ 7 ∷ 9 ∷ 1 ∷ 0 ∷ []

begun_numbers : encode begun ≡ numbers
begun_numbers = refl

begun_means : decode numbers [] ≡ begun
unfolding stage_in format_from
begun_means = refl

-- numbers that no call makes mean the nearest thing, and `again` brings them to those that stand for it
far_stage : stage_from 77 5 6 ≡ MessagePayload
unfolding stage_in
far_stage = refl

far_format : format_from 4 ≡ Empty
unfolding format_from
far_format = refl

long_second : stage_from 2 64 513 ≡ CsidThird 64 1
unfolding stage_in
long_second = refl

short_again : again (4096 ∷ 128 ∷ 0 ∷ 9 ∷ 5 ∷ 6 ∷ 4 ∷ []) ≡ 4096 ∷ 128 ∷ 0 ∷ 8 ∷ 0 ∷ 0 ∷ 3 ∷ 0 ∷ 0 ∷ 0 ∷ 0 ∷ 0 ∷ 0 ∷ 0 ∷ 0 ∷ 0 ∷ 0 ∷ 0 ∷ 0 ∷ 0 ∷ 0 ∷ 0 ∷ 0 ∷ 0 ∷ []
unfolding stage_in format_from
short_again = refl
