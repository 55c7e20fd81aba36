-- The samples of document 01 that are marked M, in its order, Adobe's worked examples, and distances.
use Rattle.std.specs.Prelude.{ℕ, true, false, List, [], ◌∷◌, option_to_list}
use Rattle.chunk_header.specs.Basic.{csid}
use Rattle.chunk_header.specs.Worked.{audio, video}
use Rattle.user_control.specs.declared.UserControlEvent.TheVariants.{SetBufferLength}
use Rattle.user_control.specs.Answer.{Answer, event, refused}
use Rattle.user_control.specs.Body.{body}
use Rattle.user_control.specs.Reading.{reading}
use Rattle.samples.specs.Decoded.{decoded}
use Rattle.samples.specs.Distances.{distances}
use Rattle.samples.specs.Encoded.{Call, send, size, encoded}
use Rattle.samples.specs.Sample.{Sample, ◌is◌}
use Rattle.samples.specs.Worked.{mixed, meant}

-- the values of an answer, in their order
abbrev values : Answer → List ℕ
values (event code numbers) = code ∷ numbers
values (refused number) = number ∷ []

-- M1 and what follows it: type 9, stream 1
abbrev video9 : ℕ → List ℕ → Call
video9 time payload = send 9 1 time payload false false

abbrev m1 : Call
m1 = video9 0 (0x01 ∷ 0x02 ∷ 0x03 ∷ [])

abbrev m2 : Call
m2 = video9 40 (0x01 ∷ 0x02 ∷ 0x03 ∷ [])

abbrev m3 : Call
m3 = video9 80 (0x01 ∷ 0x02 ∷ 0x03 ∷ [])

abbrev m4 : Call
m4 = video9 80 (0x01 ∷ 0x02 ∷ 0x03 ∷ 0x04 ∷ [])

-- the packets that document 01 prints
abbrev bytes1 : List ℕ
bytes1 = 0x04 ∷ 0x00 ∷ 0x00 ∷ 0x00 ∷ 0x00 ∷ 0x00 ∷ 0x03 ∷ 0x09 ∷ 0x01 ∷ 0x00 ∷ 0x00 ∷ 0x00 ∷ 0x01 ∷ 0x02 ∷ 0x03 ∷ []

abbrev bytes2 : List ℕ
bytes2 = 0x84 ∷ 0x00 ∷ 0x00 ∷ 0x28 ∷ 0x01 ∷ 0x02 ∷ 0x03 ∷ []

abbrev bytes3 : List ℕ
bytes3 = 0xC4 ∷ 0x01 ∷ 0x02 ∷ 0x03 ∷ []

abbrev bytes4 : List ℕ
bytes4 = 0x44 ∷ 0x00 ∷ 0x00 ∷ 0x00 ∷ 0x00 ∷ 0x00 ∷ 0x04 ∷ 0x09 ∷ 0x01 ∷ 0x02 ∷ 0x03 ∷ 0x04 ∷ []

abbrev bytes5 : List ℕ
bytes5 = 0x04 ∷ 0x00 ∷ 0x00 ∷ 0x28 ∷ 0x00 ∷ 0x00 ∷ 0x03 ∷ 0x09 ∷ 0x01 ∷ 0x00 ∷ 0x00 ∷ 0x00 ∷ 0x01 ∷ 0x02 ∷ 0x03 ∷ []

abbrev bytes6 : List ℕ
bytes6 = 0x05 ∷ 0xFF ∷ 0xFF ∷ 0xFF ∷ 0x00 ∷ 0x00 ∷ 0x01 ∷ 0x08 ∷ 0x01 ∷ 0x00 ∷ 0x00 ∷ 0x00 ∷ 0x00 ∷ 0xFF ∷ 0xFF ∷ 0xFF ∷ 0xAA ∷ []

abbrev bytes7 : List ℕ
bytes7 = 0x05 ∷ 0xFF ∷ 0xFF ∷ 0xFE ∷ 0x00 ∷ 0x00 ∷ 0x01 ∷ 0x08 ∷ 0x01 ∷ 0x00 ∷ 0x00 ∷ 0x00 ∷ 0xAA ∷ []

abbrev bytes8 : List ℕ
bytes8 = 0x84 ∷ 0xFF ∷ 0xFF ∷ 0xFF ∷ 0xFF ∷ 0xFF ∷ 0xFF ∷ 0xF6 ∷ 0xAA ∷ []

abbrev bytes9 : List ℕ
bytes9 = 0x02 ∷ 0x00 ∷ 0x00 ∷ 0x00 ∷ 0x00 ∷ 0x00 ∷ 0x04 ∷ 0x01 ∷ 0x00 ∷ 0x00 ∷ 0x00 ∷ 0x00 ∷ 0x00 ∷ 0x00 ∷ 0x10 ∷ 0x00 ∷ []

-- buffer length 500 on stream 1
abbrev bytes11 : List ℕ
bytes11 = 0x00 ∷ 0x03 ∷ 0x00 ∷ 0x00 ∷ 0x00 ∷ 0x01 ∷ 0x00 ∷ 0x00 ∷ 0x01 ∷ 0xF4 ∷ []

abbrev pub table : List Sample
table =
    -- M1, written and read: type 9, stream 1, time 0, 3 bytes, 15 used
    encoded m1 [] is bytes1
    ∷ decoded bytes1 [] is (9 ∷ 1 ∷ 0 ∷ 3 ∷ 15 ∷ 1 ∷ 2 ∷ 3 ∷ [])
    -- M2
    ∷ encoded m1 (m2 ∷ []) is bytes2
    ∷ decoded bytes1 (bytes2 ∷ []) is (9 ∷ 1 ∷ 40 ∷ 3 ∷ 7 ∷ 1 ∷ 2 ∷ 3 ∷ [])
    -- M3
    ∷ encoded m1 (m2 ∷ m3 ∷ []) is bytes3
    ∷ decoded bytes1 (bytes2 ∷ bytes3 ∷ []) is (9 ∷ 1 ∷ 80 ∷ 3 ∷ 4 ∷ 1 ∷ 2 ∷ 3 ∷ [])
    -- M4
    ∷ encoded m1 (m2 ∷ m3 ∷ m4 ∷ []) is bytes4
    ∷ decoded bytes1 (bytes2 ∷ bytes3 ∷ bytes4 ∷ []) is (9 ∷ 1 ∷ 80 ∷ 4 ∷ 12 ∷ 1 ∷ 2 ∷ 3 ∷ 4 ∷ [])
    -- M5: M1 droppable, and dropped
    ∷ encoded (send 9 1 0 (0x01 ∷ 0x02 ∷ 0x03 ∷ []) false true) (m2 ∷ []) is bytes5
    ∷ decoded bytes5 [] is (9 ∷ 1 ∷ 40 ∷ 3 ∷ 15 ∷ 1 ∷ 2 ∷ 3 ∷ [])
    -- M6
    ∷ encoded (send 8 1 16777215 (0xAA ∷ []) false false) [] is bytes6
    ∷ decoded bytes6 [] is (8 ∷ 1 ∷ 16777215 ∷ 1 ∷ 17 ∷ 0xAA ∷ [])
    -- M7
    ∷ encoded (send 8 1 16777214 (0xAA ∷ []) false false) [] is bytes7
    ∷ decoded bytes7 [] is (8 ∷ 1 ∷ 16777214 ∷ 1 ∷ 13 ∷ 0xAA ∷ [])
    -- M8: the time goes back
    ∷ encoded (video9 20 (0xAA ∷ [])) (video9 10 (0xAA ∷ []) ∷ []) is bytes8
    ∷ decoded (encoded (video9 20 (0xAA ∷ [])) []) (bytes8 ∷ []) is (9 ∷ 1 ∷ 10 ∷ 1 ∷ 9 ∷ 0xAA ∷ [])
    -- M9
    ∷ encoded (size 4096 0) [] is bytes9
    ∷ decoded bytes9 [] is (1 ∷ 0 ∷ 0 ∷ 4 ∷ 16 ∷ 0x00 ∷ 0x00 ∷ 0x10 ∷ 0x00 ∷ [])
    -- M10, and two ids that tell the second byte from the third
    ∷ option_to_list (csid (0x00 ∷ 0x00 ∷ [])) is (64 ∷ [])
    ∷ option_to_list (csid (0x00 ∷ 0xFF ∷ [])) is (319 ∷ [])
    ∷ option_to_list (csid (0x01 ∷ 0x00 ∷ 0x00 ∷ [])) is (64 ∷ [])
    ∷ option_to_list (csid (0x01 ∷ 0xFF ∷ 0xFF ∷ [])) is (65599 ∷ [])
    ∷ option_to_list (csid (0x01 ∷ 0x00 ∷ 0x01 ∷ [])) is (320 ∷ [])
    ∷ option_to_list (csid (0x01 ∷ 0x01 ∷ 0x00 ∷ [])) is (65 ∷ [])
    -- M11, written and read
    ∷ body (SetBufferLength 1 500) is bytes11
    ∷ values (reading bytes11) is (3 ∷ 1 ∷ 500 ∷ [])
    -- what Adobe's examples mean (5.3.2; their bytes: chunk_header's proofs/Samples.antt): times 1000, 1020, 1040, 1060; 307 bytes; mixed, each stream's messages in its order, the video's when its last chunk has come
    ∷ meant audio is (8 ∷ 12345 ∷ 1000 ∷ 32 ∷ 8 ∷ 12345 ∷ 1020 ∷ 32 ∷ 8 ∷ 12345 ∷ 1040 ∷ 32 ∷ 8 ∷ 12345 ∷ 1060 ∷ 32 ∷ [])
    ∷ meant video is (9 ∷ 12346 ∷ 1000 ∷ 307 ∷ [])
    ∷ meant mixed is (8 ∷ 12345 ∷ 1000 ∷ 32 ∷ 8 ∷ 12345 ∷ 1020 ∷ 32 ∷ 9 ∷ 12346 ∷ 1000 ∷ 307 ∷ 8 ∷ 12345 ∷ 1040 ∷ 32 ∷ [])
    -- how far apart two timestamps are
    ∷ distances
