-- The codes have known numbers, and a number that is none of theirs is not known.
use Rattle.std.proofs.Common.{◌≡◌, ℕ, true, false, ◌≢◌, refl, ne_eqb}
use Rattle.user_control.specs.declared.code.Code.{Code}
use Rattle.user_control.specs.declared.code.Code.TheVariants.{StreamBegin, StreamEof, StreamDry, SetBufferLength, StreamIsRecorded, PingRequest, PingResponse, BufferEmpty, BufferReady}
use Rattle.user_control.specs.Code.{number_of}
use Rattle.user_control.specs.Reading.{known}

pub known_code : (k : Code) → known (number_of k) ≡ true
unfolding known
known_code StreamBegin = refl
known_code StreamEof = refl
known_code StreamDry = refl
known_code SetBufferLength = refl
known_code StreamIsRecorded = refl
known_code PingRequest = refl
known_code PingResponse = refl
known_code BufferEmpty = refl
known_code BufferReady = refl

-- none of the nine
pub unknown_other : (c : ℕ) → c ≢ 0 → c ≢ 1 → c ≢ 2 → c ≢ 3 → c ≢ 4 → c ≢ 6 → c ≢ 7 → c ≢ 31 → c ≢ 32 → known c ≡ false
unfolding known
unknown_other c n0 n1 n2 n3 n4 n6 n7 n31 n32 =
    simp (ne_eqb c 0 n0, ne_eqb c 1 n1, ne_eqb c 2 n2, ne_eqb c 3 n3, ne_eqb c 4 n4, ne_eqb c 6 n6, ne_eqb c 7 n7, ne_eqb c 31 n31, ne_eqb c 32 n32)
