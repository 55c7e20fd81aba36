-- The table has what the rule gives at each code's number.
use Rattle.std.proofs.Common.{◌≡◌, refl, ap, ◌∙◌, slice_index_or}
use Rattle.user_control.specs.declared.code.Code.{Code}
use Rattle.user_control.specs.declared.code.Code.TheVariants.{StreamBegin, StreamEof, StreamDry, SetBufferLength, StreamIsRecorded, PingRequest, PingResponse, BufferEmpty, BufferReady}
use Rattle.user_control.specs.declared.length.TheConstants.{BODY_LENGTHS}
use Rattle.user_control.specs.Code.{number_of}
use Rattle.user_control.specs.Reading.{body_length, count}
use Rattle.user_control.proofs.length.body_length.Goals as goal

listed : (k : Code) → slice_index_or BODY_LENGTHS (number_of k) 0 ≡ body_length (number_of k)
unfolding count
listed StreamBegin = refl
listed StreamEof = refl
listed StreamDry = refl
listed SetBufferLength = refl
listed StreamIsRecorded = refl
listed PingRequest = refl
listed PingResponse = refl
listed BufferEmpty = refl
listed BufferReady = refl

pub returns : goal.returns
returns c = ap (λ i. slice_index_or BODY_LENGTHS i 0) c.number.ensures ∙ listed c.args.code
