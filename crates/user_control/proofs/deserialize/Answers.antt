-- The code and the numbers are the definition's, and each way out is one of its cases.
use Rattle.std.proofs.Common.{◌≡◌, ℕ, ◌%◌, ◌^◌, ◌≤◌, false, List, [], ◌∷◌, length, take, drop, refl, sym, ap, ◌∙◌, arith, lt-ltb, rules}
use Rattle.fields.specs.Endian.{number, Bytes}
use Rattle.user_control.specs.declared.code.Code.{Code}
use Rattle.user_control.specs.declared.code.Code.TheVariants.{StreamBegin, StreamEof, StreamDry, SetBufferLength, StreamIsRecorded, PingRequest, PingResponse, BufferEmpty, BufferReady}
use Rattle.user_control.specs.Answer.{event, read_answer, refused}
use Rattle.user_control.specs.Code.{number_of}
use Rattle.user_control.specs.Reading.{code_in, known, count, body_length, reading}
use Rattle.user_control.proofs.Codes.{known_code}
use Rattle.user_control.proofs.Reading.{reads_unknown, reads_short, code_read, reads_one, reads_two}
use Rattle.user_control.proofs.deserialize.Goals as goal

-- as many bytes as the table says are as many as the code's body has
enough : (bytes : List ℕ) (code k : Code) (needed : ℕ) → needed ≡ body_length (number_of code) → needed ≤ length bytes → code ≡ k
    → body_length (number_of k) ≤ length bytes
enough bytes code k needed table long is = omega (arith, table, ap (λ x. body_length (number_of x)) is)

-- an event of one number, where the code and the first number have been read
one : (bytes : List ℕ) → Bytes bytes → 2 ≤ length bytes → (code k : Code) (read needed n : ℕ) → number_of code ≡ read → read ≡ code_in bytes % 2 ^ 32
    → needed ≡ body_length (number_of code) → needed ≤ length bytes → code ≡ k → count (number_of k) ≡ 1 → n ≡ number (take 4 (drop 2 bytes)) % 2 ^ 32
    → event (number_of k) (n ∷ []) ≡ reading bytes
one bytes B two code k read needed n named e table long is single f =
    reads_one bytes B two (number_of k) n (sym e ∙ sym named ∙ ap number_of is) (known_code k) single (enough bytes code k needed table long is) f

pub returns-then-bytes-lt2 : goal.returns-then-bytes-lt2
unfolding reading
returns-then-bytes-lt2 c = simp (lt-ltb _ 2 c.if-bytes-lt2.true)

pub returns-in_err-code : goal.returns-in_err-code
returns-in_err-code c =
    let bytes = c.args.bytes.now in
    let B : Bytes bytes = λ i. omega (arith, c.type_inv.bytes i) in
    let read : c.number_at.result ≡ code_in bytes = c.number_at.ensures ∙ code_read bytes B (omega arith) in
    let other : known c.number_at.result ≡ false = c.in_err-code.ensures.1 in
    let said : read_answer c.from_residual.result ≡ refused 16 = search rules in
    said ∙ sym (reads_unknown bytes c.if-bytes-lt2.false (sym (ap known read) ∙ other))

pub returns-then-bytes-body_length : goal.returns-then-bytes-body_length
returns-then-bytes-body_length c =
    let bytes = c.args.bytes.now in
    let B : Bytes bytes = λ i. omega (arith, c.type_inv.bytes i) in
    let read : number_of c.in_ok-code.code ≡ code_in bytes = c.in_ok-code.ensures ∙ c.number_at.ensures ∙ code_read bytes B (omega arith) in
    sym (reads_short bytes (omega arith) (sym (ap known read) ∙ known_code c.in_ok-code.code) (omega (arith, c.body_length.ensures, ap body_length read)))

pub returns-in-StreamBegin : goal.returns-in-StreamBegin
unfolding count
returns-in-StreamBegin c =
    one c.args.bytes.now (λ i. omega (arith, c.type_inv.bytes i)) c.if-bytes-lt2.false _ StreamBegin _ _ _ c.in_ok-code.ensures c.number_at.ensures c.body_length.ensures c.if-bytes-body_length.false c.in-StreamBegin.is refl c.number_at-stream_id.ensures

pub returns-in-StreamEof : goal.returns-in-StreamEof
unfolding count
returns-in-StreamEof c =
    one c.args.bytes.now (λ i. omega (arith, c.type_inv.bytes i)) c.if-bytes-lt2.false _ StreamEof _ _ _ c.in_ok-code.ensures c.number_at.ensures c.body_length.ensures c.if-bytes-body_length.false c.in-StreamEof.is refl c.number_at-stream_id.ensures

pub returns-in-StreamDry : goal.returns-in-StreamDry
unfolding count
returns-in-StreamDry c =
    one c.args.bytes.now (λ i. omega (arith, c.type_inv.bytes i)) c.if-bytes-lt2.false _ StreamDry _ _ _ c.in_ok-code.ensures c.number_at.ensures c.body_length.ensures c.if-bytes-body_length.false c.in-StreamDry.is refl c.number_at-stream_id.ensures

pub returns-in-StreamIsRecorded : goal.returns-in-StreamIsRecorded
unfolding count
returns-in-StreamIsRecorded c =
    one c.args.bytes.now (λ i. omega (arith, c.type_inv.bytes i)) c.if-bytes-lt2.false _ StreamIsRecorded _ _ _ c.in_ok-code.ensures c.number_at.ensures c.body_length.ensures c.if-bytes-body_length.false c.in-StreamIsRecorded.is refl c.number_at-stream_id.ensures

pub returns-in-PingRequest : goal.returns-in-PingRequest
unfolding count
returns-in-PingRequest c =
    one c.args.bytes.now (λ i. omega (arith, c.type_inv.bytes i)) c.if-bytes-lt2.false _ PingRequest _ _ _ c.in_ok-code.ensures c.number_at.ensures c.body_length.ensures c.if-bytes-body_length.false c.in-PingRequest.is refl (c.new-timestamp.ensures ∙ c.number_at-stream_id.ensures)

pub returns-in-PingResponse : goal.returns-in-PingResponse
unfolding count
returns-in-PingResponse c =
    one c.args.bytes.now (λ i. omega (arith, c.type_inv.bytes i)) c.if-bytes-lt2.false _ PingResponse _ _ _ c.in_ok-code.ensures c.number_at.ensures c.body_length.ensures c.if-bytes-body_length.false c.in-PingResponse.is refl (c.new-timestamp.ensures ∙ c.number_at-stream_id.ensures)

pub returns-in-BufferEmpty : goal.returns-in-BufferEmpty
unfolding count
returns-in-BufferEmpty c =
    one c.args.bytes.now (λ i. omega (arith, c.type_inv.bytes i)) c.if-bytes-lt2.false _ BufferEmpty _ _ _ c.in_ok-code.ensures c.number_at.ensures c.body_length.ensures c.if-bytes-body_length.false c.in-BufferEmpty.is refl c.number_at-stream_id.ensures

pub returns-in-BufferReady : goal.returns-in-BufferReady
unfolding count
returns-in-BufferReady c =
    one c.args.bytes.now (λ i. omega (arith, c.type_inv.bytes i)) c.if-bytes-lt2.false _ BufferReady _ _ _ c.in_ok-code.ensures c.number_at.ensures c.body_length.ensures c.if-bytes-body_length.false c.in-BufferReady.is refl c.number_at-stream_id.ensures

pub returns-in-SetBufferLength : goal.returns-in-SetBufferLength
unfolding count
returns-in-SetBufferLength c =
    let bytes = c.args.bytes.now in
    let long = enough bytes _ SetBufferLength _ c.body_length.ensures c.if-bytes-body_length.false c.in-SetBufferLength.is in
    let code : c.number_at.result ≡ 3 = sym c.in_ok-code.ensures ∙ ap number_of c.in-SetBufferLength.is in
    reads_two bytes (λ i. omega (arith, c.type_inv.bytes i)) c.if-bytes-lt2.false 3 _ _ (sym c.number_at.ensures ∙ code) (known_code SetBufferLength) refl long c.number_at-stream_id.ensures c.number_at-buffer_length.ensures
