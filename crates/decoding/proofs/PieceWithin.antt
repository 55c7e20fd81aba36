-- Payload bytes that do not end their chunk, one by one, are one copy and a smaller count of bytes that the chunk lacks.
use Rattle.std.proofs.Common.{◌≡◌, ℕ, ◌+◌, List, [], length, sym, ap, ◌∙◌, append-nil, arith}
use lib.Seq.{sets}
use Rattle.fields.specs.Output.{stored}
use Rattle.fields.proofs.Lists.{stored_fits}
use Rattle.decoding.specs.Decoder.{Decoder}
use Rattle.byte_machine.specs.Reader.{Stepped}
use Rattle.decoding.specs.Answer.{more}
use Rattle.decoding.specs.Call.{after, next, outcome, run}
use Rattle.byte_machine.specs.Payload.{landed}
use Rattle.decoding.specs.Within.{Lies, nearer}
use Rattle.decoding.proofs.Runs.{bulk, landed_short, next_runs, then}

module _ (d : Decoder) (input payload : List ℕ) (w : Lies d (length input) (length payload)) where
  runs_short : run input d payload 0 ≡ outcome (more (length input)) (nearer d (length input)) (sets payload d.reader.message.got input)
  unfolding after run
  runs_short =
      let short = w.short in
      let count : 0 + length input ≡ length input = omega arith in
      ap (λ (l : List ℕ). run l d payload 0) (sym (append-nil input))
      ∙ bulk input [] d payload 0 w.stage w.some (omega arith) w.ends
      ∙ ap (λ (n : ℕ). then d (landed d.reader (length input)) (sets payload d.reader.message.got input) n []) count
      ∙ ap (λ (s : Stepped). then d s (sets payload d.reader.message.got input) (length input) []) (landed_short d.reader (length input) short)

  pub next_within : next d input payload ≡ outcome (more (length input)) (nearer d (length input)) (stored payload d.reader.message.got input)
  next_within =
      let ends = w.ends in
      let short = w.short in
      let room = w.room in
      next_runs d input payload w.open_still room
      ∙ runs_short
      ∙ ap (λ (l : List ℕ). outcome (more (length input)) (nearer d (length input)) l) (sym (stored_fits payload input d.reader.message.got (omega arith)))
