-- What writing a body answers and leaves: 16 where a number is outside its limits, then 5.
use Rattle.std.specs.Prelude.{ℕ, List, [], ◌∷◌}
use Rattle.fields.specs.Cases.{◌when◌, first}
use Rattle.fields.specs.Writing.{Outcome, refuse, writing}
use Rattle.protocol_control.specs.declared.ProtocolControl.{ProtocolControl}
use Rattle.protocol_control.specs.Body.{body}
use Rattle.protocol_control.specs.Limits.{outside}

unfoldable pub putting : ProtocolControl → (output : List ℕ) → Outcome
putting c output = first (refuse 16 output when outside c ∷ []) (writing (body c) output)
