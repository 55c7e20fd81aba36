-- What writing a record answers and leaves: 28 where the version cannot hold the settings, then 5.
use Rattle.std.specs.Prelude.{ℕ, not, List, [], ◌∷◌}
use Rattle.fields.specs.Cases.{◌when◌, first}
use Rattle.fields.specs.Writing.{Outcome, refuse, writing}
use Rattle.settings.specs.declared.Settings.{Settings}
use Rattle.settings.specs.Limits.{holds}
use Rattle.settings.specs.Record.{record_of}

unfoldable pub storing : (version : ℕ) → Settings → (output : List ℕ) → Outcome
storing v s output = first (refuse 28 output when not (holds v s) ∷ []) (writing (record_of v s) output)
