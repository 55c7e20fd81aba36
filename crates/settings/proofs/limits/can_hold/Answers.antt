-- Each way out is one of the laws of Inside.
use Rattle.std.proofs.Common.{sym, ◌∙◌, arith, lt-ltb}
use Rattle.settings.specs.Record.{version_of}
use Rattle.settings.proofs.Inside.{holds_none, holds_no_kind, holds_any_kind}
use Rattle.settings.proofs.limits.can_hold.Goals as goal

pub returns-then-is_outside : goal.returns-then-is_outside
returns-then-is_outside c =
    let a = c.args in
    sym (holds_none (version_of a.version) a.settings (sym c.is_outside.ensures ∙ c.if-is_outside.true))

pub returns-else-kind_width-gt0 : goal.returns-else-kind_width-gt0
returns-else-kind_width-gt0 c =
    let a = c.args in
    sym (holds_no_kind (version_of a.version) a.settings (sym c.is_outside.ensures ∙ c.if-is_outside.false) (omega (arith, c.kind_width.ensures)))

pub returns-then-kind_width-gt0 : goal.returns-then-kind_width-gt0
returns-then-kind_width-gt0 c =
    let a = c.args in
    lt-ltb _ _ c.if-kind_width-gt0.true ∙ sym (holds_any_kind (version_of a.version) a.settings (sym c.is_outside.ensures ∙ c.if-is_outside.false) (λ e. omega (arith, c.kind_width.ensures)))
