use Rattle.std.proofs.Common.{None}
use Rattle.ext_lines.specs.Numbers.{octal}
use Rattle.ext_attributes.proofs.MarksLemmas.{head_of, octal_plain}
use Rattle.ext_attributes.proofs.field.owned_attributes.Goals as goal

pub returns-in_err-first : goal.returns-in_err-first
returns-in_err-first c = rw c.from_residual.ensures (λ a is e. c.in_err-first.ensures (octal a.mode) a.owner (octal_plain a.mode is.mode) is.owner e)

pub returns-in_err-mode : goal.returns-in_err-mode
returns-in_err-mode c =
    rw c.from_residual-in_err-mode.ensures (λ a is e.
    let split = c.in_ok-first.ensures in
    c.in_err-mode.ensures a.mode is.mode (head_of _ _ (octal a.mode) c.in_ok-first.owner a.owner None None split.0 (octal_plain a.mode is.mode) split.2 e))
