use Rattle.ext_lines.specs.Numbers.{octal}
use Rattle.ext_attributes.proofs.MarksLemmas.{head_of, octal_plain}
use Rattle.ext_attributes.proofs.field.file_parts.Goals as goal

pub returns-in_err-first : goal.returns-in_err-first
returns-in_err-first c =
    rw c.from_residual.ensures (λ a is e. c.in_err-first.ensures (octal a.attributes.mode) a.attributes.owner a.capability (octal_plain a.attributes.mode is.attributes.mode) is.attributes.owner is.capability e)

pub returns-in_err-mode : goal.returns-in_err-mode
returns-in_err-mode c =
    rw c.from_residual-in_err-mode.ensures (λ a is e.
    let split = c.in_ok-first.ensures in
    let mode = a.attributes.mode in
    c.in_err-mode.ensures mode is.attributes.mode (head_of _ _ (octal mode) c.in_ok-first.owner a.attributes.owner c.in_ok-first.capability a.capability split.0 (octal_plain mode is.attributes.mode) split.3 e))
