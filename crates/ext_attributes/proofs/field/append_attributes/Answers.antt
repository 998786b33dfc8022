use Rattle.std.proofs.Common.{None, refl}
use Rattle.ext_lines.specs.Numbers.{octal}
use Rattle.ext_attributes.specs.Attributes.{marks_text}
use Rattle.ext_attributes.proofs.AppendLemmas.{first_stops, second_stops}
use Rattle.ext_attributes.proofs.field.append_attributes.Goals as goal

pub returns-in_err-append_mode-clause-err : goal.returns-in_err-append_mode-clause-err
returns-in_err-append_mode-clause-err c =
    let a = c.args.attributes.now in
    first_stops c.from_residual.result _ _ (octal a.mode) (marks_text a.owner None) _ refl c.in_err-append_mode.ensures.err

pub returns-clause-err : goal.returns-clause-err
returns-clause-err c =
    let a = c.args.attributes.now in
    second_stops c.append_marks.result _ _ _ (octal a.mode) (marks_text a.owner None) _ refl c.in_ok-append_mode.ensures.ok c.append_marks.ensures.err
