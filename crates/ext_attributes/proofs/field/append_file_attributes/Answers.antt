use Rattle.std.proofs.Common.{◌++◌, ap, sym}
use Rattle.ext_lines.specs.Numbers.{octal}
use Rattle.ext_attributes.specs.declared.attributes.Attributes.{Attributes}
use Rattle.ext_attributes.specs.Attributes.{marks_text}
use Rattle.ext_attributes.proofs.AppendLemmas.{first_stops}
use Rattle.ext_attributes.proofs.field.append_file_attributes.Goals as goal

pub returns-in_err-append_mode-clause-err : goal.returns-in_err-append_mode-clause-err
returns-in_err-append_mode-clause-err c =
    let a = c.attributes-attributes.result.now in
    first_stops c.from_residual.result _ _ (octal a.mode) (marks_text a.owner c.args.file.now.capability) _
    (ap (λ (b : Attributes). octal b.mode ++ marks_text b.owner c.args.file.now.capability) (sym c.attributes-attributes.ensures)) c.in_err-append_mode.ensures.err
