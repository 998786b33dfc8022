use Rattle.std.proofs.Common.{[], ◌∷◌, refl, subst}
use Rattle.ext_lines.specs.Prefix.{AppendsPrefix}
use Rattle.ext_text.specs.Absolute.{absolute}
use Rattle.ext_tree.proofs.ForCallers.{first_stops}
use Rattle.ext_changes.specs.Lines.{sign}
use Rattle.ext_changes.proofs.printing.append_line.Goals as goal

pub returns-in_err-append_bytes-clause-err : goal.returns-in_err-append_bytes-clause-err
returns-in_err-append_bytes-clause-err c =
    first_stops c.from_residual.result _ _ (sign c.args.change.now.kind ∷ 32 ∷ []) (absolute c.args.change.now.path.now) _ refl
    (subst (AppendsPrefix c.args.text.now.items c.append_bytes.new.text.items) c.sign.ensures c.in_err-append_bytes.ensures.err)
