use Rattle.std.proofs.Common.{[], ◌∷◌, refl}
use Rattle.ext_tree.proofs.ForCallers.{first_stops, second_stops}
use Rattle.ext_changes.specs.Lines.{change_line}
use Rattle.ext_changes.specs.Told.{told}
use Rattle.ext_changes.proofs.printing.append_change.Goals as goal

pub returns-in_err-append_line-clause-err : goal.returns-in_err-append_line-clause-err
returns-in_err-append_line-clause-err c = first_stops c.from_residual.result _ _ (change_line (told c.args.change.now)) (10 ∷ []) _ refl c.in_err-append_line.ensures.err

pub returns-clause-err : goal.returns-clause-err
returns-clause-err c = second_stops c.append_bytes.result _ _ _ (change_line (told c.args.change.now)) (10 ∷ []) _ refl c.in_ok-append_line.ensures.ok c.append_bytes.ensures.err
