use Rattle.std.proofs.Common.{[], ◌∷◌, refl}
use Rattle.ext_index_lines.specs.Homed.{file_digits}
use Rattle.ext_tree.proofs.ForCallers.{first_stops, second_stops}
use Rattle.ext_index_lines.proofs.homed.append_file.Goals as goal

pub returns-in_err-append_bytes-clause-err : goal.returns-in_err-append_bytes-clause-err
returns-in_err-append_bytes-clause-err c = first_stops c.from_residual.result _ _ (file_digits c.args.file) (32 ∷ []) _ refl (rw c.digits_of.ensures at c.in_err-append_bytes.ensures.err)

pub returns-clause-err : goal.returns-clause-err
returns-clause-err c = second_stops c.append_bytes-2.result _ _ _ (file_digits c.args.file) (32 ∷ []) _ refl (rw c.digits_of.ensures at c.in_ok-append_bytes.ensures.ok) c.append_bytes-2.ensures.err
