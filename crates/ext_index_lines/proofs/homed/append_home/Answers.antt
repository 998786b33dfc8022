use Rattle.std.proofs.Common.{[], ◌∷◌, ◌++◌, decimal, append_assoc, sym}
use Rattle.ext_index_lines.specs.Homed.{file_digits}
use Rattle.ext_tree.proofs.ForCallers.{first_stops, second_stops}
use Rattle.ext_index_lines.proofs.homed.append_home.Goals as goal

pub returns-in_err-append_number-clause-err : goal.returns-in_err-append_number-clause-err
returns-in_err-append_number-clause-err c = first_stops c.from_residual.result _ _ (decimal c.args.home.generation ++ 32 ∷ []) (file_digits c.args.home.file ++ 32 ∷ []) _ (sym (append_assoc (decimal c.args.home.generation) (32 ∷ []) (file_digits c.args.home.file ++ 32 ∷ []))) (rw c.from.ensures at c.in_err-append_number.ensures.err)

pub returns-clause-err : goal.returns-clause-err
returns-clause-err c = second_stops c.append_file.result _ _ _ (decimal c.args.home.generation ++ 32 ∷ []) (file_digits c.args.home.file ++ 32 ∷ []) _ (sym (append_assoc (decimal c.args.home.generation) (32 ∷ []) (file_digits c.args.home.file ++ 32 ∷ []))) (rw c.from.ensures at c.in_ok-append_number.ensures.ok) c.append_file.ensures.err
