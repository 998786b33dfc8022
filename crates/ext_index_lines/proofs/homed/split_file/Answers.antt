use Rattle.std.proofs.Common.{arith}
use Rattle.ext_lines.proofs.ForCallers.{split_field, split_none}
use Rattle.ext_index_lines.specs.HomedLaws.{file_digits-lack}
use Rattle.ext_index_lines.proofs.homed.split_file.Goals as goal

pub returns-in_err-field : goal.returns-in_err-field
returns-in_err-field c = rw c.from_residual.ensures (λ n rest small e. split_none 32 _ _ rest c.in_err-field.ensures e)

pub returns-in_err-file_of : goal.returns-in_err-file_of
returns-in_err-file_of c =
    rw c.from_residual-in_err-file_of.ensures (λ n rest small e. c.in_err-file_of.ensures n small (split_field 32 _ _ _ _ rest c.in_ok-field.ensures (file_digits-lack 32 n (omega arith)) e).0)
