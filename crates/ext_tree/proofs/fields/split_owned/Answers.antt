use Rattle.std.proofs.Common.{arith}
use Rattle.ext_lines.proofs.ForCallers.{split_field, split_none}
use Rattle.ext_attributes.proofs.ForCallers.{owned_lacks}
use Rattle.ext_tree.proofs.fields.split_owned.Goals as goal

pub returns-in_err-field : goal.returns-in_err-field
returns-in_err-field c = rw c.from_residual.ensures (λ n o rest small is e. split_none 32 _ _ rest c.in_err-field.ensures e)

pub returns-in_err-number : goal.returns-in_err-number
returns-in_err-number c =
    rw c.from_residual-in_err-number.ensures (λ n o rest small is e. c.in_err-number.ensures n o small is (split_field 32 _ _ _ _ rest c.in_ok-field.ensures (owned_lacks 32 n o (omega arith) (omega (arith, small)) is) e).0)
