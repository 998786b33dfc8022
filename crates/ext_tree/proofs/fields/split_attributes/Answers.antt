use Rattle.std.proofs.Common.{arith}
use Rattle.ext_lines.proofs.ForCallers.{split_field, split_none}
use Rattle.ext_attributes.proofs.ForCallers.{attributes_lack}
use Rattle.ext_tree.proofs.fields.split_attributes.Goals as goal

pub returns-in_err-field : goal.returns-in_err-field
returns-in_err-field c = rw c.from_residual.ensures (λ a rest is e. split_none 32 _ _ rest c.in_err-field.ensures e)

pub returns-in_err-read_attributes : goal.returns-in_err-read_attributes
returns-in_err-read_attributes c =
    rw c.from_residual-in_err-read_attributes.ensures (λ a rest is e. c.in_err-read_attributes.ensures a is (split_field 32 _ _ _ _ rest c.in_ok-field.ensures (attributes_lack 32 a (omega arith) is) e).0)
