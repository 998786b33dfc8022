use Rattle.std.proofs.Common.{arith}
use Rattle.ext_lines.proofs.ForCallers.{split_field, split_none}
use Rattle.ext_attributes.proofs.ForCallers.{file_attributes_lack}
use Rattle.ext_tree.proofs.fields.split_file_attributes.Goals as goal

pub returns-in_default : goal.returns-in_default
returns-in_default c = λ a rest is e. split_none 32 _ _ rest c.in_default.ensures e

pub returns-in-None : goal.returns-in-None
returns-in-None c = λ a rest is e.
    (rw c.in-None.is at c.in_ok-read_file_attributes.ensures) a is (split_field 32 _ _ _ _ rest c.in-Some.ensures (file_attributes_lack 32 a (omega arith) is) e).0
