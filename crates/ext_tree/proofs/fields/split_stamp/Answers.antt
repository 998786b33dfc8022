use Rattle.std.proofs.Common.{arith, sym, ◌∙◌}
use Rattle.ext_lines.proofs.ForCallers.{split_once, decimal_lacks}
use Rattle.ext_tree.proofs.fields.split_stamp.Goals as goal

pub returns-in_err-digest : goal.returns-in_err-digest
returns-in_err-digest c =
    rw c.from_residual-in_err-digest.ensures (λ s rest is e.
    let read = c.in_ok-size.ensures in
    let split = split_once 32 _ _ _ _ (decimal_lacks 32 _ (omega arith) (omega arith)) (decimal_lacks 32 s.size (omega arith) (omega (arith, is.size))) (sym read.1 ∙ e) in
    c.in_err-digest.ensures s.digest.0 rest is.digest split.1)
