use Rattle.std.proofs.Common.{arith, ◌∙◌, sym}
use Rattle.ext_lines.proofs.ForCallers.{five_injective}
use Rattle.ext_index_lines.specs.HomedLaws.{file_digits-few}
use Rattle.ext_index_lines.proofs.homed.file_of.Goals as goal

pub returns-in_err-number : goal.returns-in_err-number
returns-in_err-number c = rw c.from_residual.ensures (λ n small e. c.in_err-number.ensures n (omega arith) (e ∙ file_digits-few n (omega arith)))

pub returns-then-number-le-LAST_FILE : goal.returns-then-number-le-LAST_FILE
returns-then-number-le-LAST_FILE c = (c.if-number-le-LAST_FILE.true, c.in_ok-number.ensures.1 ∙ sym (file_digits-few c.in_ok-number.number c.in_ok-number.ensures.0))

pub returns-else-number-le-LAST_FILE : goal.returns-else-number-le-LAST_FILE
returns-else-number-le-LAST_FILE c = λ n small e.
    let same = five_injective c.in_ok-number.number n c.in_ok-number.ensures.0 (omega arith) (sym c.in_ok-number.ensures.1 ∙ e ∙ file_digits-few n (omega arith)) in
    omega arith
