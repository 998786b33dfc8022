use Rattle.std.proofs.Common.{None, decimal, arith}
use Rattle.ext_attributes.proofs.MarksLemmas.{decimal_plain, head_of}
use Rattle.ext_attributes.proofs.field.told_number.Goals as goal

pub returns-in_err-first : goal.returns-in_err-first
returns-in_err-first c =
    rw c.from_residual.ensures (λ n o small is e. c.in_err-first.ensures (decimal n) o (decimal_plain n (omega (arith, small, c.ranges.most.fits))) is e)

pub returns-in_err-number : goal.returns-in_err-number
returns-in_err-number c =
    rw c.from_residual-in_err-number.ensures (λ n o small is e.
    let split = c.in_ok-first.ensures in
    c.in_err-number.ensures n small (head_of _ _ (decimal n) c.in_ok-first.owner o None None split.0 (decimal_plain n (omega (arith, small, c.ranges.most.fits))) split.2 e))
