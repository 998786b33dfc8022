use Rattle.std.proofs.Common.{arith}
use Rattle.ext_lines.proofs.ForCallers.{split_field, split_none}
use Rattle.ext_attributes.proofs.MarksLemmas.{decimal_plain}
use Rattle.ext_attributes.proofs.numbers.split_number.Goals as goal

pub returns-in_err-field : goal.returns-in_err-field
returns-in_err-field c = rw c.from_residual.ensures (λ n rest small e. split_none 58 _ _ rest c.in_err-field.ensures e)

pub returns-in_err-read_decimal : goal.returns-in_err-read_decimal
returns-in_err-read_decimal c =
    rw c.from_residual-in_err-read_decimal.ensures (λ n rest small e. c.in_err-read_decimal.ensures n small (split_field 58 _ _ _ _ rest c.in_ok-field.ensures (decimal_plain n (omega (arith, small, c.ranges.most.fits))) e).0)
