use Rattle.std.proofs.Common.{arith}
use Rattle.ext_lines.proofs.ForCallers.{split_field, split_none, decimal_lacks}
use Rattle.ext_tree.proofs.fields.split_number.Goals as goal

pub returns-in_err-field : goal.returns-in_err-field
returns-in_err-field c = rw c.from_residual.ensures (λ n rest small e. split_none 32 _ _ rest c.in_err-field.ensures e)

pub returns-in_err-read_decimal : goal.returns-in_err-read_decimal
returns-in_err-read_decimal c =
    rw c.from_residual-in_err-read_decimal.ensures (λ n rest small e. c.in_err-read_decimal.ensures n small (split_field 32 _ _ _ _ rest c.in_ok-field.ensures (decimal_lacks 32 n (omega arith) (omega (arith, small, c.ranges.most.fits))) e).0)
