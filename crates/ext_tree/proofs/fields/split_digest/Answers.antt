use Rattle.std.proofs.Common.{sym, ◌∙◌}
use Rattle.hex.specs.Hex.{encode_lower}
use Rattle.ext_lines.proofs.ForCallers.{split_same, hex_count}
use Rattle.ext_tree.proofs.fields.split_digest.Goals as goal

pub returns-in_err-field : goal.returns-in_err-field
returns-in_err-field c = rw c.from_residual.ensures (λ ds rest is e. c.in_err-field.ensures (encode_lower ds) rest (hex_count ds is).0 e)

pub returns-in_err-read_hex_digits : goal.returns-in_err-read_hex_digits
returns-in_err-read_hex_digits c =
    let found = c.in_ok-field.ensures in
    rw c.from_residual-in_err-read_hex_digits.ensures (λ ds rest is e.
    c.in_err-read_hex_digits.ensures ds is (split_same _ (encode_lower ds) _ _ (found.0 ∙ sym (hex_count ds is).0) (sym found.1 ∙ e)).0)
