use Rattle.std.proofs.Common.{length, refl, sym, ap, ◌∙◌}
use Rattle.std.proofs.lemmas.Bool.{false≢true}
use Rattle.hex.specs.Hex.{encode_lower}
use Rattle.ext_lines.proofs.HexadecimalLemmas.{hex_count}
use Rattle.ext_lines.proofs.hexadecimal.read_hex_digits.Goals as goal

pub returns-then-text-ne64 : goal.returns-then-text-ne64
returns-then-text-ne64 c = λ bs is e. c.if-text-ne64.true (ap length e ∙ (hex_count bs is).0)

pub returns-then-is_written_so : goal.returns-then-is_written_so
returns-then-is_written_so c = (c.bytes_of-bytes.ensures.bytes, c.if-is_written_so.ensures.0 refl)

pub returns-else-is_written_so : goal.returns-else-is_written_so
returns-else-is_written_so c = λ bs is e. false≢true (c.if-is_written_so.ensures.1 (e ∙ ap encode_lower (sym (c.bytes_of-bytes.ensures.read bs is e))))
