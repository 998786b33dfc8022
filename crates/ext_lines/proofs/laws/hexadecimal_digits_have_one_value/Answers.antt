use Rattle.ext_lines.proofs.HexadecimalLemmas.{five_injective, hex_injective}
use Rattle.ext_lines.proofs.laws.hexadecimal_digits_have_one_value.Goals as goal

pub returns-clause-bytes : goal.returns-clause-bytes
returns-clause-bytes c = hex_injective

pub returns-clause-number : goal.returns-clause-number
returns-clause-number c = five_injective
