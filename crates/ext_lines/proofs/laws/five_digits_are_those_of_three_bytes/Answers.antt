use Rattle.ext_lines.proofs.HexadecimalLemmas.{five_of_three}
use Rattle.ext_lines.proofs.laws.five_digits_are_those_of_three_bytes.Goals as goal

pub returns : goal.returns
returns c = five_of_three
