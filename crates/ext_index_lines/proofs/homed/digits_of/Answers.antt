use Rattle.ext_index_lines.specs.Homed.{file_digits}
use Rattle.ext_index_lines.proofs.homed.digits_of.Goals as goal

pub returns : goal.returns
unfolding file_digits
returns c = c.five_digits.ensures
