use Rattle.std.proofs.Common.{sym}
use Rattle.ext_lines.proofs.OctalSteps.{three_octal}
use Rattle.ext_lines.proofs.numbers.three_digits.Goals as goal

pub returns : goal.returns
returns c = sym (three_octal c.args.number c.requires.low c.requires.high)
