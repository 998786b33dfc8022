use Rattle.std.proofs.Common.{ap, ◌∙◌, arith}
use Rattle.std.specs.Prelude.{None}
use Rattle.ext_ini.specs.Line.{file_lines}
use Rattle.ext_ini.specs.Reading.{read_lines}
use Rattle.ext_ini.specs.Taking.{nothing}
use Rattle.ext_ini.proofs.ReadingLemmas.{at, lines_are_wholes}
use Rattle.ext_ini.proofs.reading.read_ini.Goals as goal

pub lines-init : goal.lines-init
lines-init c = (
  ap (λ s. read_lines (at s None) 1 (file_lines c.args.bytes.now)) c.new.ensures ∙ lines_are_wholes (file_lines c.args.bytes.now) None 1 nothing,
  omega arith,
)
