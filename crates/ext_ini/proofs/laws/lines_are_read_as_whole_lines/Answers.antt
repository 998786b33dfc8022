use Rattle.std.specs.Prelude.{None}
use Rattle.ext_ini.specs.Line.{file_lines}
use Rattle.ext_ini.specs.Taking.{nothing}
use Rattle.ext_ini.proofs.ReadingLemmas.{lines_are_wholes}
use Rattle.ext_ini.proofs.laws.lines_are_read_as_whole_lines.Goals as goal

pub returns : goal.returns
returns c = λ bytes. lines_are_wholes (file_lines bytes) None 1 nothing
