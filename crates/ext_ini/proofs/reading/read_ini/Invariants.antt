use Rattle.std.proofs.Common.{◌≡◌, ◌+◌, ◌≤◌, length}
use Rattle.ext_ini.specs.Line.{file_lines}
use Rattle.ext_ini.specs.Reading.{ini_of, read_lines}
use Rattle.ext_ini.proofs.reading.read_ini.Given as goal

-- the lines that are left say, after those that were read, what the file says
abbrev pub invariant-lines : goal.invariant-lines
invariant-lines l = (read_lines l.reading (l.number + 1) (file_lines l.rest) ≡ ini_of l.bytes) × (l.number + length l.rest ≤ length l.bytes)

abbrev pub decreases-lines : goal.decreases-lines
decreases-lines l = length l.rest
