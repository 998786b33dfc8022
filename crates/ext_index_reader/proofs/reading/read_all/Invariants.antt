use Rattle.std.proofs.Common.{◌+◌, ◌≤◌, length}
use Rattle.ext_index_reader.specs.Reading.{IsRead}
use Rattle.ext_index_reader.proofs.reading.read_all.Given as goal

-- the bytes are the lines so far, which may stand where they do, and the rest
abbrev pub invariant-lines : goal.invariant-lines
invariant-lines l = record {
  read : IsRead l.fn.generation l.fn.bytes l.rest l.line l.reading;
  room : l.line + length l.rest ≤ 1 + length l.fn.bytes;
}

abbrev pub decreases-lines : goal.decreases-lines
decreases-lines l = length l.rest
