use Rattle.std.proofs.Common.{◌≡◌, ◌≤◌, ◌++◌, length, take, drop}
use Rattle.ext_disk.specs.Pieces.{joined}
use Rattle.ext_disk.proofs.pieces.read_parts.Given as goal

-- the buffer begins with what was asked for so far, and the parts that are left hold the rest
abbrev pub invariant-parts : goal.invariant-parts
invariant-parts l =
    (l.count ≤ length l.buf) × (drop l.passed (joined l.parts) ≡ take l.count l.buf ++ drop l.from (joined (drop l.part-index l.parts)))
