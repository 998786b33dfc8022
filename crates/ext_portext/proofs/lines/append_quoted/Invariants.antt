use Rattle.std.proofs.Common.{◌≡◌, ◌++◌, drop}
use Rattle.ext_portext.specs.Lines.{quoted}
use Rattle.ext_portext.proofs.lines.append_quoted.Given as goal

-- the bytes so far and those of the rest are all
abbrev pub invariant-bytes : goal.invariant-bytes
invariant-bytes l = l.lines.items ++ quoted (drop l.byte-index l.bytes) ≡ l.initial.lines.items ++ quoted l.bytes
