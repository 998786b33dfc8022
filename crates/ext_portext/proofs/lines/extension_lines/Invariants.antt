use Rattle.std.proofs.Common.{◌≡◌, ◌++◌, drop}
use Rattle.ext_portext.specs.Lines.{extension_lines}
use Rattle.ext_portext.proofs.lines.extension_lines.Given as goal

-- the lines so far and those of the rest are all
abbrev pub invariant-extensions : goal.invariant-extensions
invariant-extensions l = l.lines.items ++ extension_lines (drop l.extending-index l.extensions) ≡ extension_lines l.extensions
