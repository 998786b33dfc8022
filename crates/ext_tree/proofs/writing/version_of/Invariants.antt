use Rattle.std.proofs.Common.{◌≡◌, take}
use Rattle.ext_tree.specs.TreeText.{version_of}
use Rattle.ext_tree.proofs.writing.version_of.Given as goal

abbrev pub invariant-loop-entry : goal.invariant-loop-entry
invariant-loop-entry l = l.version ≡ version_of (take l.entry-index l.entries)
