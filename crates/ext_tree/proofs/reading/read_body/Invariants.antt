use Rattle.std.proofs.Common.{◌≡◌, ◌+◌, ◌≤◌, ◌++◌, length}
use Rattle.std.specs.Prelude.{map}
use Rattle.ext_tree.specs.TreeText.{HasText, tree_line, version_of}
use Rattle.ext_lines.specs.Lines.{lines_text}
use Rattle.ext_tree.proofs.reading.read_body.Given as goal

-- the bytes are the lines of the entries so far, and the rest
abbrev pub invariant-lines : goal.invariant-lines
invariant-lines l = record {
  tree : HasText l.entries.items;
  needed : l.needed ≡ version_of l.entries.items;
  version : version_of l.entries.items ≤ l.fn.version;
  text : l.fn.bytes ≡ lines_text (map tree_line l.entries.items) ++ l.rest;
  counted : l.line ≡ l.fn.first + length l.entries.items;
  room : l.line + length l.rest ≤ l.fn.first + length l.fn.bytes;
}

abbrev pub decreases-lines : goal.decreases-lines
decreases-lines l = length l.rest
