use Rattle.std.proofs.Common.{ℕ, List, ◌++◌, take}
use Rattle.std.specs.List.{flat_map}
use Rattle.ext_lines.specs.Lines.{lines_text}
use Rattle.ext_index.specs.Index.{attachment_lines}
use Rattle.ext_index.proofs.printing.put_attachments.Given as goal

abbrev pub invariant-attachments : goal.invariant-attachments
invariant-attachments g l = (before : List ℕ) → g.O.Out.holds l.fn.out before → g.O.Out.holds l.out (before ++ lines_text (flat_map (attachment_lines) (take l.attachment-index l.attached)))
