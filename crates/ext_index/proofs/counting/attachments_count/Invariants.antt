use Rattle.std.proofs.Common.{◌≡◌, length, take}
use Rattle.std.specs.List.{flat_map}
use Rattle.ext_index_lines.specs.Out.{at_most_64_bits}
use Rattle.ext_index.specs.Index.{attachment_lines}
use Rattle.ext_index.proofs.counting.attachments_count.Given as goal

abbrev pub invariant-attachments : goal.invariant-attachments
invariant-attachments l = l.count ≡ at_most_64_bits (length (flat_map attachment_lines (take l.attachment-index l.attached)))
