use Rattle.std.proofs.Common.{◌≡◌, take}
use Rattle.std.specs.List.{flat_map}
use Rattle.ext_cmd.specs.Replies.{mark_line}
use Rattle.ext_cmd.proofs.mark_replies.marks_text.Given as goal

abbrev pub invariant-marks : goal.invariant-marks
invariant-marks l = l.text.items ≡ flat_map mark_line (take l.mark-index l.marks)
