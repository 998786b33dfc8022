use Rattle.std.proofs.Common.{◌≡◌, take}
use Rattle.ext_changes.specs.Lines.{changes_text}
use Rattle.ext_changes.specs.Told.{all_told}
use Rattle.ext_changes.proofs.printing.changes_text.Given as goal

abbrev pub invariant-loop-change : goal.invariant-loop-change
invariant-loop-change l = l.text.items ≡ changes_text (all_told (take l.change-index l.changes))
