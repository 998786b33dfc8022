use Rattle.std.proofs.Common.{◌≡◌, take}
use Rattle.ext_changes.specs.Lines.{changes_text}
use Rattle.ext_changes.proofs.owning.owned_text.Given as goal

abbrev pub invariant-changes : goal.invariant-changes
invariant-changes l = l.text.items ≡ changes_text (take l.change-index l.changes)
