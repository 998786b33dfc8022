use Rattle.std.proofs.Common.{◌≡◌, ◌++◌, drop}
use Rattle.ext_attached.specs.Going.{staying}
use Rattle.ext_attached.proofs.going.staying.Given as goal

-- those so far and those of the rest are all
abbrev pub invariant-attachments : goal.invariant-attachments
invariant-attachments l = l.rest.items ++ staying l.by l.text (drop l.attachment-index l.attached) ≡ staying l.by l.text l.attached
