use Rattle.std.proofs.Common.{take}
use Rattle.std.specs.List.{AllByRecursion}
use Rattle.ext_index.specs.ValidIndex.{IsWellFormedAttachment}
use Rattle.ext_gen.proofs.preparing.forms.look_at_attachments.Given as goal

-- those so far are
abbrev pub invariant-attachments : goal.invariant-attachments
invariant-attachments l = AllByRecursion IsWellFormedAttachment (take l.attachment-index l.attached)
