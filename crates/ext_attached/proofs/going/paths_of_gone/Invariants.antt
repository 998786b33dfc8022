use Rattle.std.proofs.Common.{◌≡◌, ◌++◌, drop}
use Rattle.std.specs.List.{flat_map}
use Rattle.ext_host.specs.declared.attachment.Attachment.{Attachment}
use Rattle.ext_attached.specs.Going.{gone}
use Rattle.ext_attached.proofs.going.paths_of_gone.Given as goal

-- the paths so far and those of the rest are all
abbrev pub invariant-attachments : goal.invariant-attachments
invariant-attachments l =
    l.paths.items ++ flat_map (λ (a : Attachment). a.added) (gone l.by l.text (drop l.attachment-index l.attached))
    ≡ flat_map (λ (a : Attachment). a.added) (gone l.by l.text l.attached)
