use Rattle.std.proofs.Common.{◌≡◌, ◌++◌, drop}
use Rattle.std.specs.List.{filter}
use Rattle.std.specs.Ordering.{is_lt}
use Rattle.ext_lines.specs.ByteOrder.{bytes_cmp}
use Rattle.ext_host.specs.declared.attachment.Attachment.{Attachment}
use Rattle.ext_port.proofs.next_host.lesser.Given as goal

-- those so far and those of the rest are all
abbrev pub invariant-attachments : goal.invariant-attachments
invariant-attachments l =
    l.some.items ++ filter (λ (other : Attachment). is_lt (bytes_cmp other.name l.name)) (drop l.attachment-index l.attached)
    ≡ filter (λ (other : Attachment). is_lt (bytes_cmp other.name l.name)) l.attached
