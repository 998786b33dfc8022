-- The host with an image attached: its tree, without the manifests that are related to what was put there, and with the attachment
-- recorded. This project's own.
use Rattle.std.specs.Prelude.{ℕ, List, ◌∷◌, ◌++◌}
use Rattle.std.specs.List.{filter}
use Rattle.std.specs.Ordering.{is_gt, is_lt}
use Rattle.ext_lines.specs.ByteOrder.{bytes_cmp}
use Rattle.ext_tree.specs.Tree.{Entries}
use Rattle.ext_host.specs.Held.{HeldFile}
use Rattle.ext_host.specs.Touch.{untouched_all}
use Rattle.ext_host.specs.declared.attachment.Attachment.{Attachment}
use Rattle.ext_host.specs.declared.host.Host.{Host}
use Rattle.ext_units.specs.ImageName.{image_name}
use Rattle.ext_added.specs.declared.ask.Ask.{Ask}

-- what is recorded of an image at a place, which added something at these paths
abbrev pub attachment_of : Ask → List (List ℕ) → List (List (List ℕ)) → Attachment
attachment_of ask place added = record { name = image_name ask.image; place = place; runtime = ask.runtime; added = added }

-- the attachments and one more, by the bytes of their names
abbrev pub with_attachment : Attachment → List Attachment → List Attachment
with_attachment attachment attached =
    filter (λ (other : Attachment). is_lt (bytes_cmp other.name attachment.name)) attached
    ++ (attachment ∷ filter (λ (other : Attachment). is_gt (bytes_cmp other.name attachment.name)) attached)

-- the host with the tree, in which something was put at these paths, and with the attachment
abbrev pub attached_host : Host → List (List (List ℕ)) → Entries HeldFile → Attachment → Host
attached_host start tops root attachment = record start {
  root = root;
  attached = with_attachment attachment start.attached;
  kept = untouched_all tops start.kept;
}
