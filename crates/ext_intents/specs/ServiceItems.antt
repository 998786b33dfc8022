-- What a search by halves finds among what is attached.
use Rattle.std.specs.Prelude.{ℕ, Bool, if◌then◌else◌, List, [], ◌∷◌, Option, Some, None}
use Rattle.std.specs.Ordering.{is_lt}
use Rattle.ext_lines.specs.ByteOrder.{bytes_cmp}
use Rattle.ext_host.specs.declared.attachment.Attachment.{Attachment}
use Rattle.ext_attached.specs.Going.{is_of_name}

-- the name of the attachment comes before this one
abbrev pub is_earlier_name : List ℕ → Attachment → Bool
is_earlier_name name attachment = is_lt (bytes_cmp attachment.name name)

-- the first attachment whose name does not come before this one
abbrev pub attachment_from : List ℕ → List Attachment → Option Attachment
attachment_from name [] = None
attachment_from name (attachment ∷ attached) = if is_earlier_name name attachment then attachment_from name attached else Some attachment

-- the attachment, if it has this name
abbrev pub if_named : List ℕ → Option Attachment → Option Attachment
if_named name None = None
if_named name (Some attachment) = if is_of_name name attachment then Some attachment else None
