-- The state of an image of a portable service, after portablectl(1), command is-attached.
use Rattle.std.specs.Prelude.{ℕ, List, if◌then◌else◌, Option, Some, None}
use Rattle.std.specs.List.{find}
use Rattle.ext_host.specs.declared.attachment.Attachment.{Attachment}
use Rattle.ext_attached.specs.Going.{is_of_name}
use Rattle.ext_attached.specs.declared.state.State.{State}
use Rattle.ext_attached.specs.declared.state.State.TheVariants.{Detached, Attached, AttachedRuntime}

-- that of the image of an attachment, if there is one
abbrev pub state_with : Option Attachment → State
state_with None = Detached
state_with (Some attachment) = if attachment.runtime then AttachedRuntime else Attached

-- that of the image of this name
abbrev pub state_of : List Attachment → List ℕ → State
state_of attached name = state_with (find (is_of_name name) attached)
