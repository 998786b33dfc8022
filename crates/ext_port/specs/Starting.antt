-- The host from which an image is attached, after portablectl(1): as it is, or, where the image is attached anew, without the
-- attachments that go; and what keeps it from being attached at all.
use Rattle.std.specs.Prelude.{ℕ, Bool, true, false, if◌then◌else◌, List, [], Option, Some, None}
use Rattle.std.specs.List.{list_any}
use Rattle.ext_host.specs.declared.host.Host.{Host}
use Rattle.ext_units.specs.ImageName.{image_name}
use Rattle.ext_units.specs.declared.image.Image.{Image}
use Rattle.ext_attached.specs.Going.{goes_for, is_of_name, paths_without, without}
use Rattle.ext_port.specs.declared.errors.PortErr.{PortErr}
use Rattle.ext_port.specs.declared.errors.PortErr.TheVariants as errors

-- the host from which it is attached
abbrev pub start_host : Bool → Image → Host → Host
start_host false image host = host
start_host true image host = without image host

-- the paths that were cut to make it
abbrev pub cut_of : Bool → Image → Host → List (List (List ℕ))
cut_of false image host = []
cut_of true image host = paths_without image host

-- an image is attached only where no attachment has its name, and attached anew only where one goes
abbrev pub unfit : Bool → Host → Image → Option PortErr
unfit false host image = if list_any (is_of_name (image_name image)) host.attached then Some errors.AlreadyAttached else None
unfit true host image = if list_any (goes_for image) host.attached then None else Some errors.NotAttached
