-- What is told of an image is told of the service.
use Rattle.std.proofs.Common.{ℕ, List, Ok, Err}
use Rattle.std.specs.Prelude.{Result}
use Rattle.ext_text.specs.declared.arch.Arch.{Arch}
use Rattle.ext_tree.specs.Tree.{Entries}
use Rattle.ext_host.specs.Held.{HeldFile}
use Rattle.ext_host.specs.Shelf.{Told}
use Rattle.ext_units.specs.Body.{ReadsImage}
use Rattle.ext_units.specs.Inspecting.{Inspects, InspectsBody}
use Rattle.ext_units.specs.declared.body.Body.{Body}
use Rattle.ext_units.specs.declared.errors.InspectErr.{InspectErr}
use Rattle.ext_units.specs.declared.errors.InspectErr.TheVariants as errors
use Rattle.ext_units.specs.declared.image.Image.{Image}
use Rattle.ext_units.specs.declared.inspected.Inspect.{Inspect}

pub inspected : (told : HeldFile → Told) (old new : ℕ) (base : Entries HeldFile) (arch : Arch) (image : Image) (given : List (List ℕ)) (body : Body) → ReadsImage told old new base arch image (Ok body) → (r : Result Inspect InspectErr) → InspectsBody body given r → Inspects told old new base arch image given r
inspected told old new base arch image given body reads (Ok inspect) is = (body, reads, is)
inspected told old new base arch image given body reads (Err errors.OutOfMemory) is = tt
inspected told old new base arch image given body reads (Err errors.NoSuchImage) none = absurd none
inspected told old new base arch image given body reads (Err errors.NotPortable) none = absurd none
inspected told old new base arch image given body reads (Err (errors.BadRelease line)) none = absurd none
inspected told old new base arch image given body reads (Err (errors.PrefixForbidden prefix)) is = (body, reads, is)
inspected told old new base arch image given body reads (Err errors.NoUnits) is = (body, reads, is)
inspected told old new base arch image given body reads (Err (errors.Shelf e)) none = absurd none
