-- What attaching an image with extensions gives. Its refusals, the first that holds, in this order, which is this project's own: what is
-- wrong with the image; what is wrong with the first extension that is not there or does not fit; that the tree of the units has too
-- many entries; what attaching gives with these units. A lack of memory may come in place of each of them.
use Rattle.std.specs.Prelude.{◌≡◌, ◌⊎◌, ℕ, ◌<◌, ◌≤◌, Bool, List, length, Result, Ok, Err}
use Rattle.ext_text.specs.declared.which.Which.TheVariants as limits
use Rattle.ext_tree.specs.Tree.{Entries, most_entries}
use Rattle.ext_host.specs.Held.{HeldFile}
use Rattle.ext_host.specs.Planning.{IsBaseTree}
use Rattle.ext_host.specs.Shelf.{Told}
use Rattle.ext_host.specs.declared.host.Host.{Host}
use Rattle.ext_units.specs.Body.{ReadsImage}
use Rattle.ext_units.specs.declared.body.Body.{Body}
use Rattle.ext_units.specs.declared.errors.BodyErr.{BodyErr}
use Rattle.ext_units.specs.declared.image.Image.{Image}
use Rattle.ext_added.specs.declared.ask.Ask.{Ask}
use Rattle.ext_port.specs.Errors.{port_err_of_body}
use Rattle.ext_port.specs.Starting.{start_host}
use Rattle.ext_port.specs.Wants.{AttachesBody}
use Rattle.ext_port.specs.declared.attaching.Attach.{Attach}
use Rattle.ext_port.specs.declared.errors.PortErr.{PortErr}
use Rattle.ext_portext.specs.Errors.{portext_err_of_port}
use Rattle.ext_portext.specs.Extension.{system_hierarchies}
use Rattle.ext_portext.specs.Extensions.{AreExtending, FirstFails}
use Rattle.ext_portext.specs.Lines.{extension_lines}
use Rattle.ext_portext.specs.UnitTree.{IsUnitTree}
use Rattle.ext_portext.specs.declared.errors.PortExtErr.{PortExtErr}
use Rattle.ext_portext.specs.declared.errors.PortExtErr.TheVariants as errors
use Rattle.ext_portext.specs.declared.extending.Extending.{Extending}

-- what is wanted, or a lack of memory in its place
abbrev pub UnlessMemory : (Result Attach PortExtErr → Type 0) → Result Attach PortExtErr → Type 0
UnlessMemory Wants (Ok attach) = Wants (Ok attach)
UnlessMemory Wants (Err errors.OutOfMemory) = Unit {0}
UnlessMemory Wants (Err e) = Wants (Err e)

-- what attaching gives, told as it is told of attaching with extensions
abbrev pub as_extended : Result Attach PortErr → Result Attach PortExtErr
as_extended (Ok attach) = Ok attach
as_extended (Err e) = Err (portext_err_of_port e)

module _ (again : Bool) (host : Host) (ask : Ask) where
  -- with the tree of the units
  abbrev pub UnitTreeWants : Body → List Extending → Entries HeldFile → Result Attach PortExtErr → Type 0
  UnitTreeWants body extensions tree result =
      ((length tree ≤ most_entries)
      × ((given : Result Attach PortErr) × AttachesBody again host ask body tree (extension_lines extensions) given
      × (result ≡ as_extended given)))
      ⊎ ((most_entries < length tree) × (result ≡ Err (errors.Limit limits.Entries)))

  -- with extensions that fit
  abbrev pub FittingExtensionsWant : Body → List Extending → Result Attach PortExtErr → Type 0
  FittingExtensionsWant body extensions result =
      (tree : Entries HeldFile) × IsUnitTree (system_hierarchies host) body.tree extensions tree × UnitTreeWants body extensions tree result

  module _ (told : HeldFile → Told) (old new : ℕ) (base : Entries HeldFile) (images : List Image) where
    -- of an image that was read
    abbrev pub ExtensionsWant : Body → Result Attach PortExtErr → Type 0
    ExtensionsWant body result =
        ((extensions : List Extending) × AreExtending told (start_host again ask.image host) base body.release images extensions
        × FittingExtensionsWant body extensions result)
        ⊎ ((e : PortExtErr) × FirstFails told (start_host again ask.image host) base body.release old new images e × (result ≡ Err e))

-- what attaching an image with extensions, or attaching it anew, gives of a host. The numbers count the faults of the shelf before and
-- after
abbrev pub AttachesExtended : (HeldFile → Told) → ℕ → ℕ → Bool → Host → Ask → List Image → Result Attach PortExtErr → Type 0
AttachesExtended told old new again host ask images result =
    (base : Entries HeldFile) × IsBaseTree (start_host again ask.image host) base
    × (((body : Body) × ReadsImage told old new base host.arch ask.image (Ok body)
    × ExtensionsWant again host ask told old new base images body result)
    ⊎ ((e : BodyErr) × ReadsImage told old new base host.arch ask.image (Err e)
    × (result ≡ Err (portext_err_of_port (port_err_of_body e)))))
