-- The errors of attaching, and those of images, as errors of attaching with extensions.
use Rattle.ext_host.specs.declared.shelf.ShelfErr.{ShelfErr}
use Rattle.ext_host.specs.declared.shelf.ShelfErr.TheVariants as shelf_errors
use Rattle.ext_text.specs.declared.which.Which.TheVariants.{Entries}
use Rattle.ext_layer.specs.declared.errors.LayerErr.{LayerErr}
use Rattle.ext_layer.specs.declared.errors.LayerErr.TheVariants as layer_errors
use Rattle.ext_port.specs.declared.errors.PortErr.{PortErr}
use Rattle.ext_port.specs.declared.errors.PortErr.TheVariants as port_errors
use Rattle.ext_portext.specs.declared.errors.PortExtErr.{PortExtErr}
use Rattle.ext_portext.specs.declared.errors.PortExtErr.TheVariants as errors

-- why nothing is attached: a lack of memory has one name
abbrev pub portext_err_of_port : PortErr → PortExtErr
portext_err_of_port port_errors.OutOfMemory = errors.OutOfMemory
portext_err_of_port port_errors.NoSuchImage = errors.Port port_errors.NoSuchImage
portext_err_of_port port_errors.AlreadyAttached = errors.Port port_errors.AlreadyAttached
portext_err_of_port port_errors.NotAttached = errors.Port port_errors.NotAttached
portext_err_of_port port_errors.NotPortable = errors.Port port_errors.NotPortable
portext_err_of_port (port_errors.BadRelease line) = errors.Port (port_errors.BadRelease line)
portext_err_of_port (port_errors.PrefixForbidden prefix) = errors.Port (port_errors.PrefixForbidden prefix)
portext_err_of_port port_errors.NoUnits = errors.Port port_errors.NoUnits
portext_err_of_port port_errors.NoProfile = errors.Port port_errors.NoProfile
portext_err_of_port (port_errors.ReadOnly path) = errors.Port (port_errors.ReadOnly path)
portext_err_of_port (port_errors.UnitExists path) = errors.Port (port_errors.UnitExists path)
portext_err_of_port (port_errors.NotDirectory path) = errors.Port (port_errors.NotDirectory path)
portext_err_of_port (port_errors.Limit which) = errors.Port (port_errors.Limit which)
portext_err_of_port (port_errors.Shelf e) = errors.Port (port_errors.Shelf e)

-- why the release file of an extension is not given
abbrev pub portext_err_of_shelf : ShelfErr → PortExtErr
portext_err_of_shelf shelf_errors.OutOfMemory = errors.OutOfMemory
portext_err_of_shelf shelf_errors.Fault = errors.Port (port_errors.Shelf shelf_errors.Fault)
portext_err_of_shelf (shelf_errors.Damaged damage) = errors.Port (port_errors.Shelf (shelf_errors.Damaged damage))

-- why trees are not laid over one another
abbrev pub portext_err_of_layer : LayerErr → PortExtErr
portext_err_of_layer layer_errors.OutOfMemory = errors.OutOfMemory
portext_err_of_layer layer_errors.Limit = errors.Limit Entries
