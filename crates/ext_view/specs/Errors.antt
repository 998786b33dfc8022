-- The errors of the calls that make a view, as errors of the view.
use Rattle.ext_text.specs.declared.which.Which.TheVariants.{Entries}
use Rattle.ext_host.specs.declared.shelf.ShelfErr.{ShelfErr}
use Rattle.ext_host.specs.declared.shelf.ShelfErr.TheVariants as shelf_errors
use Rattle.ext_find.specs.declared.release.FindErr.{FindErr}
use Rattle.ext_find.specs.declared.release.FindErr.TheVariants as find_errors
use Rattle.ext_layer.specs.declared.errors.LayerErr.{LayerErr}
use Rattle.ext_layer.specs.declared.errors.LayerErr.TheVariants as layer_errors
use Rattle.ext_view.specs.declared.errors.ViewErr.{ViewErr}
use Rattle.ext_view.specs.declared.errors.ViewErr.TheVariants as errors

-- why a file is not given, as an error of a view
abbrev pub view_err_of_shelf : ShelfErr → ViewErr
view_err_of_shelf shelf_errors.OutOfMemory = errors.OutOfMemory
view_err_of_shelf shelf_errors.Fault = errors.Shelf shelf_errors.Fault
view_err_of_shelf (shelf_errors.Damaged damage) = errors.Shelf (shelf_errors.Damaged damage)

-- why the host's release file is not read, as an error of a view
abbrev pub of_find : FindErr → ViewErr
of_find find_errors.OutOfMemory = errors.OutOfMemory
of_find (find_errors.BadHostRelease line) = errors.BadHostRelease line
of_find (find_errors.Shelf e) = errors.Shelf e

-- why layers are not joined, as an error of a view
abbrev pub of_layer : LayerErr → ViewErr
of_layer layer_errors.OutOfMemory = errors.OutOfMemory
of_layer layer_errors.Limit = errors.Limit Entries
