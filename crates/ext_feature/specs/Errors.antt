-- The errors of the calls that read, as errors of features and of transfers.
use Rattle.ext_host.specs.declared.shelf.ShelfErr.{ShelfErr}
use Rattle.ext_host.specs.declared.shelf.ShelfErr.TheVariants as shelf_errors
use Rattle.ext_find.specs.declared.release.FindErr.{FindErr}
use Rattle.ext_find.specs.declared.release.FindErr.TheVariants as find_errors
use Rattle.ext_feature.specs.declared.errors.ActiveErr.{ActiveErr}
use Rattle.ext_feature.specs.declared.errors.ActiveErr.TheVariants as active_errors
use Rattle.ext_feature.specs.declared.errors.FeaturesErr.{FeaturesErr}
use Rattle.ext_feature.specs.declared.errors.FeaturesErr.TheVariants as features_errors

-- why a feature file is not given
abbrev pub features_err_of_shelf : ShelfErr → FeaturesErr
features_err_of_shelf shelf_errors.OutOfMemory = features_errors.OutOfMemory
features_err_of_shelf shelf_errors.Fault = features_errors.Shelf shelf_errors.Fault
features_err_of_shelf (shelf_errors.Damaged damage) = features_errors.Shelf (shelf_errors.Damaged damage)

-- why a transfer file is not given
abbrev pub active_err_of_shelf : ShelfErr → ActiveErr
active_err_of_shelf shelf_errors.OutOfMemory = active_errors.OutOfMemory
active_err_of_shelf shelf_errors.Fault = active_errors.Shelf shelf_errors.Fault
active_err_of_shelf (shelf_errors.Damaged damage) = active_errors.Shelf (shelf_errors.Damaged damage)

-- why there are no features
abbrev pub of_features : FeaturesErr → ActiveErr
of_features features_errors.OutOfMemory = active_errors.OutOfMemory
of_features (features_errors.BadFeature file line why) = active_errors.BadFeature file line why
of_features (features_errors.Shelf e) = active_errors.Shelf e

-- why the host's release file is not read
abbrev pub of_host_release : FindErr → ActiveErr
of_host_release find_errors.OutOfMemory = active_errors.OutOfMemory
of_host_release (find_errors.BadHostRelease line) = active_errors.BadHostRelease line
of_host_release (find_errors.Shelf e) = active_errors.Shelf e
