-- The errors of the calls below, as errors of images and of their inspection.
use Rattle.ext_find.specs.declared.release.FindErr.{FindErr}
use Rattle.ext_find.specs.declared.release.FindErr.TheVariants as find_errors
use Rattle.ext_units.specs.declared.errors.BodyErr.{BodyErr}
use Rattle.ext_units.specs.declared.errors.BodyErr.TheVariants as body_errors
use Rattle.ext_units.specs.declared.errors.InspectErr.{InspectErr}
use Rattle.ext_units.specs.declared.errors.InspectErr.TheVariants as errors
use Rattle.ext_units.specs.declared.errors.UnitsErr.{UnitsErr}
use Rattle.ext_units.specs.declared.errors.UnitsErr.TheVariants as units_errors

-- why the release file of an image is not read
abbrev pub of_release : FindErr → BodyErr
of_release find_errors.OutOfMemory = body_errors.OutOfMemory
of_release (find_errors.BadHostRelease line) = body_errors.BadRelease line
of_release (find_errors.Shelf e) = body_errors.Shelf e

-- why there is no image
abbrev pub of_body : BodyErr → InspectErr
of_body body_errors.OutOfMemory = errors.OutOfMemory
of_body body_errors.NoSuchImage = errors.NoSuchImage
of_body body_errors.NotPortable = errors.NotPortable
of_body (body_errors.BadRelease line) = errors.BadRelease line
of_body (body_errors.Shelf e) = errors.Shelf e

-- why it has no units
abbrev pub of_units : UnitsErr → InspectErr
of_units units_errors.OutOfMemory = errors.OutOfMemory
of_units (units_errors.PrefixForbidden prefix) = errors.PrefixForbidden prefix
of_units units_errors.NoUnits = errors.NoUnits
