-- The errors of images and of their units, as errors of attaching.
use Rattle.ext_units.specs.declared.errors.BodyErr.{BodyErr}
use Rattle.ext_units.specs.declared.errors.BodyErr.TheVariants as body_errors
use Rattle.ext_units.specs.declared.errors.UnitsErr.{UnitsErr}
use Rattle.ext_units.specs.declared.errors.UnitsErr.TheVariants as units_errors
use Rattle.ext_port.specs.declared.errors.PortErr.{PortErr}
use Rattle.ext_port.specs.declared.errors.PortErr.TheVariants as errors

-- why there is no image
abbrev pub port_err_of_body : BodyErr → PortErr
port_err_of_body body_errors.OutOfMemory = errors.OutOfMemory
port_err_of_body body_errors.NoSuchImage = errors.NoSuchImage
port_err_of_body body_errors.NotPortable = errors.NotPortable
port_err_of_body (body_errors.BadRelease line) = errors.BadRelease line
port_err_of_body (body_errors.Shelf e) = errors.Shelf e

-- why it has no units
abbrev pub port_err_of_units : UnitsErr → PortErr
port_err_of_units units_errors.OutOfMemory = errors.OutOfMemory
port_err_of_units (units_errors.PrefixForbidden prefix) = errors.PrefixForbidden prefix
port_err_of_units units_errors.NoUnits = errors.NoUnits
