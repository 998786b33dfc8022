use Rattle.std.proofs.Common.{◌≡◌, take}
use Rattle.ext_units.specs.Units.{names_of}
use Rattle.ext_units.proofs.unit_file.names_of.Given as goal

abbrev pub invariant-units : goal.invariant-units
invariant-units l = l.names.items ≡ names_of (take l.unit-index l.units)
