use Rattle.std.proofs.Common.{◌≡◌, map, take}
use Rattle.std.specs.List.{AllByRecursion}
use Rattle.ext_added.specs.Added.{unit_piece}
use Rattle.ext_added.specs.Tops.{FitsUnit}
use Rattle.ext_added.proofs.units.unit_pieces.Given as goal

-- the pieces so far are those of the first units, which fit
abbrev pub invariant-units : goal.invariant-units
invariant-units l = record {
  so_far : l.pieces.items ≡ map (unit_piece l.attaching l.tree) (take l.unit-index l.units);
  fits : AllByRecursion (FitsUnit l.attaching) (take l.unit-index l.units);
}
