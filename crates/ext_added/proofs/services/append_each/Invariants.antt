use Rattle.std.proofs.Common.{◌≡◌, ◌++◌, drop, map}
use Rattle.ext_added.specs.Added.{is_service, service_piece, services}
use Rattle.ext_added.specs.Tops.{FitsService}
use Rattle.ext_added.proofs.FilterLemmas.{AreAlike}
use Rattle.ext_added.proofs.services.append_each.Given as goal

-- what was appended and that of the services of the rest are all; all services fit exactly where those of the rest do
abbrev pub invariant-units : goal.invariant-units
invariant-units l = record {
  so_far : l.pieces.items ++ map (service_piece l.attaching) (services (drop l.unit-index l.units))
      ≡ l.initial.pieces.items ++ map (service_piece l.attaching) (services l.units);
  fits : AreAlike is_service (FitsService l.attaching) l.units l.unit-index;
}
