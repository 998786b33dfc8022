use Rattle.std.proofs.Common.{◌≡◌, ◌++◌, ◌∷◌, [], drop, map}
use Rattle.std.specs.List.{filter}
use Rattle.ext_units.specs.declared.unit_file.UnitFile.{UnitFile}
use Rattle.ext_added.specs.Destination.{drop_in_name}
use Rattle.ext_added.specs.Tops.{has_drop_ins}
use Rattle.ext_added.proofs.tops.append_drop_ins.Given as goal

-- the paths so far and those of the rest are all
abbrev pub invariant-units : goal.invariant-units
invariant-units l =
    l.tops.items ++ map (λ (unit : UnitFile). l.directory ++ drop_in_name unit.name ∷ []) (filter has_drop_ins (drop l.unit-index l.units))
    ≡ l.initial.tops.items ++ map (λ (unit : UnitFile). l.directory ++ drop_in_name unit.name ∷ []) (filter has_drop_ins l.units)
