use Rattle.std.proofs.Common.{◌≡◌, ◌++◌, ◌∷◌, [], drop, map}
use Rattle.ext_units.specs.declared.unit_file.UnitFile.{UnitFile}
use Rattle.ext_added.proofs.tops.append_units.Given as goal

-- the paths so far and those of the rest are all
abbrev pub invariant-units : goal.invariant-units
invariant-units l =
    l.tops.items ++ map (λ (unit : UnitFile). l.directory ++ unit.name ∷ []) (drop l.unit-index l.units)
    ≡ l.initial.tops.items ++ map (λ (unit : UnitFile). l.directory ++ unit.name ∷ []) l.units
