use Rattle.std.proofs.Common.{◌++◌, ◌∷◌, [], map}
use Rattle.std.specs.List.{filter}
use Rattle.ext_units.specs.declared.unit_file.UnitFile.{UnitFile}
use Rattle.ext_added.specs.Destination.{drop_in_name}
use Rattle.ext_added.specs.Tops.{has_drop_ins}
use Rattle.ext_added.proofs.FilterLemmas.{next_appended, parted}
use Rattle.ext_added.proofs.tops.append_drop_ins.Goals as goal

pub units-preserved : goal.units-preserved
units-preserved c =
    let units = c.args.units.now in
    let i = c.units.unit-index in
    next_appended has_drop_ins (λ (unit : UnitFile). c.args.directory.now ++ drop_in_name unit.name ∷ []) units i c.unit-item.result
    c.units.tops.items c.append_drop_in.new.tops.items
    (c.args.tops.now.items ++ map (λ (unit : UnitFile). c.args.directory.now ++ drop_in_name unit.name ∷ []) (filter has_drop_ins units))
    (parted units i c.unit-item.result c.units-test.true c.unit-item.is) c.units.invariant c.in_ok-append_drop_in.ensures
