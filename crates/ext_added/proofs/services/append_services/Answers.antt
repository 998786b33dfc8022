use Rattle.std.proofs.Common.{◌≡◌, ◌++◌, map, subst}
use Rattle.std.specs.Prelude.{IfErr, List, OnOk}
use Rattle.std.specs.List.{AllByRecursion}
use Rattle.ext_tree.specs.Grafting.{IsLongPath}
use Rattle.ext_units.specs.declared.unit_file.UnitFile.{UnitFile}
use Rattle.ext_added.specs.Added.{service_piece, services}
use Rattle.ext_added.specs.Tops.{FitsService}
use Rattle.ext_added.proofs.services.append_services.Goals as goal

pub returns-clause-ok : goal.returns-clause-ok
returns-clause-ok c =
    subst (λ (units : List UnitFile). OnOk c.append_each.result (c.append_each.new.pieces.items ≡ c.args.pieces.now.items ++ map (service_piece c.args.attaching.now) (services units)))
    c.as_slice.ensures c.append_each.ensures.ok

pub returns-clause-fits : goal.returns-clause-fits
returns-clause-fits c =
    subst (λ (units : List UnitFile). OnOk c.append_each.result (AllByRecursion (FitsService c.args.attaching.now) (services units))) c.as_slice.ensures c.append_each.ensures.fits

pub returns-clause-err : goal.returns-clause-err
returns-clause-err c =
    subst (λ (units : List UnitFile). IfErr c.append_each.result (IsLongPath (¬ AllByRecursion (FitsService c.args.attaching.now) (services units)))) c.as_slice.ensures c.append_each.ensures.err
