use Rattle.std.proofs.Common.{◌++◌, map}
use Rattle.std.proofs.lemmas.Result.{err_from_is_err_and}
use Rattle.ext_added.specs.Added.{is_service, service_piece, services}
use Rattle.ext_added.specs.Tops.{FitsService}
use Rattle.ext_added.proofs.FilterLemmas.{all_alike, all_appended, next_alike, next_appended, one_long, parted}
use Rattle.ext_added.proofs.services.append_each.Goals as goal

pub units-preserved : goal.units-preserved
units-preserved c =
    let made = c.args.attaching.now in
    let i = c.units.unit-index in
    let parts = parted c.args.units.now i c.unit-item.result c.units-test.true c.unit-item.is in
    record {
      so_far = next_appended is_service (service_piece made) c.args.units.now i c.unit-item.result c.units.pieces.items c.append_service.new.pieces.items
          (c.args.pieces.now.items ++ map (service_piece made) (services c.args.units.now)) parts c.units.invariant.so_far c.in_ok-append_service.ensures.ok;
      fits = next_alike is_service (FitsService made) c.args.units.now i c.unit-item.result parts c.in_ok-append_service.ensures.fits c.units.invariant.fits;
    }

pub returns-in_err-append_service-clause-err : goal.returns-in_err-append_service-clause-err
returns-in_err-append_service-clause-err c =
    let made = c.args.attaching.now in
    let i = c.units.unit-index in
    let p = err_from_is_err_and c.from_residual.result c.from_residual.ensures.1 in
    rw (p.1, p.2)
    (one_long is_service (FitsService made) c.args.units.now i c.unit-item.result c.in_err-append_service.field-0.0
    (parted c.args.units.now i c.unit-item.result c.units-test.true c.unit-item.is) c.units.invariant.fits c.in_err-append_service.ensures.err)

pub returns-clause-ok : goal.returns-clause-ok
returns-clause-ok c =
    let made = c.args.attaching.now in
    all_appended is_service (service_piece made) c.args.units.now c.units.unit-index c.units.pieces.items
    (c.args.pieces.now.items ++ map (service_piece made) (services c.args.units.now)) c.units-test.false c.units.invariant.so_far

pub returns-clause-fits : goal.returns-clause-fits
returns-clause-fits c =
    let made = c.args.attaching.now in
    all_alike is_service (FitsService made) c.args.units.now c.units.unit-index c.units-test.false c.units.invariant.fits
