use Rattle.std.proofs.Common.{◌≡◌, ap, sym, subst, ◌∙◌, arith}
use Rattle.std.proofs.lemmas.Result.{err_from_is_err_and}
use Rattle.ext_attributes.specs.Attributes.{IsAttributes, of_mode}
use Rattle.ext_attributes.proofs.ForCallers.{mode_in_range}
use Rattle.ext_host.specs.DepotBodies.{from_depot}
use Rattle.ext_update.specs.Stages.{AreFilesFit}
use Rattle.ext_update.proofs.FittingLemmas.{AreNewEntries, depot_new, directory_is, files_fit, not_from_depot}
use Rattle.ext_update.proofs.fitting.directory_piece.Goals as goal

pub returns-in_err-part-clause-err : goal.returns-in_err-part-clause-err
returns-in_err-part-clause-err c =
    let p = err_from_is_err_and c.from_residual.result c.from_residual.ensures.1 in
    rw (p.1, p.2) (not_from_depot c.args.source.now c.args.tree c.in_err-part.field-0.0 c.in_err-part.ensures)

pub returns-clause-ok : goal.returns-clause-ok
returns-clause-ok c =
    let gives = c.in_ok-part.ensures in
    let top : c.of_mode.result ≡ of_mode 493 = c.of_mode.ensures ∙ ap of_mode c.directory_mode.ensures in (
      directory_is c.args.path c.of_mode.result top c.in_ok-part.part (from_depot c.args.source.now c.args.tree) gives.0,
      subst AreFilesFit (sym gives.0) (files_fit c.args.source.now c.args.tree gives.1),
    )

pub returns-clause-new : goal.returns-clause-new
returns-clause-new c =
    let gives = c.in_ok-part.ensures in
    let top : c.of_mode.result ≡ of_mode 493 = c.of_mode.ensures ∙ ap of_mode c.directory_mode.ensures in record {
      top = record { range = subst IsAttributes (sym top) (mode_in_range 493 (omega arith)); new = tt };
      part = subst AreNewEntries (sym gives.0) (depot_new c.args.source.now c.args.tree c.requires);
    }
