use Rattle.std.proofs.Common.{◌≡◌, Some, Ok, sym, ap, subst}
use Rattle.std.specs.Option.{is_some}
use Rattle.std.proofs.lemmas.Result.{err_from_is_err_and}
use Rattle.ext_store_files.specs.HeldFiles.{path_told, IsListed}
use Rattle.ext_store_files.specs.Copying.{depot_told}
use Rattle.ext_store_files.specs.Beside.{DepotCause, IsBeside, IsFollowed}
use Rattle.ext_store_files.proofs.CopyingLemmas.{kept_told}
use Rattle.ext_store_files.proofs.ComparingLemmas.{brought_cause, digest_listed}
use Rattle.ext_store_files.proofs.comparing.is_same.Goals as goal

pub returns-in_err-same-clause-cause : goal.returns-in_err-same-clause-cause
returns-in_err-same-clause-cause g c =
    let old = g.P.Depot.state c.args.depot.now in
    let mid = g.P.Depot.state c.read_both.new.depot in
    let ours = path_told (g.D.Disk.state c.args.disk.now) c.args.path.now in
    let theirs = depot_told old c.args.from.now in
    let told : depot_told mid c.args.from.now ≡ theirs = kept_told old mid c.args.from.now c.in_ok-digest.ensures.kept in
    let found : c.in_ok-digest.field-0.digest ≡ Some c.args.listed.now.digest = c.in_ok-compare.ensures.ok in
    let went : c.in_ok-digest.field-0.brought ≡ Ok c.in_ok-beside.beside = c.in_ok-beside.was in
    let pass = c.in_ok-digest.ensures.brought (ap is_some found) in
    let is : IsBeside theirs pass.0 c.in_ok-beside.beside = subst (IsFollowed old mid theirs c.args.listed.now pass.0) went pass.3 in
    let listed : IsListed ours c.args.listed.now = digest_listed ours c.args.listed.now c.in_ok-digest.field-0.digest c.in_ok-digest.ensures.digest found in
    let p = err_from_is_err_and c.from_residual-in_err-same.result c.from_residual-in_err-same.ensures.1 in
    rw (p.1, p.2) (brought_cause c.in_err-same.field-0.0 (g.D.Disk.state c.args.disk.now) (g.D.Disk.state c.read_both.new.disk) old mid (g.P.Depot.state c.end.new.depot) ours theirs c.args.home.now c.args.listed.now
    listed c.in_ok-digest.ensures.kept
    (subst (λ t. DepotCause mid (g.P.Depot.state c.end.new.depot) t c.args.listed.now c.in_err-same.field-0.0) told
    (c.in_err-same.ensures.cause pass.0 pass.2 (subst (λ t. IsBeside t pass.0 c.in_ok-beside.beside) (sym told) is))))
