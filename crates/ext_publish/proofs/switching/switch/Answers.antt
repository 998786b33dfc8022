use Rattle.std.proofs.Common.{true, false, sym, subst}
use Rattle.std.proofs.lemmas.Result.{err_from_is_err_and}
use Rattle.std.specs.Result.{is_ok}
use Rattle.ext_text.specs.Path.{is_prefix}
use Rattle.ext_disk.specs.Calls.{Does, sync_dir}
use Rattle.ext_disk.specs.Disk.{BothTold}
use Rattle.ext_disk.proofs.ForCallers.{spares_then}
use Rattle.ext_store_files.specs.Writing.{Holds, IsWritten}
use Rattle.ext_published.specs.Places.{coming_manifest_path}
use Rattle.ext_publish.specs.Copying.{WorksAt}
use Rattle.ext_publish.specs.Switching.{Switches, is_switched_at}
use Rattle.ext_publish.proofs.FoldersLemmas.{sync_spares}
use Rattle.ext_publish.proofs.SwitchingLemmas.{folder_stands, may_rename, may_sync_again, rename_failed, rename_switch, renames_at, switched, unswitched, write_switch, written_both}
use Rattle.ext_publish.proofs.switching.switch.Goals as goal

pub returns-in_err-write_at-clause-switches : goal.returns-in_err-write_at-clause-switches
returns-in_err-write_at-clause-switches g c =
    let p = err_from_is_err_and c.from_residual.result c.from_residual.ensures.1 in
    let old = g.O.Disk.state c.args.out.now in
    let new = g.O.Disk.state c.write_at.new.out in
    let asked = c.args.asked.now in
    subst (λ r. BothTold (Switches r asked c.args.manifest.now) old.told new.told) (sym p.1)
    (unswitched (Unit {0}) p.0 asked c.args.manifest.now old new (g.met.O.Disk.holds_a_tree c.args.out.now) (subst (λ q. WorksAt q old new) c.requires.places.coming c.in_err-write_at.ensures.works).spares)

pub returns-in_err-sync_at-clause-switches : goal.returns-in_err-sync_at-clause-switches
returns-in_err-sync_at-clause-switches g c =
    let p = err_from_is_err_and c.from_residual-in_err-sync_at.result c.from_residual-in_err-sync_at.ensures.1 in
    let old = g.O.Disk.state c.args.out.now in
    let mid = g.O.Disk.state c.write_at.new.out in
    let new = g.O.Disk.state c.sync_at.new.out in
    let asked = c.args.asked.now in
    subst (λ r. BothTold (Switches r asked c.args.manifest.now) old.told new.told) (sym p.1)
    (unswitched (Unit {0}) p.0 asked c.args.manifest.now old new (g.met.O.Disk.holds_a_tree c.args.out.now)
    (spares_then (is_prefix (coming_manifest_path asked)) old mid new (subst (λ q. WorksAt q old mid) c.requires.places.coming c.in_ok-write_at.ensures.works).spares
    (sync_spares (is_prefix (coming_manifest_path asked)) _ false mid new c.in_err-sync_at.ensures.does)))

pub rename_to-requires : goal.rename_to-requires
rename_to-requires g c =
    let asked = c.args.asked.now in
    let old = g.O.Disk.state c.args.out.now in
    let mid = g.O.Disk.state c.write_at.new.out in
    may_rename asked c.args.manifest.now c.args.places.now.coming c.args.places.now.manifest old mid (g.O.Disk.state c.sync_at.new.out) c.requires.places.coming c.requires.places.manifest c.requires.may
    (subst (λ q. WorksAt q old mid) c.requires.places.coming c.in_ok-write_at.ensures.works) (subst (λ q. Holds (IsWritten q c.args.manifest.now) mid) c.requires.places.coming c.in_ok-write_at.ensures.written) c.in_ok-sync_at.ensures.does

pub returns-in_err-rename_to-clause-switches : goal.returns-in_err-rename_to-clause-switches
returns-in_err-rename_to-clause-switches g c =
    let p = err_from_is_err_and c.from_residual-in_err-rename_to.result c.from_residual-in_err-rename_to.ensures.1 in
    let asked = c.args.asked.now in
    let old = g.O.Disk.state c.args.out.now in
    let mid = g.O.Disk.state c.write_at.new.out in
    let synced = g.O.Disk.state c.sync_at.new.out in
    let new = g.O.Disk.state c.rename_to.new.out in
    subst (λ r. BothTold (Switches r asked c.args.manifest.now) old.told new.told) (sym p.1)
    (rename_failed (Unit {0}) p.0 asked c.args.manifest.now old synced new c.folder.ensures.asked
    (written_both asked c.args.manifest.now old mid synced c.folder.ensures.asked (g.met.O.Disk.holds_a_tree c.args.out.now)
    (subst (λ q. WorksAt q old mid) c.requires.places.coming c.in_ok-write_at.ensures.works) (subst (λ q. Holds (IsWritten q c.args.manifest.now) mid) c.requires.places.coming c.in_ok-write_at.ensures.written)
    (subst (λ q. Does (sync_dir q) mid synced true) c.folder.ensures.same c.in_ok-sync_at.ensures.does))
    (g.met.O.Disk.holds_a_tree c.sync_at.new.out) (renames_at asked c.args.places.now.coming c.args.places.now.manifest false synced new c.requires.places.coming c.requires.places.manifest c.in_err-rename_to.ensures.does))

pub sync_at-requires-2 : goal.sync_at-requires-2
sync_at-requires-2 g c =
    let asked = c.args.asked.now in
    let old = g.O.Disk.state c.args.out.now in
    let mid = g.O.Disk.state c.write_at.new.out in
    let synced = g.O.Disk.state c.sync_at.new.out in
    may_sync_again asked c.folder-2.result.now synced (g.O.Disk.state c.rename_to.new.out) c.folder-2.ensures.same
    (folder_stands asked old mid synced c.folder.result.now c.requires.may (g.met.O.Disk.holds_a_tree c.args.out.now) (subst (λ q. WorksAt q old mid) c.requires.places.coming c.in_ok-write_at.ensures.works) c.in_ok-sync_at.ensures.does)
    (renames_at asked c.args.places.now.coming c.args.places.now.manifest true synced (g.O.Disk.state c.rename_to.new.out) c.requires.places.coming c.requires.places.manifest c.in_ok-rename_to.ensures.does)

pub returns-clause-switches : goal.returns-clause-switches
returns-clause-switches g c =
    let asked = c.args.asked.now in
    let old = g.O.Disk.state c.args.out.now in
    let mid = g.O.Disk.state c.write_at.new.out in
    let synced = g.O.Disk.state c.sync_at.new.out in
    let renamed = g.O.Disk.state c.rename_to.new.out in
    let new = g.O.Disk.state c.sync_at-2.new.out in
    switched c.sync_at-2.result asked c.args.manifest.now old synced renamed new c.folder.ensures.asked
    (written_both asked c.args.manifest.now old mid synced c.folder.ensures.asked (g.met.O.Disk.holds_a_tree c.args.out.now)
    (subst (λ q. WorksAt q old mid) c.requires.places.coming c.in_ok-write_at.ensures.works) (subst (λ q. Holds (IsWritten q c.args.manifest.now) mid) c.requires.places.coming c.in_ok-write_at.ensures.written)
    (subst (λ q. Does (sync_dir q) mid synced true) c.folder.ensures.same c.in_ok-sync_at.ensures.does))
    (g.met.O.Disk.holds_a_tree c.sync_at.new.out) (g.met.O.Disk.holds_a_tree c.rename_to.new.out)
    (renames_at asked c.args.places.now.coming c.args.places.now.manifest true synced renamed c.requires.places.coming c.requires.places.manifest c.in_ok-rename_to.ensures.does)
    (subst (λ q. Does (sync_dir q) renamed new (is_ok c.sync_at-2.result)) c.folder-2.ensures.same c.sync_at-2.ensures.does)

pub returns-in_err-write_at-clause-spares : goal.returns-in_err-write_at-clause-spares
returns-in_err-write_at-clause-spares g c =
    let old = g.O.Disk.state c.args.out.now in
    let new = g.O.Disk.state c.write_at.new.out in
    write_switch c.args.asked.now old new (subst (λ q. WorksAt q old new) c.requires.places.coming c.in_err-write_at.ensures.works).spares

pub returns-in_err-sync_at-clause-spares : goal.returns-in_err-sync_at-clause-spares
returns-in_err-sync_at-clause-spares g c =
    let asked = c.args.asked.now in
    let old = g.O.Disk.state c.args.out.now in
    let mid = g.O.Disk.state c.write_at.new.out in
    let new = g.O.Disk.state c.sync_at.new.out in
    spares_then (is_switched_at asked) old mid new (write_switch asked old mid (subst (λ q. WorksAt q old mid) c.requires.places.coming c.in_ok-write_at.ensures.works).spares)
    (sync_spares (is_switched_at asked) _ false mid new c.in_err-sync_at.ensures.does)

pub returns-in_err-rename_to-clause-spares : goal.returns-in_err-rename_to-clause-spares
returns-in_err-rename_to-clause-spares g c =
    let asked = c.args.asked.now in
    let old = g.O.Disk.state c.args.out.now in
    let mid = g.O.Disk.state c.write_at.new.out in
    let synced = g.O.Disk.state c.sync_at.new.out in
    let new = g.O.Disk.state c.rename_to.new.out in
    spares_then (is_switched_at asked) old synced new
    (spares_then (is_switched_at asked) old mid synced (write_switch asked old mid (subst (λ q. WorksAt q old mid) c.requires.places.coming c.in_ok-write_at.ensures.works).spares)
    (sync_spares (is_switched_at asked) _ true mid synced c.in_ok-sync_at.ensures.does))
    (rename_switch asked false synced new (renames_at asked c.args.places.now.coming c.args.places.now.manifest false synced new c.requires.places.coming c.requires.places.manifest c.in_err-rename_to.ensures.does))

pub returns-clause-spares : goal.returns-clause-spares
returns-clause-spares g c =
    let asked = c.args.asked.now in
    let old = g.O.Disk.state c.args.out.now in
    let mid = g.O.Disk.state c.write_at.new.out in
    let synced = g.O.Disk.state c.sync_at.new.out in
    let renamed = g.O.Disk.state c.rename_to.new.out in
    let new = g.O.Disk.state c.sync_at-2.new.out in
    spares_then (is_switched_at asked) old synced new
    (spares_then (is_switched_at asked) old mid synced (write_switch asked old mid (subst (λ q. WorksAt q old mid) c.requires.places.coming c.in_ok-write_at.ensures.works).spares)
    (sync_spares (is_switched_at asked) _ true mid synced c.in_ok-sync_at.ensures.does))
    (spares_then (is_switched_at asked) synced renamed new
    (rename_switch asked true synced renamed (renames_at asked c.args.places.now.coming c.args.places.now.manifest true synced renamed c.requires.places.coming c.requires.places.manifest c.in_ok-rename_to.ensures.does))
    (sync_spares (is_switched_at asked) _ (is_ok c.sync_at-2.result) renamed new c.sync_at-2.ensures.does))
