use Rattle.std.proofs.Common.{◌++◌, arith}
use Rattle.std.proofs.lemmas.Result.{err_from_is_err_and}
use Rattle.std.specs.Option.{option_copied}
use Rattle.ext_homes.specs.Brought.{brought, bytes_of_all}
use Rattle.ext_homes.specs.Giving.{stored_by}
use Rattle.ext_gen.specs.Preparing.{most_files}
use Rattle.ext_gen.proofs.PreparingCausesLemmas.{fill_cause_write}
use Rattle.ext_gen.proofs.PreparingPathsLemmas.{makes_then, syncing_makes}
use Rattle.ext_gen.proofs.PreparingPlacedLemmas.{host_count}
use Rattle.ext_gen.proofs.PreparingStagesLemmas.{fills_after, home_folders, homes_make}
use Rattle.ext_gen.proofs.preparing.filling.fill_generation.Goals as goal

pub returns-in_err-placed-clause-makes : goal.returns-in_err-placed-clause-makes
returns-in_err-placed-clause-makes g c =
    homes_make c.args.generation (most_files c.args.next) (bytes_of_all (brought (c.args.next.root ++ c.args.next.lower))) _ _ c.requires.empty c.give_homes.ensures.works c.give_homes.ensures.only

pub sync_folders-requires-clause-numbers : goal.sync_folders-requires-clause-numbers
sync_folders-requires-clause-numbers g c =
    let gives = c.in_ok-placed.ensures.placed in
    let few = host_count (stored_by (option_copied c.args.from) (g.D.Disk.state c.args.disk.now)) (g.P.Depot.state c.args.depot.now) c.args.generation c.args.next c.in_ok-placed.placed.host gives.written gives.homes in
    omega (arith, few, gives.count, c.requires.entries)

pub sync_folders-requires-clause-folders : goal.sync_folders-requires-clause-folders
sync_folders-requires-clause-folders g c =
    let gives = c.in_ok-placed.ensures.placed in
    home_folders c.args.generation c.in_ok-placed.placed.files gives.written (g.D.Disk.state c.args.disk.now).told (g.D.Disk.state c.give_homes.new.disk).told gives.count gives.told

pub returns-in_err-sync_folders-clause-makes : goal.returns-in_err-sync_folders-clause-makes
returns-in_err-sync_folders-clause-makes g c =
    let files = most_files c.args.next in
    let most = bytes_of_all (brought (c.args.next.root ++ c.args.next.lower)) in
    makes_then c.args.generation files files files most 0 most _ (g.D.Disk.state c.give_homes.new.disk) _ (omega arith) (omega arith) (omega arith)
    (homes_make c.args.generation files most _ _ c.requires.empty c.give_homes.ensures.works c.give_homes.ensures.only)
    (syncing_makes c.args.generation files 0 _ _ c.sync_folders.ensures.works)

pub returns-in_err-sync_folders-clause-cause : goal.returns-in_err-sync_folders-clause-cause
returns-in_err-sync_folders-clause-cause g c =
    let p = err_from_is_err_and c.from_residual-in_err-sync_folders.result c.from_residual-in_err-sync_folders.ensures.1 in
    rw (p.1, p.2) (fill_cause_write c.in_err-sync_folders.field-0.0 (g.D.Disk.state c.args.disk.now) (g.D.Disk.state c.give_homes.new.disk) (g.D.Disk.state c.sync_folders.new.disk)
    (g.P.Depot.state c.args.depot.now) (g.P.Depot.state c.give_homes.new.depot) (stored_by (option_copied c.args.from) (g.D.Disk.state c.args.disk.now)) c.args.generation
    (c.args.next.root ++ c.args.next.lower) c.give_homes.ensures.works.spares.follows.count c.in_err-sync_folders.ensures.cause)

pub returns-clause-makes : goal.returns-clause-makes
returns-clause-makes g c =
    let files = most_files c.args.next in
    let most = bytes_of_all (brought (c.args.next.root ++ c.args.next.lower)) in
    makes_then c.args.generation files files files most 0 most _ (g.D.Disk.state c.give_homes.new.disk) _ (omega arith) (omega arith) (omega arith)
    (homes_make c.args.generation files most _ _ c.requires.empty c.give_homes.ensures.works c.give_homes.ensures.only)
    (syncing_makes c.args.generation files 0 _ _ c.sync_folders.ensures.works)

pub returns-clause-fills : goal.returns-clause-fills
returns-clause-fills g c =
    fills_after (option_copied c.args.from) c.args.generation c.args.next (bytes_of_all (brought (c.args.next.root ++ c.args.next.lower))) (g.D.Disk.state c.args.disk.now)
    (g.D.Disk.state c.give_homes.new.disk) (g.D.Disk.state c.sync_folders.new.disk) (g.P.Depot.state c.args.depot.now) c.in_ok-placed.placed c.requires.empty c.requires.no_next
    c.give_homes.ensures.works c.in_ok-placed.ensures.placed c.sync_folders.ensures.works c.in_ok-sync_folders.ensures.synced
