use Rattle.std.proofs.Common.{take, drop, suc}
use Rattle.std.proofs.lemmas.Result.{err_from_is_err_and}
use Rattle.ext_text.specs.Path.{is_prefix, is_proper_prefix}
use Rattle.ext_disk.proofs.ForCallers.{look_rests, rests_itself}
use Rattle.ext_store_files.proofs.ClearingLemmas.{clears_absent, rests_clears, clears_part, may_remove, clears_folder, clears_below, clears_next, clears_stops, clears_before, folder_by_kind, absent_by_kind, told_moved, proper_is, split_at_index, one_more}
use Rattle.ext_store_files.proofs.removal.+clearing.Goals as goal

pub clear-returns-in_err-clear_below-in-Some-Dir-clause-clears : goal.clear-returns-in_err-clear_below-in-Some-Dir-clause-clears
clear-returns-in_err-clear_below-in-Some-Dir-clause-clears g t c =
    let p = err_from_is_err_and c.from_residual-in_err-clear_below-in-Some-Dir.result c.from_residual-in_err-clear_below-in-Some-Dir.ensures.1 in
    rw (p.1, p.2)
    (clears_part (Unit {0}) (is_proper_prefix c.args.path.now) (is_prefix c.args.path.now) _ _ _ _ _ (proper_is c.args.path.now)
    (rests_clears (is_proper_prefix c.args.path.now) _ _ _ _ _ _ (look_rests _ _ _ c.in_ok-kind.ensures.does) c.in_err-clear_below-in-Some-Dir.ensures.clears))

pub clear-remove_one-requires-in-Some-Dir : goal.clear-remove_one-requires-in-Some-Dir
clear-remove_one-requires-in-Some-Dir g t c =
    may_remove (Unit {0}) tt c.args.path.now _ _ (g.D.Disk.state c.kind.new.self) _ c.requires
    (told_moved _ (g.D.Disk.state c.args.disk.now).told (g.D.Disk.state c.kind.new.self).told (look_rests _ _ _ c.in_ok-kind.ensures.does).told
    (folder_by_kind (g.D.Disk.state c.args.disk.now).told c.args.path.now _ _ c.in-Some-Dir.is c.in-Some-Dir.field-0-is c.in_ok-kind.ensures.kind))
    c.in_ok-clear_below-in-Some-Dir.ensures.clears

pub clear-returns-in-None-clause-clears : goal.clear-returns-in-None-clause-clears
clear-returns-in-None-clause-clears g t c =
    clears_absent (Unit {0}) tt c.args.path.now c.args.most.now _ _ (g.met.D.Disk.holds_a_tree c.args.disk.now) (look_rests _ _ _ c.in_ok-kind.ensures.does)
    (absent_by_kind (g.D.Disk.state c.args.disk.now).told c.args.path.now _ c.in-None.is c.in_ok-kind.ensures.kind)

pub clear-returns-in_ok-clear_below-in-Some-Dir-clause-clears : goal.clear-returns-in_ok-clear_below-in-Some-Dir-clause-clears
clear-returns-in_ok-clear_below-in-Some-Dir-clause-clears g t c =
    clears_folder (Unit {0}) tt c.args.path.now c.remove_one-in-Some-Dir.result _ _ _ _ (g.D.Disk.state c.clear_below.new.disk) _
    (rests_clears (is_proper_prefix c.args.path.now) _ _ _ _ _ _ (look_rests _ _ _ c.in_ok-kind.ensures.does) c.in_ok-clear_below-in-Some-Dir.ensures.clears)
    c.remove_one-in-Some-Dir.ensures.clears

pub clear_all-returns-in_err-path-clause-clears : goal.clear_all-returns-in_err-path-clause-clears
clear_all-returns-in_err-path-clause-clears g t c =
    let p = err_from_is_err_and c.from_residual.result c.from_residual.ensures.1 in
    rw (p.1, p.2)
    (clears_before (Unit {0}) (Unit {0}) tt c.args.dir.now (take c.names.name-index c.args.names.now) (drop (suc c.names.name-index) c.args.names.now) c.args.names.now c.name-item.result _ _ _ _
    (split_at_index c.args.names.now c.names.name-index c.name-item.result c.names-test.true c.name-item.is) (rests_itself _) c.names.invariant)

pub clear_all-returns-in_err-clear-clause-clears : goal.clear_all-returns-in_err-clear-clause-clears
clear_all-returns-in_err-clear-clause-clears g t c =
    let p = err_from_is_err_and c.from_residual-in_err-clear.result c.from_residual-in_err-clear.ensures.1 in
    rw (p.1, p.2)
    (clears_stops (Unit {0}) (Unit {0}) tt _ c.args.dir.now c.in_ok-path.path (take c.names.name-index c.args.names.now) (drop (suc c.names.name-index) c.args.names.now) c.args.names.now c.name-item.result _ _ _ _ _ _
    c.in_ok-path.ensures (split_at_index c.args.names.now c.names.name-index c.name-item.result c.names-test.true c.name-item.is) c.names.invariant c.in_err-clear.ensures.clears)

pub clear_all-names-preserved : goal.clear_all-names-preserved
clear_all-names-preserved g t c =
    rw (one_more c.args.names.now c.names.name-index c.name-item.result c.names-test.true c.name-item.is)
    (clears_next (Unit {0}) tt tt c.args.dir.now c.in_ok-path.path (take c.names.name-index c.args.names.now) c.name-item.result _ _ _ _ _ _
    c.in_ok-path.ensures c.names.invariant c.in_ok-clear.ensures.clears)

pub clear_below-returns-clause-clears : goal.clear_below-returns-clause-clears
clear_below-returns-clause-clears g t c =
    clears_below c.clear_all.result c.args.dir.now c.in_ok-names.names c.as_slice.result.now _ _ _ _ _ (g.met.D.Disk.holds_a_tree c.args.disk.now)
    (look_rests _ _ _ c.in_ok-names.ensures.does) c.in_ok-names.ensures.names.told c.as_slice.ensures c.clear_all.ensures.clears
