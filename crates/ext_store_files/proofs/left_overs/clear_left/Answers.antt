use Rattle.ext_disk.proofs.ForCallers.{look_rests}
use Rattle.std.proofs.Common.{◌∙◌}
use Rattle.ext_store_files.specs.LeftOvers.{has_generation}
use Rattle.ext_store_files.proofs.LeftOversLemmas.{clears_left}
use Rattle.ext_store_files.proofs.left_overs.clear_left.Goals as goal

pub returns-clause-clears : goal.returns-clause-clears
returns-clause-clears g c =
    clears_left c.clear_all.result (has_generation c.args.needed.now) c.store_folder-folder.result c.in_ok-list.field-0 c.as_slice.result.now _ _ _ _ _ c.store_folder-folder.ensures
    (g.met.D.Disk.holds_a_tree c.args.disk.now) (look_rests _ _ _ c.in_ok-list.ensures.does) c.in_ok-list.ensures.names.told
    (c.as_slice.ensures.value ∙ c.left_names-names.ensures) c.clear_all.ensures.clears
