use Rattle.ext_store_files.specs.LeftOvers.{most_left_overs}
use Rattle.ext_store_files.specs.Removal.{is_below_any}
use Rattle.ext_store_files.proofs.LeftOversLemmas.{removes, removal_appends_nothing}
use Rattle.ext_store_files.proofs.left_overs.remove_below.Goals as goal

pub returns-clause-removes : goal.returns-clause-removes
returns-clause-removes g c = removes most_left_overs _ (is_below_any c.args.dir.now c.args.names.now) c.clear_all.result _ _ c.clear_all.ensures.clears

pub returns-clause-appended : goal.returns-clause-appended
returns-clause-appended g c = removal_appends_nothing most_left_overs _ (is_below_any c.args.dir.now c.args.names.now) c.clear_all.result _ _ c.clear_all.ensures.clears
