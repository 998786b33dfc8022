use Rattle.ext_store_files.specs.LeftOvers.{is_left_path, has_generation, most_left_overs}
use Rattle.ext_store_files.proofs.LeftOversLemmas.{removes, removal_appends_nothing}
use Rattle.ext_store_files.proofs.left_overs.remove_left_overs.Goals as goal

pub returns-clause-removes : goal.returns-clause-removes
returns-clause-removes g c = removes most_left_overs _ (is_left_path (has_generation c.args.needed.now)) c.clear_left.result _ _ c.clear_left.ensures.clears

pub returns-clause-appended : goal.returns-clause-appended
returns-clause-appended g c = removal_appends_nothing most_left_overs _ (is_left_path (has_generation c.args.needed.now)) c.clear_left.result _ _ c.clear_left.ensures.clears
