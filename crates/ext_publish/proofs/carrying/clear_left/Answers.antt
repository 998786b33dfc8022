use Rattle.std.proofs.Common.{◌∙◌}
use Rattle.ext_publish.proofs.StagesLemmas.{cleared_spares, cleared_told, uncleared_told}
use Rattle.ext_publish.proofs.carrying.clear_left.Goals as goal

pub returns-in-Ok-clause-spares : goal.returns-in-Ok-clause-spares
returns-in-Ok-clause-spares g c =
    cleared_spares c.args.asked.now c.folder.result.now c.as_slice.result.now _ _ c.folder.ensures.same (c.as_slice.ensures ∙ c.in_ok-names.ensures) c.remove_below.ensures.spares

pub returns-in-Ok-clause-ends : goal.returns-in-Ok-clause-ends
returns-in-Ok-clause-ends g c =
    cleared_told {U = Unit {0}} c.remove_below.result _ (tt {0}) c.args.asked.now c.folder.result.now c.as_slice.result.now (g.O.Disk.state c.args.out.now) (g.O.Disk.state c.remove_below.new.disk) c.in-Ok.is c.folder.ensures.same
    (c.as_slice.ensures ∙ c.in_ok-names.ensures) c.remove_below.ensures.removes

pub returns-clause-spares : goal.returns-clause-spares
returns-clause-spares g c =
    cleared_spares c.args.asked.now c.folder.result.now c.as_slice.result.now _ _ c.folder.ensures.same (c.as_slice.ensures ∙ c.in_ok-names.ensures) c.remove_below.ensures.spares

pub returns-clause-ends : goal.returns-clause-ends
returns-clause-ends g c =
    uncleared_told (Unit {0}) c.remove_below.result c.in-Err.uncleaned c.stop_of_clean.result c.args.asked.now c.folder.result.now c.as_slice.result.now (g.O.Disk.state c.args.out.now) (g.O.Disk.state c.remove_below.new.disk) c.in-Err.is
    c.stop_of_clean.ensures c.folder.ensures.same (c.as_slice.ensures ∙ c.in_ok-names.ensures) c.remove_below.ensures.removes
