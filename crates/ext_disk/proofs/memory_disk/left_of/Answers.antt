use Rattle.std.proofs.Common.{sym, subst}
use Rattle.std.proofs.lemmas.Result.{IfOk-weaker}
use Rattle.ext_disk.specs.DiskEntries.{IsGrown}
use Rattle.ext_disk.specs.Memory.{came_to}
use Rattle.ext_disk.proofs.StoppedLemmas.{left_places}
use Rattle.ext_disk.proofs.PickedLemmas.{picked_grows}
use Rattle.ext_disk.proofs.memory_disk.left_of.Goals as goal

pub returns-clause-picked : goal.returns-clause-picked
returns-clause-picked c =
    IfOk-weaker c.left_by_stop.result _ _ (λ given is. left_places c.args.pick (came_to c.args.history) _ given.items c.into_disk_entries-disk_entries.ensures.places is) c.left_by_stop.ensures.picked

pub returns-clause-grown : goal.returns-clause-grown
returns-clause-grown c =
    IfOk-weaker c.left_by_stop.result _ _
    (λ given is.
    subst IsGrown (sym (left_places c.args.pick (came_to c.args.history) _ given.items c.into_disk_entries-disk_entries.ensures.places is))
    (picked_grows c.args.pick (came_to c.args.history) c.into_disk_entries-disk_entries.ensures.grown))
    c.left_by_stop.ensures.picked
