use Rattle.std.proofs.Common.{◌≡◌, ◌∙◌, ap}
use Rattle.ext_disk.specs.Picked.{picked_place}
use Rattle.ext_disk.specs.Memory.{came_to}
use Rattle.ext_disk.specs.Deeds.{replay}
use Rattle.ext_disk.proofs.StoppedLemmas.{stopped_tree}
use Rattle.ext_disk.proofs.memory_disk.MemoryDisk.after_stop.Goals as goal

pub returns-clause-left : goal.returns-clause-left
returns-clause-left c =
    let same : came_to c.in_ok-history.history ≡ picked_place c.args.pick (came_to c.args.self.history) =
    ap (λ g. replay g c.in_ok-history.history.deeds.items) c.in_ok-history.ensures.given ∙ ap (replay c.in_ok-given.given.items) c.in_ok-history.ensures.deeds ∙ c.in_ok-given.ensures.picked in
    stopped_tree c.args.pick (came_to c.args.self.history) (came_to c.in_ok-history.history) same

pub returns-clause-picked : goal.returns-clause-picked
returns-clause-picked c =
    ap (λ g. replay g c.in_ok-history.history.deeds.items) c.in_ok-history.ensures.given ∙ ap (replay c.in_ok-given.given.items) c.in_ok-history.ensures.deeds ∙ c.in_ok-given.ensures.picked
