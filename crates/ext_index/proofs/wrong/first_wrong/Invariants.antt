use Rattle.std.proofs.Common.{take}
use Rattle.std.specs.List.{AllByRecursion}
use Rattle.ext_host.specs.Host.{base_at, hierarchies_in}
use Rattle.ext_host.specs.Valid.{HasItems}
use Rattle.ext_index.specs.Sections.{listed}
use Rattle.ext_index.proofs.wrong.first_wrong.Given as goal

abbrev pub invariant-manifests : goal.invariant-manifests
invariant-manifests l = AllByRecursion (HasItems (base_at (hierarchies_in l.host) (listed l.sections))) (take l.index (listed l.sections).kept)
