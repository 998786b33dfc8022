use Rattle.std.proofs.Common.{take}
use Rattle.std.specs.List.{AllByRecursion}
use Rattle.ext_index.specs.ValidIndex.{IsWellFormedManifest}
use Rattle.ext_gen.proofs.preparing.forms.look_at_manifests.Given as goal

-- those so far are
abbrev pub invariant-manifests : goal.invariant-manifests
invariant-manifests l = AllByRecursion IsWellFormedManifest (take l.manifest-index l.manifests)
