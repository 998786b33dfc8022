use Rattle.std.proofs.Common.{take}
use Rattle.ext_update.specs.Drafts.{AppendManifests}
use Rattle.ext_update.proofs.keeping.append_manifests.Given as goal

-- the manifests of the resources so far were appended
abbrev pub invariant-resources : goal.invariant-resources
invariant-resources l = AppendManifests l.root (take l.path-index l.resources) l.initial.manifests.items l.manifests.items
