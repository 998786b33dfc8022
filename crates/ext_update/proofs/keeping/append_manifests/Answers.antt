use Rattle.ext_update.proofs.ManifestLemmas.{appends_next}
use Rattle.ext_update.proofs.keeping.append_manifests.Goals as goal

pub resources-preserved : goal.resources-preserved
resources-preserved c =
    appends_next c.args.root.now c.args.resources.now c.resources.path-index c.path-item.result c.args.manifests.now.items
    c.resources.manifests.items c.push.new.self.items c.in_ok-manifest_at.field-0 c.resources-test.true c.path-item.is
    c.resources.invariant c.in_ok-manifest_at.ensures c.in_ok-push.ensures.items
