use Rattle.ext_index.specs.ValidIndex.{IsWellFormedManifest}
use Rattle.ext_gen.proofs.PreparingListLemmas.{each_more, each_whole}
use Rattle.ext_gen.proofs.preparing.forms.look_at_manifests.Goals as goal

pub manifests-preserved : goal.manifests-preserved
manifests-preserved c = each_more IsWellFormedManifest c.args.manifests.now c.manifests.manifest-index c.manifest-item.result c.manifests-test.true c.manifest-item.is c.manifests.invariant c.look_at_manifest.ensures

pub returns : goal.returns
returns c = each_whole IsWellFormedManifest c.args.manifests.now c.manifests.manifest-index c.manifests-test.false c.manifests.invariant
