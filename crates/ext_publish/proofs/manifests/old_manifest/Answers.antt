use Rattle.std.proofs.Common.{ℕ, List, subst}
use Rattle.ext_publish.specs.Looking.{ManifestFound}
use Rattle.ext_published.specs.Manifest.{most_published_text}
use Rattle.ext_store_files.specs.Reading.{IsFoundAt}
use Rattle.ext_publish.proofs.LookingLemmas.{text_cause, text_short}
use Rattle.ext_publish.proofs.manifests.old_manifest.Goals as goal

pub returns-clause-short : goal.returns-clause-short
returns-clause-short g c = text_short c.args.manifest.now _ c.text_found.result c.text_found.ensures

pub returns-clause-cause : goal.returns-clause-cause
returns-clause-cause g c =
    text_cause c.args.asked.now (g.O.Disk.state c.args.out.now) (g.O.Disk.state c.read_file.new.disk) c.in_ok-found.found c.text_found.result
    (subst (λ (p : List (List ℕ)). IsFoundAt (g.O.Disk.state c.args.out.now) p most_published_text c.in_ok-found.found) c.requires c.in_ok-found.ensures.found)
    (subst (λ (p : List (List ℕ)). ManifestFound p c.in_ok-found.found c.text_found.result) c.requires c.text_found.ensures)
