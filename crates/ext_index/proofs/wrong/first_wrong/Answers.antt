use Rattle.std.proofs.Common.{sym, ◌∙◌}
use Rattle.std.proofs.lemmas.Bool.{true≢false}
use Rattle.ext_host.specs.Host.{hierarchies_in}
use Rattle.ext_index.specs.Sections.{listed}
use Rattle.ext_index.proofs.WrongLemmas.{first_wrong_at}
use Rattle.ext_index.proofs.wrong.first_wrong.Goals as goal

pub returns-then-not-is_right : goal.returns-then-not-is_right
returns-then-not-is_right c =
    first_wrong_at (hierarchies_in c.args.host.now) (listed c.args.sections) c.as_slice-manifest-items.result.now c.manifests.index c.manifest-item.result
    c.as_slice-manifest-items.ensures c.manifests-test.true c.manifest-item.is c.manifests.invariant
    (λ has. true≢false (sym (c.is_right.ensures.1 has) ∙ c.if-not-is_right.true))
