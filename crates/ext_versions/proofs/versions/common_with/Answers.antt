use Rattle.std.proofs.Common.{rules}
use Rattle.std.proofs.lemmas.Fn.{filter_same}
use Rattle.ext_versions.specs.Versions.{each_has_version}
use Rattle.ext_versions.proofs.versions.common_with.Goals as goal

pub returns : goal.returns
returns c = filter_same _ (each_has_version c.args.lists.now) _ (λ x b f' h. search rules) _ _ c.retain.ensures.filtered
