use Rattle.std.proofs.Common.{rules, not}
use Rattle.std.proofs.lemmas.Fn.{filter_same}
use Rattle.ext_versions.specs.Versions.{has_version}
use Rattle.ext_versions.proofs.versions.without.Goals as goal

pub returns : goal.returns
returns c = filter_same _ (λ v. not (has_version c.args.others.now v)) _ (λ x b f' h. search rules) _ _ c.retain.ensures.filtered
