use Rattle.std.proofs.Common.{rules, not, ap, ◌∙◌}
use Rattle.std.proofs.lemmas.Fn.{filter_same}
use Rattle.ext_text.specs.SortedPaths.{meets}
use Rattle.ext_host.specs.Touch.{untouched_all}
use Rattle.ext_host.specs.declared.manifest.Manifest.{Manifest}
use Rattle.ext_host.proofs.touch.untouched_all.Goals as goal

pub returns : goal.returns
returns c =
    c.from_vec.ensures ∙ filter_same _ (λ (manifest : Manifest). not (meets c.args.paths.now manifest.path)) _ (λ x b f' h. search rules) _ _ c.retain.ensures.filtered
    ∙ ap (untouched_all c.args.paths.now) c.into_vec-rest.ensures
