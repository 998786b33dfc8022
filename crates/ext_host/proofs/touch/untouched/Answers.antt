use Rattle.std.proofs.Common.{rules, not, ap, ◌∙◌}
use Rattle.std.proofs.lemmas.Fn.{filter_same}
use Rattle.ext_text.specs.Path.{are_related}
use Rattle.ext_host.specs.Touch.{untouched}
use Rattle.ext_host.specs.declared.manifest.Manifest.{Manifest}
use Rattle.ext_host.proofs.touch.untouched.Goals as goal

pub returns : goal.returns
returns c =
    c.from_vec.ensures ∙ filter_same _ (λ (manifest : Manifest). not (are_related manifest.path c.args.path.now)) _ (λ x b f' h. search rules) _ _ c.retain.ensures.filtered
    ∙ ap (untouched c.args.path.now) c.into_vec-rest.ensures
