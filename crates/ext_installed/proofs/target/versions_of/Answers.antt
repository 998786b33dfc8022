use Rattle.std.proofs.Common.{map, ap, subst, ◌∙◌, List, ℕ}
use Rattle.std.proofs.lemmas.List.{take_all}
use Rattle.ext_versions.specs.Versions.{AreVersions}
use Rattle.ext_installed.specs.declared.instance.Instance.{Instance}
use Rattle.ext_installed.proofs.target.versions_of.Goals as goal

pub returns : goal.returns
returns c =
    subst (λ (versions : List (List ℕ)). AreVersions versions c.of.result)
    (c.items.invariant ∙ ap (map (λ (item : Instance). item.version)) (take_all c.items.item-index c.args.items.now c.items-test.false)) c.of.ensures
