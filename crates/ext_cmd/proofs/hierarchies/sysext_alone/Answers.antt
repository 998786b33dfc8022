use Rattle.std.proofs.Common.{refl, true, false, ◌∙◌}
use Rattle.ext_text.specs.declared.extension.Extension.TheVariants.{Confext}
use Rattle.ext_host.specs.Host.{default_hierarchies}
use Rattle.ext_cmd.proofs.ChosenLemmas.{default_refused}
use Rattle.ext_cmd.proofs.HierarchyLemmas.{apart_true, told_apart}
use Rattle.ext_cmd.proofs.hierarchies.sysext_alone.Goals as goal

pub returns-then-not-are_apart : goal.returns-then-not-are_apart
returns-then-not-are_apart c =
    default_refused c.args.sysext _ c.requires (told_apart _ _ _ _ false c.as_slice.ensures (c.as_slice-2.ensures ∙ c.in_ok-confext.ensures) c.if-not-are_apart.ensures) refl

pub returns : goal.returns
returns c =
    let others = default_hierarchies Confext in
    ((c.requires, apart_true c.args.sysext others (told_apart _ _ _ others true c.as_slice.ensures (c.as_slice-2.ensures ∙ c.in_ok-confext.ensures) c.if-not-are_apart.ensures)), refl)
