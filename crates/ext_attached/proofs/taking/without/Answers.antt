use Rattle.std.proofs.Common.{◌≡◌, ℕ, List, ap, ◌∙◌, subst}
use Rattle.std.specs.Prelude.{IfOk}
use Rattle.ext_units.specs.ImageName.{first_part}
use Rattle.ext_attached.specs.Going.{detached}
use Rattle.ext_attached.specs.declared.going.By.TheVariants.{FirstPart}
use Rattle.ext_attached.proofs.DetachedLemmas.{are_planned}
use Rattle.ext_attached.proofs.taking.without.Goals as goal

pub returns-clause-gives : goal.returns-clause-gives
returns-clause-gives c =
    subst (λ (text : List ℕ). IfOk c.detached.result (λ next. next ≡ detached FirstPart text c.args.host.now))
    (c.first_part.ensures ∙ ap first_part c.name.ensures) c.detached.ensures

pub returns-clause-next : goal.returns-clause-next
returns-clause-next c = are_planned FirstPart c.first_part.result.now c.args.host.now c.requires c.detached.result c.detached.ensures
