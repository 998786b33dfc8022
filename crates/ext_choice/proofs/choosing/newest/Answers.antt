use Rattle.std.proofs.Common.{sym, ap, ◌∙◌}
use Rattle.ext_choice.specs.Choice.{exceeds}
use Rattle.ext_choice.proofs.ChoosingLemmas.{newest, no_newest}
use Rattle.ext_choice.proofs.choosing.newest.Goals as goal

pub returns-then-exceeds : goal.returns-then-exceeds
returns-then-exceeds c =
    let v = c.in-Some.version.now in (
      v,
      sym c.in-Some.ensures.value,
      newest c.args.available.now c.args.installed.now v c.requires.available c.requires.installed (sym c.in-Some.ensures.value)
          (ap (exceeds v) (sym c.last-last.ensures.value) ∙ sym c.exceeds.ensures ∙ c.if-exceeds.true),
    )

pub returns-else-exceeds : goal.returns-else-exceeds
returns-else-exceeds c =
    let v = c.in-Some.version.now in
    no_newest c.args.available.now c.args.installed.now v c.requires.available (sym c.in-Some.ensures.value)
    (ap (exceeds v) (sym c.last-last.ensures.value) ∙ sym c.exceeds.ensures ∙ c.if-exceeds.false)
