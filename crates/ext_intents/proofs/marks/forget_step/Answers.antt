use Rattle.std.proofs.Common.{ap, ◌∙◌}
use Rattle.ext_cmd.specs.declared.refusal.Refusal.TheVariants.{NoMark}
use Rattle.ext_intents.specs.declared.intent.Intent.TheVariants.{Refuses}
use Rattle.ext_intents.proofs.MarksLemmas.{forgotten, not_forgotten}
use Rattle.ext_intents.proofs.marks.forget_step.Goals as goal

pub returns-in-Ok : goal.returns-in-Ok
returns-in-Ok c = forgotten c.args.host.now c.requires c.args.which c.in-Ok.next c.in-Ok.ensures.says

pub returns-in-Err-NoMark : goal.returns-in-Err-NoMark
returns-in-Err-NoMark c =
    let says = rw c.in-Err-NoMark.field-0-is at c.in-Err-NoMark.ensures.says in
    ap (λ n. Refuses (NoMark n)) says.0 ∙ not_forgotten c.args.host.now c.requires c.args.which says.1
